-- A list of commands read at a place: its two sets and its end, command by command. Assumes nothing.
use Prim.Native.Nat.{ℕ, ◌+◌, ◌*◌, ◌%◌, ◌^◌, ◌<◌, ◌≤◌}
use native.Mathlib.Omega.{arith}
use mathlib.Core.Path.{◌≡◌, refl, sym, ap, ◌∙◌, subst}
use mathlib.Core.Bool.{Bool, true, false}
use mathlib.Core.List.{List}
use lib.Bits.{bit_or}
use lib.Dec.{eqb}
use lib.Pow.{shl_exact}
use borrow.Author.Tests.{eqb-true, eqb-false}
use Rattle.card.specs.Decode.{cmd_at, cmds_at, after_at}
use Rattle.card.specs.declared.Order.TheVariants.{Move, Put, Stop}
use Rattle.card.proofs.Laws.{cmds_step}
use Rattle.card.proofs.Rows.{after_step}
use Rattle.loader.specs.Flow.{Says, written, asked, Listed}

-- the set of one register
pub one_bit : (r : ℕ) → r < 64 → 1 * 2 ^ r % 2 ^ 64 ≡ 2 ^ r
one_bit r l = shl_exact 1 r 64 (omega arith) (omega arith) ∙ omega arith

-- a test of two numbers says whether they are equal
pub says_equal : (a b : ℕ) → Says (a ≡ b) (eqb a b)
says_equal a b = by (eqb a b) refl
  where
    by : (t : Bool) → eqb a b ≡ t → Says (a ≡ b) t
    by true e = eqb-true a b e
    by false e = eqb-false a b e

-- what a yes or a no said
pub says_yes : {P : Type 0} {b : Bool} → b ≡ true → Says P b → P
says_yes {P} e h = subst (λ (t : Bool). Says P t) e h

pub says_no : {P : Type 0} {b : Bool} → b ≡ false → Says P b → P → ⊥
says_no {P} e h = subst (λ (t : Bool). Says P t) e h

pub record Listing (s : List ℕ) (at w r i : ℕ) : Type 0 where
  pub writes : written w (cmds_at s i) ≡ written 0 (cmds_at s at)
  pub reads : asked r (cmds_at s i) ≡ asked 0 (cmds_at s at)
  pub end : after_at s i ≡ after_at s at
  pub onward : at ≤ i

pub listing_none : (s : List ℕ) (at : ℕ) → Listing s at 0 0 at
listing_none s at = record { writes = refl; reads = refl; end = refl; onward = omega arith }

module _ {s : List ℕ} {at w r i : ℕ} (l : Listing s at w r i) where
  pub listing_move : {t f : ℕ} → cmd_at s i ≡ Move t f → Listing s at (bit_or w (2 ^ t)) (bit_or r (2 ^ f)) (i + 3)
  unfolding written asked
  listing_move {t} {f} e = record {
    writes = sym (ap (written w) (cmds_step s i (Move t f) e)) ∙ l.writes;
    reads = sym (ap (asked r) (cmds_step s i (Move t f) e)) ∙ l.reads;
    end = sym (after_step s i (Move t f) e) ∙ l.end;
    onward = omega arith;
  }

  pub listing_put : {t : ℕ} → cmd_at s i ≡ Put t → Listing s at (bit_or w (2 ^ t)) r (i + 2)
  unfolding written asked
  listing_put {t} e = record {
    writes = sym (ap (written w) (cmds_step s i (Put t) e)) ∙ l.writes;
    reads = sym (ap (asked r) (cmds_step s i (Put t) e)) ∙ l.reads;
    end = sym (after_step s i (Put t) e) ∙ l.end;
    onward = omega arith;
  }

  pub listing_stop : cmd_at s i ≡ Stop → Listed s at w r i
  unfolding written asked
  listing_stop e = record {
    writes = sym (ap (written w) (cmds_step s i Stop e)) ∙ l.writes;
    reads = sym (ap (asked r) (cmds_step s i Stop e)) ∙ l.reads;
    end = sym (after_step s i Stop e) ∙ l.end;
    onward = l.onward;
  }
