-- A round over all situations, one after the other. Assumes nothing.
use Prim.Native.Nat.{ℕ, ◌+◌, ◌^◌, ◌<◌, ◌≤◌}
use native.Mathlib.Omega.{arith}
use native.Mathlib.Decide.{ℕ_discrete, dec_lt}
use borrow.Author.Count.{below_more}
use mathlib.Core.Path.{◌≡◌, sym, ap, ◌∙◌, subst}
use mathlib.Core.Bool.{Bool, true, false}
use mathlib.Core.Logic.{⊎_elim}
use mathlib.Core.List.{List}
use lib.ListN.{length, get_or, set, length-set}
use lib.Seq.{get_or-set_same, get_or-set_other}
use lib.Bits.{bit_or, or_lt}
use lib.Count.{ones}
use Rattle.card.specs.Table.{Row}
use Rattle.card.specs.Run.{In, sit}
use Rattle.card.specs.Decode.{table_at}
use Rattle.loader.specs.Flow.{total, Spread, Sub, Flowed, Round, Sweep, Ready}
use Rattle.ground.specs.Bits.{bit_of}
use Rattle.ground.proofs.Masks.{or_one, or_right, or_grows}
use Rattle.loader.proofs.Passes.{no_flag}
use Rattle.loader.proofs.Totals.{total_set}
use Rattle.loader.proofs.Situated.{rows_here, count_most, no_row}

-- the situations before q have been asked
pub record Sweeping (s may seen seen₀ : List ℕ) (changed : Bool) (q : ℕ) : Type 0 where
  pub round : Round (table_at s) may seen
  pub still : changed ≡ false → (p : ℕ) → p < q → Sub (get_or may p 0) (get_or seen p 0)
  pub kept : total seen₀ ≤ total seen
  pub grows : changed ≡ true → total seen₀ < total seen

pub sweeping_none : {s may seen : List ℕ} → Round (table_at s) may seen → Sweeping s may seen seen false 0
sweeping_none r = record {
  round = r;
  still = λ _ p l. absurd (omega arith);
  kept = omega arith;
  grows = λ e. absurd (no_flag (sym e));
}

module _ {s may seen seen₀ : List ℕ} {changed : Bool} {q : ℕ} (w : Sweeping s may seen seen₀ changed q) where
  -- its set has not grown
  pub sweeping_same : bit_or (get_or seen q 0) (get_or may q 0) ≡ get_or seen q 0 → Sweeping s may seen seen₀ changed (q + 1)
  sweeping_same e = record {
    round = w.round;
    still = λ f. below_more (λ p. Sub (get_or may p 0) (get_or seen p 0)) q (w.still f)
        (λ r b. subst (λ (k : ℕ). bit_of k r ≡ 1) e (or_right (get_or seen q 0) (get_or may q 0) r b));
    kept = w.kept;
    grows = w.grows;
  }

  module _ {places : List ℕ} (ready : Ready s places) (l : q < get_or s 4 0) where
    -- it has, and flowed along its rows
    module _
        {may' : List ℕ} (all : ℕ) (e : all ≡ bit_or (get_or seen q 0) (get_or may q 0)) (n : all ≡ get_or seen q 0 → ⊥)
        (f : Flowed s (get_or places q 0 + 10) q may may') where
      in_seen : q < length seen
      in_seen = omega (arith, w.round.seen_words.long, count_most ready)

      at_q : get_or (set seen q all) q 0 ≡ all
      at_q = get_or-set_same seen q all 0 in_seen

      at_other : (p : ℕ) → (p ≡ q → ⊥) → get_or (set seen q all) p 0 ≡ get_or seen p 0
      at_other p d = get_or-set_other seen q p all 0 d

      all_had : Sub all (get_or may q 0)
      all_had r b =
          ⊎_elim (λ (h : bit_of (get_or seen q 0) r ≡ 1). w.round.had q r h) (λ (h : bit_of (get_or may q 0) r ≡ 1). h)
          (or_one (get_or seen q 0) (get_or may q 0) r (subst (λ (k : ℕ). bit_of k r ≡ 1) e b))

      small_at : (p : ℕ) → Dec (p ≡ q) → get_or (set seen q all) p 0 < 2 ^ 64
      small_at p (yes d) = rw (d, at_q, e) (or_lt 64 _ _ (w.round.seen_words.small q) (w.round.words.small q))
      small_at p (no d) = rw (at_other p d) (w.round.seen_words.small p)

      had_at : (p : ℕ) → Dec (p ≡ q) → Sub (get_or (set seen q all) p 0) (get_or may' p 0)
      had_at p (yes d) r b = rw d (f.pass.keeps q r (all_had r (rw (d, at_q) at b)))
      had_at p (no d) r b = f.pass.keeps p r (w.round.had p r (rw (at_other p d) at b))

      sent_at : (p : ℕ) → Dec (p ≡ q) → (x : Row) → In x (sit (table_at s) p).rows → Spread (get_or (set seen q all) p 0) may' x
      sent_at p (yes d) x i r b c =
          f.spread x (subst (λ (y : List Row). In x y) (sym (rows_here ready l)) (rw d at i)) r (all_had r (rw (d, at_q) at b)) c
      sent_at p (no d) x i r b c = f.pass.keeps x.next r (w.round.sent p x i r (rw (at_other p d) at b) c)

      more_total : total seen < total (set seen q all)
      more_total =
          omega (
            arith,
            total_set seen q all in_seen,
            ap ones e,
            or_grows 64 (get_or seen q 0) (get_or may q 0) (w.round.seen_words.small q) (w.round.words.small q) (λ z. n (e ∙ z)),
          )

      pub sweeping_more : Sweeping s may' (set seen q all) seen₀ true (q + 1)
      sweeping_more = record {
        round = record {
          words = f.pass.words;
          seen_words = record { long = length-set seen q all ∙ w.round.seen_words.long; small = λ p. small_at p (ℕ_discrete p q) };
          first = λ r b. f.pass.keeps 0 r (w.round.first r b);
          ways = f.pass.ways _ w.round.ways;
          had = λ p. had_at p (ℕ_discrete p q);
          sent = λ p. sent_at p (ℕ_discrete p q);
        };
        still = λ z. absurd (no_flag z);
        kept = omega (arith, more_total, w.kept);
        grows = λ _. omega (arith, more_total, w.kept);
      }

  pub sweeping_all : {places : List ℕ} → Ready s places → get_or s 4 0 ≤ q → Sweep (table_at s) may seen seen₀ changed
  sweeping_all ready h = record {
    round = w.round;
    still = λ e p x i. by e p x i (dec_lt p q);
    kept = w.kept;
    grows = w.grows;
  }
    where
      by : changed ≡ false → (p : ℕ) (x : Row) → In x (sit (table_at s) p).rows → Dec (p < q) → Spread (get_or may p 0) may x
      by e p x i (yes k) = λ r b c. w.round.sent p x i r (w.still e p k r b) c
      by e p x i (no k) = absurd (no_row ready (omega arith) x i)
