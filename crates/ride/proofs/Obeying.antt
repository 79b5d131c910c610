-- The commands of an entry carried out: SETs alone, a block, a whole list. Assumes nothing.
use Prim.Native.Nat.{ℕ, zero, suc, ◌+◌, ◌/◌, ◌%◌, ◌<◌, ◌≤◌}
use native.Mathlib.Omega.{arith}
use native.Mathlib.Decide.{ℕ_discrete}
use mathlib.Core.Path.{◌≡◌, refl, sym, ap, ◌∙◌, subst}
use mathlib.Core.Bool.{Bool, true, false}
use mathlib.Core.Logic.{◌⊎◌, inl, inr}
use mathlib.Core.List.{List, [], ◌∷◌, ◌++◌}
use lib.ListN.{length, set}
use lib.IntN.{pos}
use borrow.Author.Tests.{le-leb, lt-leb}
use Rattle.ground.proofs.Tests.{lt_or_le}
use Rattle.card.specs.Table.{Cmd, move, put}
use Rattle.card.specs.Run.{Bank}
use Rattle.card.specs.Decode.{cmd_at, cmds_at}
use Rattle.card.specs.declared.Order.{Order}
use Rattle.card.specs.declared.Order.TheVariants.{Move, Put, Stop}
use Rattle.card.proofs.Laws.{cmds_step}
use Rattle.run.specs.Carry.{carry}
use Rattle.run.proofs.Cells.{Sources, sources_at}
use Rattle.image.specs.Image.{puts, moves, block, misfit, kind_of, cell_of, list_of}
use Rattle.ride.specs.Ride.{only_sets, orders, listless}
use Rattle.blocks.specs.Blocked.{Blocked}
use Rattle.ride.specs.Need.{Obeyed}
use Rattle.image.proofs.Blocks.{in_bank}
use Rattle.ride.proofs.Ordered.{none_ordered, one_ordered, block_listed, block_ordered, list_listed, sets_ordered, all_ordered}

-- ---- SETs alone

module _ (s : List ℕ) (i p : ℕ) (old cur : Bank) where
  abbrev rest : List Cmd → Bank
  rest l = carry (only_sets l) p old cur

  pub sets_put : (t : ℕ) → cmd_at s i ≡ Put t → carry (only_sets (cmds_at s (i + 2))) p old (set cur t (pos p)) ≡ carry (only_sets (cmds_at s i)) p old cur
  unfolding carry
  sets_put t e = sym (ap rest (cmds_step s i (Put t) e))

  -- another command, or none
  pub sets_end : (o : Order) → o ≡ cmd_at s i → ((t : ℕ) → o ≡ Put t → ⊥) → cur ≡ carry (only_sets (cmds_at s i)) p old cur
  unfolding carry
  sets_end (Put t) e n = absurd (n t refl)
  sets_end (Move t f) e n = sym (ap rest (cmds_step s i (Move t f) (sym e)))
  sets_end Stop e n = sym (ap rest (cmds_step s i Stop (sym e)))

-- ---- an entry that is not of kind 0

module _ (s : List ℕ) (e p : ℕ) (old : Bank) where
  is_done : {new : Bank} → listless s e ≡ false → (l : List Cmd) → orders s e ≡ l → new ≡ carry l p old old → Obeyed s e p old new true
  is_done h l o n = record {
    done = λ _. (h, n ∙ sym (ap (λ (x : List Cmd). carry x p old old) o));
    past = λ z. let y : ◌≡◌ {A = ℕ} 0 1 = cc in absurd (omega arith);
  }

  pub obeyed_block : kind_of e ≡ 1 → {new : Bank} {r : Bool} → Blocked (list_of e) p old new r → Obeyed s e p old new r
  obeyed_block k o = record {
    done = λ z.
        (block_listed s e k ∙ (o.done z).0, (o.done z).1 ∙ sym (ap (λ (x : List Cmd). carry x p old old) (block_ordered s e k)));
    past = λ z. block_listed s e k ∙ o.past z;
  }

  module _ (some : 1073741824 ≤ e) (n : kind_of e ≡ 1 → ⊥) where
    no_one : kind_of e ≡ 0 → ⊥
    no_one z = omega arith

    pub obeyed_past : length s ≤ list_of e → {new : Bank} → Obeyed s e p old new false
    obeyed_past l = record {
      done = λ z. let y : ◌≡◌ {A = ℕ} 0 1 = cc in absurd (omega arith);
      past = λ _. list_listed s e no_one n true (le-leb (length s) (list_of e) l);
    }

    module _ (l : list_of e < length s) where
      inside : listless s e ≡ false
      inside = list_listed s e no_one n false (lt-leb (length s) (list_of e) l)

      pub obeyed_sets : {new : Bank} → kind_of e ≡ 2 → new ≡ carry (only_sets (cmds_at s (list_of e))) p old old → Obeyed s e p old new true
      obeyed_sets h = is_done inside (only_sets (cmds_at s (list_of e))) (sets_ordered s e h)

      pub obeyed_all : {new : Bank} → (kind_of e ≡ 2 → ⊥) → new ≡ carry (cmds_at s (list_of e)) p old old → Obeyed s e p old new true
      obeyed_all h = is_done inside (cmds_at s (list_of e)) (all_ordered s e no_one n h)

-- ---- an entry's commands read registers alone

pub sources_sets : (l : List Cmd) → Sources (only_sets l)
sources_sets [] = tt
sources_sets (move t f ∷ l) = tt
sources_sets (put t ∷ l) = sources_sets l

sources_moves : (a f n : ℕ) → f + n ≤ 64 → Sources (moves a f n)
sources_moves a f zero h = tt
sources_moves a f (suc n) h = (omega arith, sources_moves (suc a) (suc f) n (omega arith))

sources_puts : (a k : ℕ) (l : List Cmd) → Sources l → Sources (puts a k ++ l)
sources_puts a zero l h = h
sources_puts a (suc k) l h = sources_puts (suc a) k l h

sources_block : (a k f n : ℕ) → misfit a k f n ≡ false → Sources (block a k f n)
sources_block a k f n h = sources_puts a k (moves (a + k) f n) (sources_moves (a + k) f n (let i = in_bank a k f n h in omega arith))

module _ (s : List ℕ) (e : ℕ) where
  by : {l : List Cmd} → orders s e ≡ l → Sources l → Sources (orders s e)
  by o h = subst Sources (sym o) h

  low_one : kind_of e ≡ 0 → (cell_of e < 64) ⊎ (64 ≤ cell_of e) → Sources (orders s e)
  low_one k (inl h) = by (one_ordered s e k h) tt
  low_one k (inr h) = by (none_ordered s e k h) tt

  low_list : (kind_of e ≡ 0 → ⊥) → (kind_of e ≡ 1 → ⊥) → Dec (kind_of e ≡ 2) → Sources (orders s e)
  low_list k h (yes t) = by (sets_ordered s e t) (sources_sets (cmds_at s (list_of e)))
  low_list k h (no t) = by (all_ordered s e k h t) (sources_at s (list_of e))

  low_some : (kind_of e ≡ 0 → ⊥) → listless s e ≡ false → Dec (kind_of e ≡ 1) → Sources (orders s e)
  low_some k f (yes h) =
      by (block_ordered s e h)
      (sources_block (list_of e % 64) (list_of e / 64 % 32 + 1) (list_of e / 131072) (list_of e / 2048 % 64) (sym (block_listed s e h) ∙ f))
  low_some k f (no h) = low_list k h (ℕ_discrete (kind_of e) 2)

  low_any : listless s e ≡ false → Dec (kind_of e ≡ 0) → Sources (orders s e)
  low_any f (yes k) = low_one k (lt_or_le (cell_of e) 64)
  low_any f (no k) = low_some k f (ℕ_discrete (kind_of e) 1)

  pub ordered_low : listless s e ≡ false → Sources (orders s e)
  ordered_low f = low_any f (ℕ_discrete (kind_of e) 0)
