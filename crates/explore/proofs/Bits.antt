-- Marks in an array, absent places, and laws of lists and tests. Assumes nothing.
use mathlib.Core.Path.{◌≡◌, refl, sym, ap, ◌∙◌}
use mathlib.Core.Bool.{Bool, true, false, ◌||◌}
use mathlib.Core.List.{List, [], ◌∷◌, ◌++◌, foldl}
use mathlib.Core.Option.{none, some}
use Prim.Native.Nat.{ℕ, zero, suc, ◌+◌, ◌≤◌, ◌<◌}
use native.Mathlib.Numerals.{add-one}
use native.Mathlib.Omega.{arith}
use lib.Dec.{eqb, eqb_refl}
use lib.ListN.{length, get_or, set, replicate, length-set}
use lib.Seq.{get_or-set_same, get_or-set_other}
use borrow.Author.Tests.{ne_eqb}
use Rattle.std.proofs.lemmas.Bool.{true≢false}
use Rattle.ground.proofs.Tests.{or_false, or_assoc}
use Rattle.paths.specs.Search.{has}
use Rattle.paths.proofs.Member.{of_T}
use Rattle.explore.specs.States.{ones, opt, count_of, MarkedBy}

pub ones_le : (l : List Bool) → ones l ≤ length l
ones_le [] = omega arith
ones_le (true ∷ l) = let h = ones_le l in omega arith
ones_le (false ∷ l) = let h = ones_le l in omega arith

pub ones_set : (l : List Bool) (r : ℕ) → r < length l → get_or l r false ≡ false → ones (set l r true) ≡ ones l + 1
ones_set [] r b h = absurd (omega arith)
ones_set (true ∷ l) zero b h = absurd (true≢false h)
ones_set (false ∷ l) zero b h = sym (add-one (ones l))
ones_set (true ∷ l) (suc r) b h = ap suc (ones_set l r (omega arith) h) ∙ omega arith
ones_set (false ∷ l) (suc r) b h = ones_set l r (omega arith) h

-- r is marked
pub marked_by : (m : List Bool) (r i : ℕ) → i ≡ r → length m ≡ 64 → r < 64 → MarkedBy m r (set m i true)
unfolding count_of
marked_by m r i e l h =
    rw e
    (record {
      size = length-set m r true;
      here = get_or-set_same m r true false (omega arith);
      else = λ q d. get_or-set_other m r q true false d;
      more = ones_set m r (omega arith);
      room = omega (arith, ones_le (set m r true), length-set m r true);
    })

pub foldl_append : {A B : Type 0} (g : B → A → B) (z : B) (l k : List A) → foldl g z (l ++ k) ≡ foldl g (foldl g z l) k
foldl_append g z [] k = refl
foldl_append g z (x ∷ l) k = foldl_append g (g z x) l k

pub or_true : (a : Bool) → a || true ≡ true
or_true true = refl
or_true false = refl

has_append : (r : ℕ) (l k : List ℕ) → has r (l ++ k) ≡ has r l || has r k
has_append r [] k = refl
has_append r (x ∷ l) k = ap (λ v. eqb r x || v) (has_append r l k) ∙ sym (or_assoc (eqb r x) (has r l) (has r k))

pub has_last : (l : List ℕ) (r : ℕ) → has r (l ++ (r ∷ [])) ≡ true
has_last l r = has_append r l (r ∷ []) ∙ ap (λ v. has r l || (v || false)) (of_T (eqb r r) (eqb_refl r)) ∙ or_true (has r l)

pub has_else : (l : List ℕ) (q r : ℕ) → (q ≡ r → ⊥) → has q (l ++ (r ∷ [])) ≡ has q l
has_else l q r h = has_append q l (r ∷ []) ∙ ap (λ v. has q l || (v || false)) (ne_eqb q r h) ∙ or_false (has q l)

pub none_marked : (n r : ℕ) → get_or (replicate n false) r false ≡ false
none_marked zero r = refl
none_marked (suc n) zero = refl
none_marked (suc n) (suc r) = none_marked n r

pub opt_none : (v : ℕ) → v ≡ 255 → opt v ≡ none
opt_none v e = rw e

pub opt_some : (v : ℕ) → (v ≡ 255 → ⊥) → opt v ≡ some v
opt_some v h = rw (ne_eqb v 255 h)
