-- Document 01's numbering of situations, for an automaton. Assumes nothing.
use mathlib.Core.Path.{◌≡◌, refl, ap, ap₂}
use mathlib.Core.Bool.{Bool, true, false, ◌&&◌}
use mathlib.Core.List.{List, [], ◌∷◌}
use mathlib.Core.Option.{Option, none, some}
use Prim.Native.Nat.{ℕ, ◌≤◌}
use native.Mathlib.Omega.{arith}
use lib.Dec.{eqb, eqb→eq, eqb_refl}
use lib.ListN.{length}
use Rattle.net.specs.Rec.{Net}
use Rattle.paths.specs.Search.{Thread}
use Rattle.paths.specs.Registers.{Tags, situation, next}
use Rattle.paths.specs.Numbering.{numbered, explored}
use Rattle.paths.specs.Equal.{same_tag, same_list, same_thread, same_situation}
use Rattle.paths.proofs.Member.{T_of, of_T}
use Rattle.paths.proofs.Next.{situation_next}
use Rattle.paths.proofs.Exploring.{Prefix, explored_first, explored_all}

and_true : (a b : Bool) → a && b ≡ true → (a ≡ true) × (b ≡ true)
and_true true b e = (refl, e)
and_true false b e = let z : ◌≡◌ {A = ℕ} 0 1 = cc in absurd (omega arith)

-- a test that holds exactly of equal ones
abbrev pub Tests : {A : Type 0} → (A → A → Bool) → Type 0
Tests {A} f = (x y : A) → (f x y ≡ true → x ≡ y) × (x ≡ y → f x y ≡ true)

from_refl : {A : Type 0} (f : A → A → Bool) → ((x y : A) → f x y ≡ true → x ≡ y) → ((x : A) → f x x ≡ true) → Tests f
from_refl f g h x y = (g x y, λ e. rw (← e) (h x))

pub tag_eq : (x y : Option ℕ) → same_tag x y ≡ true → x ≡ y
tag_eq none none e = refl
tag_eq none (some q) e = let z : ◌≡◌ {A = ℕ} 0 1 = cc in absurd (omega arith)
tag_eq (some p) none e = let z : ◌≡◌ {A = ℕ} 0 1 = cc in absurd (omega arith)
tag_eq (some p) (some q) e = ap some (eqb→eq p q (T_of e))

pub tag_refl : (x : Option ℕ) → same_tag x x ≡ true
tag_refl none = refl
tag_refl (some p) = of_T (eqb p p) (eqb_refl p)

list_eq : {A : Type 0} (f : A → A → Bool) → ((x y : A) → f x y ≡ true → x ≡ y) → (l k : List A) → same_list f l k ≡ true → l ≡ k
list_eq f h [] [] e = refl
list_eq f h [] (y ∷ k) e = let z : ◌≡◌ {A = ℕ} 0 1 = cc in absurd (omega arith)
list_eq f h (x ∷ l) [] e = let z : ◌≡◌ {A = ℕ} 0 1 = cc in absurd (omega arith)
list_eq f h (x ∷ l) (y ∷ k) e = let a = and_true (f x y) (same_list f l k) e in ap₂ (λ x l. x ∷ l) (h x y a.0) (list_eq f h l k a.1)

list_refl : {A : Type 0} (f : A → A → Bool) → ((x : A) → f x x ≡ true) → (l : List A) → same_list f l l ≡ true
list_refl f h [] = refl
list_refl f h (x ∷ l) = rw (h x, list_refl f h l)

pub thread_eq : (s t : Thread Tags) → same_thread s t ≡ true → s ≡ t
thread_eq s t e =
    let a = and_true (eqb s.on t.on) (same_list same_tag s.had t.had) e in
    ap₂ (λ r τ. record { on = r; had = τ }) (eqb→eq s.on t.on (T_of a.0)) (list_eq same_tag tag_eq s.had t.had a.1)

pub thread_refl : (s : Thread Tags) → same_thread s s ≡ true
thread_refl s = rw (of_T (eqb s.on s.on) (eqb_refl s.on), list_refl same_tag tag_refl s.had)

pub situation_test : Tests same_situation
situation_test = from_refl same_situation (list_eq same_thread thread_eq) (list_refl same_thread thread_refl)

module _ (A : Net) (B : List ℕ) where
  -- the builder's situations so far are document 01's first ones, in its order
  pub found_first : (i : ℕ) → Prefix (explored same_situation B (next A) (situation A []) i) (numbered same_situation B (situation A) i)
  found_first i = explored_first same_situation situation_test B (next A) (situation A) (situation_next A) i

  -- and all of them, once each has been gone through
  pub found_all : (i : ℕ) → length (explored same_situation B (next A) (situation A []) i) ≤ i → (n : ℕ)
      → Prefix (numbered same_situation B (situation A) n) (explored same_situation B (next A) (situation A []) i)
  found_all i h n = explored_all same_situation situation_test B (next A) (situation A) (situation_next A) i h n
