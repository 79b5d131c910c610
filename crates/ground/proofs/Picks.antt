-- Laws of a choice by a test, and of the byte at a place. Assumes nothing.
use mathlib.Core.Path.{◌≡◌, refl, sym, ap, ◌∙◌}
use mathlib.Core.Bool.{Bool, true, false}
use mathlib.Core.List.{List, [], ◌∷◌}
use Prim.Native.Nat.{ℕ, zero, suc, ◌<◌, ◌≤◌}
use native.Mathlib.Omega.{arith}
use lib.Dec.{ltb, leb, eqb}
use lib.ListN.{length, get_or, get_or-eq_default}
use borrow.Author.Tests.{lt-ltb, le-ltb, le-leb, lt-leb, eq-eqb, ne_eqb}
use Rattle.ground.specs.Pick.{pick, look}

-- which of the two is chosen, by what the test gives
pub picked {ℓ} : {A : Type ℓ} {c : Bool} (a b : A) → c ≡ true → pick c a b ≡ a
unfolding pick
picked a b e = ap (λ (c : Bool). pick c a b) e

pub passed {ℓ} : {A : Type ℓ} {c : Bool} (a b : A) → c ≡ false → pick c a b ≡ b
unfolding pick
passed a b e = ap (λ (c : Bool). pick c a b) e

-- the same by a fact of the numbers tested
module _ {A : Type 0} (m n : ℕ) (a b : A) where
  pub pick_lt : m < n → pick (ltb m n) a b ≡ a
  pick_lt h = picked a b (lt-ltb m n h)

  pub pick_not_lt : n ≤ m → pick (ltb m n) a b ≡ b
  pick_not_lt h = passed a b (le-ltb m n h)

  pub pick_le : m ≤ n → pick (leb m n) a b ≡ a
  pick_le h = picked a b (le-leb m n h)

  pub pick_not_le : n < m → pick (leb m n) a b ≡ b
  pick_not_le h = passed a b (lt-leb m n h)

  pub pick_eq : m ≡ n → pick (eqb m n) a b ≡ a
  pick_eq h = picked a b (eq-eqb m n h)

  pub pick_ne : (m ≡ n → ⊥) → pick (eqb m n) a b ≡ b
  pick_ne h = passed a b (ne_eqb m n h)

-- a function of the choice is the choice of its values
pub pick_of {ℓ} : {A B : Type ℓ} (f : A → B) (c : Bool) (a b : A) → f (pick c a b) ≡ pick c (f a) (f b)
unfolding pick
pick_of f true a b = refl
pick_of f false a b = refl

-- a choice has what both of its sides have
pub by_test : {A : Type 0} (P : A → Type 0) (b : Bool) (x y : A) → (b ≡ true → P x) → (b ≡ false → P y) → P (pick b x y)
unfolding pick
by_test P true x y f g = f refl
by_test P false x y f g = g refl

-- ---- the byte at a place, or 256

-- inside a list it makes no difference what stands past its end
pub same_inside : {A : Type 0} (s : List A) (i : ℕ) (d e : A) → i < length s → get_or s i d ≡ get_or s i e
same_inside [] i d e h = absurd (omega arith)
same_inside (x ∷ s) zero d e h = refl
same_inside (x ∷ s) (suc i) d e h = same_inside s i d e (omega arith)

pub look_in : (s : List ℕ) (i : ℕ) → i < length s → look s i ≡ get_or s i 0
look_in s i h = same_inside s i 256 0 h

pub look_past : (s : List ℕ) (i : ℕ) → length s ≤ i → look s i ≡ 256
look_past s i h = get_or-eq_default s 256 h

-- a place with anything but 256 is in the list
pub in_list : (s : List ℕ) (i : ℕ) → (look s i ≡ 256 → ⊥) → i < length s
in_list [] i h = absurd (h refl)
in_list (x ∷ s) zero h = omega arith
in_list (x ∷ s) (suc i) h = let k = in_list s i h in omega arith

pub byte_in : (s : List ℕ) (i n : ℕ) → n < 256 → look s i ≡ n → i < length s
byte_in s i n b e = in_list s i (λ f. omega arith)

-- so is one at which a test fails that 256 passes
pub test_in : (s : List ℕ) (i : ℕ) (f : ℕ → Bool) → f 256 ≡ true → f (look s i) ≡ false → i < length s
test_in s i f t h = in_list s i (λ e. let z : true ≡ false = sym t ∙ ap f (sym e) ∙ h in let w : ◌≡◌ {A = ℕ} 0 1 = cc in omega arith)
