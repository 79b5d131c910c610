-- Laws of tests. Assumes nothing.
use mathlib.Core.Path.{◌≡◌, refl, sym, ap, ◌∙◌, subst}
use mathlib.Core.Bool.{Bool, true, false, ◌||◌, ◌&&◌}
use mathlib.Core.Logic.{◌⊎◌, inl, inr}
use Prim.Native.Nat.{ℕ, ◌<◌, ◌≤◌}
use lib.Dec.{T, ltb}
use borrow.Author.Tests.{ltb-true, ltb-false}

pub true_false : ◌≡◌ {A = Bool} true false → ⊥
true_false z = subst T z tt

pub T_true : (b : Bool) → T b → b ≡ true
T_true true t = refl
T_true false t = absurd t

-- neither of two tests, both of two tests
pub either_no : (a b : Bool) → a || b ≡ false → (a ≡ false) × (b ≡ false)
either_no true b e = absurd (true_false e)
either_no false b e = (refl, e)

pub no_either : (a b : Bool) → a ≡ false → b ≡ false → a || b ≡ false
no_either a b e h = ap (λ t. t || b) e ∙ h

pub or_left : (a b : Bool) → a || b ≡ true → b ≡ false → a ≡ true
or_left true b h g = refl
or_left false b h g = absurd (true_false (sym h ∙ g))

pub both_yes : (a b : Bool) → a && b ≡ true → (a ≡ true) × (b ≡ true)
both_yes true b e = (refl, e)
both_yes false b e = absurd (true_false (sym e))

-- a chain of tests, one after the other
pub past : {a b x : Bool} → a ≡ false → x ≡ b → x ≡ a || b
past {a} {b} {x} e h = h ∙ sym (ap (λ t. t || b) e)

pub or_false : (a : Bool) → a || false ≡ a
or_false true = refl
or_false false = refl

pub or_assoc : (a b c : Bool) → (a || b) || c ≡ a || (b || c)
or_assoc true b c = refl
or_assoc false b c = refl

-- one number is below another, or not
pub lt_or_le : (a b : ℕ) → (a < b) ⊎ (b ≤ a)
lt_or_le a b = by_ltb (ltb a b) refl
  where
    by_ltb : (t : Bool) → ltb a b ≡ t → (a < b) ⊎ (b ≤ a)
    by_ltb true e = inl (ltb-true a b e)
    by_ltb false e = inr (ltb-false a b e)
