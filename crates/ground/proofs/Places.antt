-- The casts between a place and a position lose nothing, at -1, at 0 and at 32767. Assumes nothing.
use Prim.Native.Nat.{ℕ, ◌≤◌}
use native.Mathlib.Omega.{arith}
use mathlib.Core.Path.{◌≡◌, refl, sym, ap, ◌∙◌}
use lib.IntN.{ℤ, pos, negsuc, nat_abs}
use lib.Dec.{lit≤}
use mir.Syntax.{w16}
use mir.Val.{SFits, to_z, of_z}
use mir.ValLaws.{to_z-of_z}
use Rattle.std.specs.Prelude.{Some, None, Result, Ok, Err}
use Rattle.std.specs.Result.{OkIff, result_ok}
use Rattle.std.specs.Int.{FitsUnsignedBits}
use Rattle.ground.specs.Place.{Place, place_max, place_of, held_of, absent, Position}
use Rattle.ground.specs.Place.Position.{none, at}

-- a place fits a position
pub place_fits : (n : ℕ) → n ≤ place_max → SFits w16 (pos n)
place_fits n l = record { sfits = omega arith }

pub to_place : (n : ℕ) → n ≤ place_max → to_z w16 n ≡ pos n
to_place n l = to_z-of_z w16 (pos n) (place_fits n l)

-- the cast that may fail: what it gives of a number of sixteen bits is what the position says
pub tried : {E : Type 0} (v : ℤ) (r : Result ℕ E) → SFits w16 v → OkIff r (FitsUnsignedBits 64 v) (nat_abs v) → result_ok r ≡ place_of v
unfolding place_of
tried (pos n) (Ok x) f h = ap Some h.1
tried (pos n) (Err e) f h = let g = f.sfits in absurd (h (omega arith))
tried (negsuc n) (Ok x) f h = absurd h.0
tried (negsuc n) (Err e) f h = refl

-- the same of a parameter, which comes as the number of its bits
pub tried_bits : {E : Type 0} (v : ℤ) (r : Result ℕ E) → SFits w16 v → OkIff r (FitsUnsignedBits 64 (to_z w16 (of_z w16 v))) (nat_abs (to_z w16 (of_z w16 v))) → result_ok r ≡ place_of v
tried_bits v r f h = tried v r f (rw (to_z-of_z w16 v f) at h)

-- what a call of `place_of` on a parameter gives: the parameter comes as the number of its bits
pub arrived : (v : ℤ) {r k : Place} → SFits w16 v → r ≡ place_of (to_z w16 (of_z w16 v)) → r ≡ k → place_of v ≡ k
arrived v f e t = sym (e ∙ ap place_of (to_z-of_z w16 v f)) ∙ t

-- a place or its absence, held and taken back, is the same
pub back_from_held : (p : Place) → place_of (held_of p) ≡ p
unfolding place_of
back_from_held (Some n) = refl
back_from_held None = refl

-- a position of document 01, taken for what it says and held again, is the same
pub held_again : {v : ℤ} → Position v → held_of (place_of v) ≡ v
unfolding place_of
held_again none = refl
held_again (at l) = refl

-- the positions of document 01 are those that fit, but for what is below -1
pub position_fits : {v : ℤ} → Position v → SFits w16 v
position_fits none = record { sfits = lit≤ tt }
position_fits (at l) = place_fits _ l

-- the two ends and -1
pub at_none : place_of absent ≡ None
unfolding place_of
at_none = refl

pub at_zero : place_of (pos 0) ≡ Some 0
unfolding place_of
at_zero = refl

pub at_last : place_of (pos place_max) ≡ Some 32767
unfolding place_of
at_last = refl

-- a second result that meets the promise of `held` or of `place_of` is equal
pub one_held : (place : ℕ) {v w : ℤ} → v ≡ pos place → w ≡ pos place → v ≡ w
one_held place e f = e ∙ sym f

pub one_place : (v : ℤ) {p q : Place} → p ≡ place_of v → q ≡ place_of v → p ≡ q
one_place v e f = e ∙ sym f
