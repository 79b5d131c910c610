-- A ride's answer, from the count of situations, the image's room and the line's length. Assumes nothing.
use Prim.Native.Nat.{ℕ, ◌*◌, ◌<◌, ◌≤◌}
use native.Mathlib.Omega.{arith}
use mathlib.Core.Path.{◌≡◌, refl, sym, ap₂, ◌∙◌}
use mathlib.Core.Bool.{Bool, true, false}
use mathlib.Core.List.{List}
use lib.ListN.{length, get_or}
use lib.Dec.{ltb, leb, eqb}
use borrow.Author.Tests.{eq-eqb, ne_eqb, lt-ltb, le-ltb, le-leb, lt-leb}
use Rattle.ground.specs.Pick.{pick}
use Rattle.card.specs.Run.{line_max, refused}
use Rattle.ride.specs.Ride.{fitting, rides_from, started, ridden}
use Rattle.ride.specs.Need.{Fits}

module _ (s image : List ℕ) {count : ℕ} (c : count ≡ get_or s 4 0) where
  fitting_is : (a b : Bool) → eqb (get_or s 4 0) 0 ≡ a → leb (257 * get_or s 4 0) (length image) ≡ b → fitting s (length image) ≡ pick a false b
  unfolding fitting
  fitting_is a b h k = ap₂ (λ (x y : Bool). pick x false y) h k

  pub unfit_none : count ≡ 0 → fitting s (length image) ≡ false
  unfolding pick
  unfit_none z = fitting_is true (leb (257 * get_or s 4 0) (length image)) (eq-eqb (get_or s 4 0) 0 (sym c ∙ z)) refl

  module _ (n : count ≡ 0 → ⊥) where
    pub unfit_small : length image < 257 * count → fitting s (length image) ≡ false
    unfolding pick
    unfit_small l = fitting_is false false (ne_eqb (get_or s 4 0) 0 (λ z. n (c ∙ z))) (lt-leb (257 * get_or s 4 0) (length image) (omega arith))

    pub fit_room : 257 * count ≤ length image → fitting s (length image) ≡ true
    unfolding pick
    fit_room r = fitting_is false true (ne_eqb (get_or s 4 0) 0 (λ z. n (c ∙ z))) (le-leb (257 * get_or s 4 0) (length image) (omega arith))

module _ (s image w : List ℕ) where
  ridden_is : (a b : Bool) → fitting s (length image) ≡ a → ltb line_max (length w) ≡ b
      → pick a (pick b (refused 15) (rides_from s image 0 (started s) 0 w)) (refused 13) ≡ ridden s image w
  unfolding ridden
  ridden_is a b h k = sym (ap₂ (λ (x y : Bool). pick x (pick y (refused 15) (rides_from s image 0 (started s) 0 w)) (refused 13)) h k)

  pub ridden_unfit : fitting s (length image) ≡ false → refused 13 ≡ ridden s image w
  unfolding pick
  ridden_unfit h = ridden_is false (ltb line_max (length w)) h refl

  module _ (f : fitting s (length image) ≡ true) where
    pub ridden_long : line_max < length w → refused 15 ≡ ridden s image w
    unfolding pick
    ridden_long l = ridden_is true true f (lt-ltb line_max (length w) l)

    pub ridden_on : length w ≤ line_max → rides_from s image 0 (started s) 0 w ≡ ridden s image w
    unfolding pick
    ridden_on l = ridden_is true false f (le-ltb line_max (length w) l)

-- of a mount's table and image, which are those that it was made of
module _ {s image : List ℕ} {count : ℕ} (f : Fits s image count) (w : List ℕ) where
  is_fit : fitting s (length image) ≡ true
  is_fit = fit_room s image f.counted (λ z. omega (arith, f.some)) f.room

  pub mounted_long : line_max < length w → refused 15 ≡ ridden s image w
  mounted_long = ridden_long s image w is_fit

  pub mounted_on : length w ≤ line_max → rides_from s image 0 (started s) 0 w ≡ ridden s image w
  mounted_on = ridden_on s image w is_fit

pub mounted_same : {s image t old : List ℕ} → (s ≡ t) × (image ≡ old) → (w : List ℕ) → ridden s image w ≡ ridden t old w
mounted_same e w = ap₂ (λ (x y : List ℕ). ridden x y w) e.0 e.1
