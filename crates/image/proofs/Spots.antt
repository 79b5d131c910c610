-- The place of a byte's row among the rows at a place, and the row that stands there. Assumes nothing.
use Prim.Native.Nat.{ℕ, zero, suc, ◌+◌, ◌<◌, ◌≤◌}
use native.Mathlib.Omega.{arith}
use mathlib.Core.Path.{◌≡◌, refl, sym, ap, ◌∙◌}
use mathlib.Core.Bool.{Bool, true, false}
use mathlib.Core.List.{List}
use lib.ListN.{length}
use lib.Dec.{leb}
use borrow.Author.Tests.{le-leb, lt-leb, leb-true, leb-false}
use Rattle.ground.specs.Pick.{pick}
use Rattle.card.specs.Decode.{after_at, row_at}
use Rattle.card.specs.Decode.{RowItem}
use Rattle.std.specs.Prelude.{Some, None}
use Rattle.card.proofs.Rows.{after_ge, no_line}
use Rattle.run.proofs.Carrying.{row_whole_here}
use Rattle.std.proofs.lemmas.Bool.Decides.{nat_tests}
use Rattle.image.specs.Image.{spot_of, spot_n, spot_at}

pub after_past : (s : List ℕ) (at : ℕ) → at + 4 ≤ after_at s (at + 4)
unfolding after_at
after_past s at = after_ge s (length s) (at + 4)

module _ (s : List ℕ) (b : ℕ) where
  spot_fuel : (n m at : ℕ) → length s ≤ at + n → length s ≤ at + m → spot_n n s at b ≡ spot_n m s at b
  unfolding spot_n
  spot_fuel zero zero at h k = refl
  spot_fuel zero (suc m) at h k = sym (ap (λ (x : RowItem). spot_of x (length s) b at (spot_n m s (after_at s (at + 4)) b)) (no_line s at (omega arith)))
  spot_fuel (suc n) zero at h k = ap (λ (x : RowItem). spot_of x (length s) b at (spot_n n s (after_at s (at + 4)) b)) (no_line s at (omega arith))
  spot_fuel (suc n) (suc m) at h k =
      let g = after_past s at in
      ap (spot_of (row_at s at) (length s) b at) (spot_fuel n m (after_at s (at + 4)) (omega arith) (omega arith))

  spot_step : (at : ℕ) (x : RowItem) → row_at s at ≡ x → spot_at s at b ≡ spot_of x (length s) b at (spot_at s (after_at s (at + 4)) b)
  unfolding spot_at spot_n
  spot_step at x e =
      spot_fuel (length s) (suc (length s)) at (omega arith) (omega arith)
      ∙ ap (λ (y : RowItem). spot_of y (length s) b at (spot_n (length s) s (after_at s (at + 4)) b)) e

  pub spot_ends : (at : ℕ) → row_at s at ≡ None → spot_at s at b ≡ length s
  spot_ends at e = spot_step at None e

  module _ (at lo hi next : ℕ) (e : row_at s at ≡ Some (lo, hi, next)) where
    pub spot_here : b ≤ hi → spot_at s at b ≡ at
    unfolding pick
    spot_here l =
        spot_step at (Some (lo, hi, next)) e
        ∙ ap (λ (t : Bool). pick t at (spot_at s (after_at s (at + 4)) b)) (le-leb b hi l)

    pub spot_later : hi < b → spot_at s at b ≡ spot_at s (after_at s (at + 4)) b
    unfolding pick
    spot_later l =
        spot_step at (Some (lo, hi, next)) e
        ∙ ap (λ (t : Bool). pick t at (spot_at s (after_at s (at + 4)) b)) (lt-leb b hi l)

-- a byte's row, from the row at a place
pub spot_from : (s : List ℕ) (at b : ℕ) → spot_at s at b ≡ spot_of (row_at s at) (length s) b at (spot_at s (after_at s (at + 4)) b)
spot_from s at b = spot_step s b at (row_at s at) refl

-- what a function that looks for a byte's row needs
pub ruleset spots = (row_whole_here, spot_from, nat_tests)

-- a later byte's row is not before an earlier one's, so it may be looked for from there on
module _ (s : List ℕ) (b d : ℕ) (l : b ≤ d) where
  Same : ℕ → Type 0
  Same at = spot_at s (spot_at s at b) d ≡ spot_at s at d

  none_left : (at : ℕ) → row_at s at ≡ None → Same at
  unfolding Same
  none_left at e =
      ap (λ (k : ℕ). spot_at s k d) (spot_ends s b at e)
      ∙ spot_ends s d (length s) (no_line s (length s) (omega arith)) ∙ sym (spot_ends s d at e)

  at_row : (at lo hi next : ℕ) → row_at s at ≡ Some (lo, hi, next) → Same (after_at s (at + 4)) → (t : Bool) → leb b hi ≡ t → Same at
  unfolding Same
  at_row at lo hi next e more true k = ap (λ (j : ℕ). spot_at s j d) (spot_here s b at lo hi next e (leb-true b hi k))
  at_row at lo hi next e more false k =
      let m = leb-false b hi k in
      ap (λ (j : ℕ). spot_at s j d) (spot_later s b at lo hi next e m) ∙ more ∙ sym (spot_later s d at lo hi next e (omega arith))

  at_item : (at : ℕ) (x : RowItem) → row_at s at ≡ x → Same (after_at s (at + 4)) → Same at
  at_item at None e more = none_left at e
  at_item at (Some (lo, hi, next)) e more = at_row at lo hi next e more (leb b hi) refl

  from : (n at : ℕ) → length s ≤ at + n → Same at
  from zero at h = none_left at (no_line s at (omega arith))
  from (suc n) at h = let g = after_past s at in at_item at (row_at s at) refl (from n (after_at s (at + 4)) (omega arith))

  pub spot_on : (at : ℕ) → spot_at s (spot_at s at b) d ≡ spot_at s at d
  unfolding Same
  spot_on at = from (length s) at (omega arith)
