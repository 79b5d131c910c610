-- A bank is its 64 registers: the promises of its methods settle it, and what was stored or copied is read back.
-- Assumes nothing.
use Prim.Native.Nat.{ℕ, ◌<◌}
use mathlib.Core.Path.{◌≡◌, sym, ap, ◌∙◌}
use mathlib.Core.List.{List}
use lib.IntN.{ℤ, pos}
use lib.ListN.{length, get_or, set, replicate, get_or-replicate}
use lib.Seq.{get_or-set_same}
use Rattle.ground.specs.Place.{absent, place_of}
use Rattle.std.specs.Prelude.{Some, None}
use Rattle.ground.proofs.Places.{back_from_held}
use Rattle.bank.specs.declared.Bank.{Bank}

-- two banks that meet one promise of `empty`, `store` or `copied` are equal
pub one_bank : (a b : Bank) {l : List ℤ} → a.r ≡ l → b.r ≡ l → a ≡ b
one_bank a b e f = ap (λ (l : List ℤ). record { r = l }) (e ∙ sym f)

-- two positions that meet the promise of `read` are equal
pub one_read : (s : Bank) (from : ℕ) {v w : ℤ} → v ≡ get_or s.r from (pos 0) → w ≡ get_or s.r from (pos 0) → v ≡ w
one_read s from e f = e ∙ sym f

-- what stands at a register after a place was stored there
pub stored : (l : List ℤ) (to place : ℕ) → to < length l → place_of (get_or (set l to (pos place)) to (pos 0)) ≡ Some place
stored l to place h = ap place_of (get_or-set_same l to (pos place) (pos 0) h) ∙ back_from_held (Some place)

-- every register of an empty bank is empty
pub emptied : (from : ℕ) → from < 64 → place_of (get_or (replicate 64 absent) from (pos 0)) ≡ None
emptied from h = ap place_of (get_or-replicate 64 from absent (pos 0) h) ∙ back_from_held None
