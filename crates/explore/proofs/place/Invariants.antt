-- `explore::place` meets its contract. Assumes nothing.
use mathlib.Core.Path.{◌≡◌}
use mathlib.Core.Bool.{false}
use Prim.Native.Nat.{ℕ, ◌<◌}
use Rattle.paths.specs.Equal.{same_situation}
use Rattle.explore.specs.Slots.{slot}
use Rattle.explore.proofs.place.Given as goal

abbrev pub invariant-loop-j : goal.invariant-loop-j
invariant-loop-j l = (k : ℕ) → k < l.j → same_situation (slot l.list 0) (slot l.work k) ≡ false
