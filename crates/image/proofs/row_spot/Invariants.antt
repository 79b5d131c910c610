-- `image::row_spot` meets its contract: the byte's row among those left is its row. Assumes nothing.
use Prim.Native.Nat.{◌-◌}
use mathlib.Core.Path.{◌≡◌}
use lib.ListN.{length}
use Rattle.image.specs.Image.{spot_at}
use Rattle.image.proofs.row_spot.Given as goal

abbrev pub invariant-loop-hi : goal.invariant-loop-hi
invariant-loop-hi l = spot_at l.s l.i l.b ≡ spot_at l.s l.at l.b

abbrev pub decreases-loop-hi : goal.decreases-loop-hi
decreases-loop-hi l = length l.s - l.i
