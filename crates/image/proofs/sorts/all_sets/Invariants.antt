-- `image::sorts::all_sets` meets its contract: the list left has a MOVE where the whole has one. Assumes nothing.
use Prim.Native.Nat.{◌-◌}
use mathlib.Core.Path.{◌≡◌}
use lib.ListN.{length}
use Rattle.card.specs.Decode.{cmds_at}
use Rattle.image.specs.Image.{all_sets}
use Rattle.image.proofs.sorts.all_sets.Given as goal

abbrev pub invariant-loop-i : goal.invariant-loop-i
invariant-loop-i l = all_sets (cmds_at l.s l.i) ≡ all_sets (cmds_at l.s l.at)

abbrev pub decreases-loop-i : goal.decreases-loop-i
decreases-loop-i l = length l.s - l.i
