-- `image::sorts::stretch_at` meets its contract: the commands read, then the list left, are the whole. Assumes nothing.
use Prim.Native.Nat.{◌-◌}
use mathlib.Core.Path.{◌≡◌}
use mathlib.Core.List.{◌++◌}
use lib.ListN.{length}
use Rattle.card.specs.Decode.{cmds_at}
use Rattle.image.specs.Need.{stretch_of, Inside}
use Rattle.image.proofs.sorts.stretch_at.Given as goal

abbrev pub invariant-loop-to : goal.invariant-loop-to
invariant-loop-to l = (cmds_at l.s l.at ≡ stretch_of l.first l.n ++ cmds_at l.s l.i) × Inside l.first l.n

abbrev pub decreases-loop-to : goal.decreases-loop-to
decreases-loop-to l = length l.s - l.i
