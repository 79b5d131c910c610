-- `build::ending_of` meets its contract. Assumes nothing.
use mathlib.Core.Path.{◌≡◌}
use lib.ListN.{drop}
use Rattle.paths.specs.Situation.{first_end}
use Rattle.net.specs.Items.{net_at}
use Rattle.explore.specs.Slots.{slot}
use Rattle.build.proofs.ending_of.Given as goal

-- none of the first i is an END
abbrev pub invariant-loop-i : goal.invariant-loop-i
invariant-loop-i l = first_end (net_at l.file l.offs) (slot l.s 0) ≡ first_end (net_at l.file l.offs) (drop l.i (slot l.s 0))
