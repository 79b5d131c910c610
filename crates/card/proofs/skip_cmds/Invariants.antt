-- `card::skip_cmds` meets its contract: what follows the commands passed is what followed the first. Assumes nothing.
use Prim.Native.Nat.{◌-◌, ◌≤◌}
use mathlib.Core.Path.{◌≡◌}
use lib.ListN.{length}
use Rattle.card.specs.Decode.{after_at}
use Rattle.card.proofs.skip_cmds.Given as goal

abbrev pub invariant-loop-i : goal.invariant-loop-i
invariant-loop-i l = (after_at l.s l.i ≡ after_at l.s l.at) × (l.at ≤ l.i)

abbrev pub decreases-loop-i : goal.decreases-loop-i
decreases-loop-i l = length l.s - l.i
