-- `card::skip_rows` meets its contract: what follows the rows passed is what followed the first. Assumes nothing.
use Prim.Native.Nat.{◌-◌, ◌≤◌}
use mathlib.Core.Path.{◌≡◌}
use lib.ListN.{length}
use Rattle.card.specs.Decode.{after_rows}
use Rattle.card.proofs.skip_rows.Given as goal

abbrev pub invariant-loop-i : goal.invariant-loop-i
invariant-loop-i l = (after_rows l.s l.i ≡ after_rows l.s l.at) × (l.at ≤ l.i)

abbrev pub decreases-loop-i : goal.decreases-loop-i
decreases-loop-i l = length l.s - l.i
