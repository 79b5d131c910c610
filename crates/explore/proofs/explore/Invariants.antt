-- `explore::explore` meets its contract. Assumes nothing.
use Rattle.std.proofs.Common.{◌≡◌, ◌≤◌, ◌-◌, length}
use Rattle.paths.specs.Limits.{first}
use Rattle.net.specs.Items.{net_at}
use Rattle.explore.specs.Slots.{slots}
use Rattle.explore.specs.Explore.{Kept}
use Rattle.explore.proofs.explore.Given as goal

-- the first i situations are gone through
abbrev pub invariant-loop-i : goal.invariant-loop-i
invariant-loop-i l = (l.i ≤ l.count) × (Kept (length l.offs) l.work l.count × (slots l.work 0 l.count ≡ first (net_at l.file l.offs) l.i))

abbrev pub decreases-loop-i : goal.decreases-loop-i
decreases-loop-i l = 96 - l.i
