-- `loader::list_at` meets its contract: the invariant is `Listing`. Assumes nothing.
use Prim.Native.Nat.{◌-◌}
use lib.ListN.{length}
use Rattle.loader.proofs.Listing.{Listing}
use Rattle.loader.proofs.list_at.Given as goal

abbrev pub invariant-loop-to : goal.invariant-loop-to
invariant-loop-to l = Listing l.s l.at l.g.writes l.g.reads l.g.end

abbrev pub decreases-loop-to : goal.decreases-loop-to
decreases-loop-to l = length l.s - l.g.end
