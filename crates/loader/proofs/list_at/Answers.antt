-- `loader::list_at` meets its contract: the invariant is `Listing`. Assumes nothing.
use mathlib.Core.Path.{sym}
use Rattle.loader.proofs.Listing.{listing_move, listing_put}
use Rattle.loader.proofs.list_at.Goals as goal

pub loop-to-preserved-in-Move : goal.loop-to-preserved-in-Move
loop-to-preserved-in-Move c = rw (c.bit.ensures, c.bit-in-Move.ensures) (listing_move c.loop-to.invariant (sym c.in-Move.ensures))

pub loop-to-preserved : goal.loop-to-preserved
loop-to-preserved c = rw c.bit-in-Put.ensures (listing_put c.loop-to.invariant (sym c.in-Put.ensures))
