-- `ride::gliding::glide` meets its contract: the invariant is `Reached`. Assumes nothing.
use native.Mathlib.Omega.{arith}
use Rattle.ride.proofs.Riding.{reached_hop}
use Rattle.ride.proofs.gliding.glide.Goals as goal

pub loop-place-preserved : goal.loop-place-preserved
loop-place-preserved c =
    reached_hop c.loop-place.invariant (omega arith) c.from.ensures (omega (arith, c.from.ensures, c.type_inv.line c.loop-place.place)) c.in-Some.ensures
