-- `ride::gliding::glide_two` meets its contract: the invariant is `Reached` for each line. Assumes nothing.
use native.Mathlib.Omega.{arith}
use Rattle.ride.proofs.Riding.{reached_hop}
use Rattle.ride.proofs.gliding.glide_two.Goals as goal

pub returns-in_default-hop : goal.returns-in_default-hop
returns-in_default-hop c = (
  reached_hop c.loop-i.invariant.0 (omega arith) c.from.ensures (omega (arith, c.from.ensures, c.type_inv.line c.loop-i.i)) c.in-Some.ensures,
  rw c.in_default-hop.ensures c.loop-i.invariant.1,
)

pub loop-i-preserved : goal.loop-i-preserved
loop-i-preserved c = (
  reached_hop c.loop-i.invariant.0 (omega arith) c.from.ensures (omega (arith, c.from.ensures, c.type_inv.line c.loop-i.i)) c.in-Some.ensures,
  reached_hop c.loop-i.invariant.1 (omega arith) c.from-in-loop-i.ensures (omega (arith, c.from-in-loop-i.ensures, c.type_inv.other c.loop-i.i)) c.in-Some-hop.ensures,
)
