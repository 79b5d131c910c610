-- `loader::rows_ask` meets its contract: of the rows passed none reads a register of the set. Assumes nothing.
use Prim.Native.Nat.{◌-◌}
use lib.ListN.{length}
use Rattle.loader.proofs.Walk.{Back, Done, Unasked}
use Rattle.loader.proofs.rows_ask.Given as goal

abbrev pub invariant-loop-g : goal.invariant-loop-g
invariant-loop-g l = Back l.s l.at l.i × Done l.s l.at l.i (Unasked l.m)

abbrev pub decreases-loop-g : goal.decreases-loop-g
decreases-loop-g l = length l.s - l.i
