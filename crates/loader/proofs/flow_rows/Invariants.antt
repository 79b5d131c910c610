-- `loader::flow_rows` meets its contract: the invariant is `Flowing`. Assumes nothing.
use Prim.Native.Nat.{◌-◌}
use lib.ListN.{length}
use Rattle.loader.proofs.Flowing.{Flowing}
use Rattle.loader.proofs.flow_rows.Given as goal

abbrev pub invariant-loop-next : goal.invariant-loop-next
invariant-loop-next l = Flowing l.s l.at l.q l.initial.may l.may l.i

abbrev pub decreases-loop-next : goal.decreases-loop-next
decreases-loop-next l = length l.s - l.i
