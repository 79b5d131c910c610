-- `build::Found::rows` meets its contract. Assumes nothing.
use Rattle.explore.specs.Slots.{slot}
use Rattle.build.specs.Writing.{net_in, all_in}
use Rattle.build.proofs.Joining.{Rows}
use Rattle.build.proofs.Found.rows.Given as goal

abbrev pub invariant-loop-b : goal.invariant-loop-b
invariant-loop-b l = Rows (net_in l.self) (all_in l.self) (slot l.s 0) l.initial.pen l.pen l.q l.b
