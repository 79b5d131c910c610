-- `ride::Mount::ride_rest` meets its contract: the invariant is `Going`. Assumes nothing.
use Rattle.ride.proofs.Riding.{Going}
use Rattle.ride.proofs.Mount.ride_rest.Given as goal

abbrev pub invariant-loop-i : goal.invariant-loop-i
invariant-loop-i l = Going l.self.table.now l.self.image.now l.line l.limit l.from l.first l.initial.bank l.i l.row l.bank
