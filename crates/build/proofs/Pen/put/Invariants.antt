-- `build::Pen::put` meets its contract. Assumes nothing.
use Rattle.std.proofs.Common.{drop}
use Rattle.build.proofs.Writing.{Left}
use Rattle.build.proofs.Pen.put.Given as goal

abbrev pub invariant-loop-b : goal.invariant-loop-b
invariant-loop-b l = Left l.initial.self l.bs l.self (drop l.b-index l.bs)
