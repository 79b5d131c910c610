-- `run::run_line` meets its contract: the invariant is `Riding`. Assumes nothing.
use Rattle.run.proofs.Riding.{Riding}
use Rattle.run.proofs.run_line.Given as goal

abbrev pub invariant-loop-i : goal.invariant-loop-i
invariant-loop-i l = Riding l.s l.line l.sit l.bank.r l.i
