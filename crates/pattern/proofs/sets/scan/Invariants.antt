-- `scan` meets its contract: byte by byte the answer is the answer from here, and the marks show the items so far. Assumes nothing.
use Rattle.pattern.proofs.SetSteps.{Come}
use Rattle.pattern.proofs.sets.scan.Given as goal

abbrev pub invariant-loop-i : goal.invariant-loop-i
invariant-loop-i l = Come l.s l.fn.from l.i l.st l.marks
