-- `loader::sweep` meets its contract: the invariant is `Sweeping`. Assumes nothing.
use Rattle.loader.proofs.Sweeping.{Sweeping}
use Rattle.loader.proofs.sweep.Given as goal

abbrev pub invariant-loop-q : goal.invariant-loop-q
invariant-loop-q l = Sweeping l.s l.may l.seen l.initial.seen l.changed l.q
