-- `explore::name_all` meets its contract. Assumes nothing.
use Rattle.explore.specs.Keys.{keys_at, Named}
use Rattle.explore.proofs.name_all.Given as goal

-- the first i entries have register numbers
abbrev pub invariant-loop-i : goal.invariant-loop-i
invariant-loop-i l = Named (keys_at l.regs 0 l.k) l.initial.list l.list l.i
