-- `scan` meets its contract: byte by byte the answer is the answer from here, and the marks show the items so far. Assumes nothing.
use Rattle.std.proofs.Common.{arith}
use Rattle.pattern.specs.Standing.{Shows, seen}
use Rattle.pattern.proofs.SetSteps.{come_end, come_bad, come_shut, come_on}
use Rattle.pattern.proofs.sets.scan.Goals as goal

pub returns-in_default-clause-end : goal.returns-in_default-clause-end
unfolding seen
returns-in_default-clause-end c = rw (come_bad c.loop-i.invariant c.loop-i-test.true c.in_default.ensures)

pub returns-in_default-clause-marked : goal.returns-in_default-clause-marked
unfolding Shows
returns-in_default-clause-marked c = rw (come_bad c.loop-i.invariant c.loop-i-test.true c.in_default.ensures) tt

pub returns-in-Shut-clause-end : goal.returns-in-Shut-clause-end
unfolding seen
returns-in-Shut-clause-end c = rw (come_shut c.loop-i.invariant c.loop-i-test.true c.in-Some.next c.in-Shut.is c.in-Some.ensures)

pub returns-in-Shut-clause-marked : goal.returns-in-Shut-clause-marked
unfolding Shows
returns-in-Shut-clause-marked c =
    rw (come_shut c.loop-i.invariant c.loop-i-test.true c.in-Some.next c.in-Shut.is c.in-Some.ensures)
    (c.mark_at.ensures c.loop-i.invariant.items c.loop-i.invariant.shown)

pub loop-i-preserved : goal.loop-i-preserved
loop-i-preserved c =
    come_on c.loop-i.invariant c.loop-i-test.true c.in-Some.next c.in_default-next.not-Shut c.in-Some.ensures _
    (c.mark_at.ensures c.loop-i.invariant.items c.loop-i.invariant.shown)

pub returns-clause-end : goal.returns-clause-end
unfolding seen
returns-clause-end c = rw (come_end c.loop-i.invariant (omega arith))

pub returns-clause-marked : goal.returns-clause-marked
unfolding Shows
returns-clause-marked c = rw (come_end c.loop-i.invariant (omega arith)) tt
