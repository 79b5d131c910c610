-- `build::Found::sits` meets its contract. Assumes nothing.
use Rattle.std.proofs.Common.{arith}
use Rattle.build.proofs.Tables.{sits_on, sits_done}
use Rattle.build.proofs.Found.sits.Goals as goal

pub loop-i-preserved : goal.loop-i-preserved
loop-i-preserved c = record { within = omega arith; left = sits_on _ _ _ _ c.loop-i.invariant.left c.loop-i-test.true c.sit.ensures.writes }

pub returns-clause-writes : goal.returns-clause-writes
returns-clause-writes c = sits_done _ _ _ _ c.loop-i.invariant.left c.loop-i-test.false
