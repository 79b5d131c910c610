-- `build::Pen::start` meets its contract. Assumes nothing.
use Rattle.std.proofs.Common.{arith}
use Rattle.build.proofs.Tables.{sets_on, sets_done}
use Rattle.build.proofs.Pen.start.Goals as goal

pub loop-k-preserved : goal.loop-k-preserved
loop-k-preserved c = record { within = omega arith; left = sets_on _ _ c.loop-k.invariant.left c.loop-k-test.true c.put.ensures }

pub returns-clause-writes : goal.returns-clause-writes
returns-clause-writes c = sets_done _ _ c.loop-k.invariant.left c.loop-k-test.false
