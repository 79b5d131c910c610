-- `build::Found::most` meets its contract. Assumes nothing.
use Rattle.build.proofs.Tables.{most_on, most_end}
use Rattle.build.proofs.Found.most.Goals as goal

pub loop-j-preserved : goal.loop-j-preserved
loop-j-preserved c = rw c.max-m.ensures (most_on _ _ _ _ c.loop-j.invariant _ c.loop-j-test.true (c.requires.explored.0.holds _ c.loop-j-test.true).count)

pub returns : goal.returns
returns c = most_end _ _ _ _ c.loop-j.invariant c.loop-j-test.false
