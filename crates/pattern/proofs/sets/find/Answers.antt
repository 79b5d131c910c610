-- `find` meets its contract: no word before the k-th fits. Assumes nothing.
use Rattle.std.proofs.Common.{◌∙◌}
use Rattle.pattern.proofs.Words.{seek_hit, seek_miss}
use Rattle.pattern.proofs.sets.find.Goals as goal

pub returns-in-Some : goal.returns-in-Some
returns-in-Some c = seek_hit c.args.w.now c.loop-k.k c.loop-k-test.true c.in-Some.r c.in-Some.ensures c.loop-k.invariant

pub loop-k-preserved : goal.loop-k-preserved
loop-k-preserved c = c.loop-k.invariant ∙ seek_miss c.args.w.now c.loop-k.k c.loop-k-test.true c.in_default.ensures
