-- `class_word` meets its contract: the 256 words, written out, are the rule's, which antt sees by computing them.
-- Assumes nothing.
use Rattle.ground.proofs.Tested.{table_at}
use Rattle.classes.specs.Class.{class_word}
use Rattle.classes.proofs.class_word.Goals as goal

pub returns : goal.returns
unfolding class_word
returns c = rw c.from.ensures (table_at class_word 0 256 c.args.b c.ranges.b.fits)
