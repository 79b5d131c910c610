-- `word_of` meets its contract. Assumes nothing.
use Rattle.pattern.proofs.Words.{now_at, word_at}
use Rattle.pattern.proofs.sets.word_of.Goals as goal

pub returns : goal.returns
returns c = rw now_at (word_at c.args.k _ c.requires)
