-- `explore::mark` meets its contract. Assumes nothing.
use Rattle.explore.proofs.Bits.{marked_by}
use Rattle.explore.proofs.mark.Goals as goal

pub returns : goal.returns
returns c = marked_by _ _ _ c.from.ensures c.requires.0 c.requires.1
