-- `explore::next_of` meets its contract. Assumes nothing.
use Rattle.explore.proofs.Naming.{stepped}
use Rattle.explore.proofs.next_of.Goals as goal

pub returns : goal.returns
returns c = stepped _ _ _ _ _ _ c.number_of.ensures.numbers (c.number_of.ensures.fit _ c.sweep.ensures.0) _ _ _ c.requires.holds.0.count c.sweep.ensures.1
