-- `ride::obey` meets its contract: a block, past the end, SETs only, any. Assumes nothing.
use Rattle.ride.proofs.Obeying.{obeyed_block, obeyed_past, obeyed_sets, obeyed_all}
use Rattle.ride.proofs.obey.Goals as goal

pub returns-then-kind-eq-BLOCK : goal.returns-then-kind-eq-BLOCK
returns-then-kind-eq-BLOCK c = obeyed_block _ _ _ _ c.if-kind-eq-BLOCK.true c.obey_block.ensures

pub returns-then-s-list : goal.returns-then-s-list
returns-then-s-list c = obeyed_past _ _ _ _ c.requires.0 c.if-kind-eq-BLOCK.false c.if-s-list.true

pub returns-then-kind-eq-SETS : goal.returns-then-kind-eq-SETS
returns-then-kind-eq-SETS c = obeyed_sets _ _ _ _ c.requires.0 c.if-kind-eq-BLOCK.false c.if-s-list.false c.if-kind-eq-SETS.true c.set_list.ensures

pub returns-else-kind-eq-SETS : goal.returns-else-kind-eq-SETS
returns-else-kind-eq-SETS c = obeyed_all _ _ _ _ c.requires.0 c.if-kind-eq-BLOCK.false c.if-s-list.false c.if-kind-eq-SETS.false c.carry_list.ensures
