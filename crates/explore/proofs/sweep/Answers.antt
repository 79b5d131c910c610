-- `explore::sweep` meets its contract. Assumes nothing.
use mathlib.Core.Path.{◌∙◌}
use native.Mathlib.Omega.{arith}
use Rattle.explore.proofs.Memory.{slot_first}
use Rattle.explore.proofs.Going.{new_ready}
use Rattle.explore.proofs.Biting.{means_none, means_more, below_at, swept, counted_fit}
use Rattle.explore.proofs.sweep.Goals as goal

pub loop-i-init : goal.loop-i-init
loop-i-init c = (new_ready _ _ c.requires.fit.1.1, means_none _ _ _ _ _)

pub consume-n-requires-clause-on_in_bounds : goal.consume-n-requires-clause-on_in_bounds
consume-n-requires-clause-on_in_bounds c = (below_at _ _ c.loop-i.i _ (omega arith) c.requires.fit.0.below c.entry_at-e.ensures, c.requires.fit.1.0)

pub loop-i-preserved : goal.loop-i-preserved
loop-i-preserved c = (c.consume-n.ensures.ready_2, means_more _ _ _ _ c.loop-i.i _ c.entry_at-e.ensures (c.consume-n.ensures.means _ c.loop-i.invariant.1))

pub returns : goal.returns
returns c = (counted_fit _ _ _ _ c.loop-i.invariant.0, slot_first _ _ c.loop-i.invariant.0.size ∙ swept _ _ _ _ _ _ _ c.loop-i.i (omega arith) c.loop-i.invariant.1)
