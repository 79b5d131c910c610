-- `explore::registers_of` meets its contract. Assumes nothing.
use mathlib.Core.Path.{ap}
use native.Mathlib.Omega.{arith}
use Rattle.paths.specs.Registers.{held_by}
use Rattle.explore.proofs.Naming.{list_over, list_on, gathered, none_held, slot_whole}
use Rattle.explore.proofs.registers_of.Goals as goal

pub loop-i-init : goal.loop-i-init
loop-i-init c = (omega arith, (c.requires.1.1, none_held _ _))

pub returns-in_err-k : goal.returns-in_err-k
returns-in_err-k c = rw c.from_residual.ensures (list_over _ c.loop-i.i _ c.entry_at.ensures _ c.loop-i.invariant.1.1 _ (omega arith) c.in_err-k.ensures)

pub loop-i-preserved : goal.loop-i-preserved
loop-i-preserved c = (c.in_ok-k.ensures.count.0, (c.in_ok-k.ensures.size, list_on _ c.loop-i.i _ c.entry_at.ensures _ c.loop-i.invariant.1.1 _ _ c.in_ok-k.ensures))

pub returns : goal.returns
returns c = gathered _ _ _ _ _ c.loop-i.invariant.1.0 c.loop-i.invariant.0 c.loop-i.invariant.1.1 (ap held_by (slot_whole c.args.list.now c.loop-i.i (omega arith)))
