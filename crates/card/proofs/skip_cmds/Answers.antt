-- `card::skip_cmds` meets its contract: what follows the commands passed is what followed the first. Assumes nothing.
use mathlib.Core.Path.{sym, ◌∙◌}
use native.Mathlib.Omega.{arith}
use Rattle.card.proofs.Rows.{after_step}
use Rattle.card.proofs.skip_cmds.Goals as goal

pub loop-i-preserved-in-Move : goal.loop-i-preserved-in-Move
loop-i-preserved-in-Move c = (sym (after_step _ _ _ (sym c.in-Move.ensures)) ∙ c.loop-i.invariant.0, omega arith)

pub loop-i-preserved : goal.loop-i-preserved
loop-i-preserved c = (sym (after_step _ _ _ (sym c.in-Put.ensures)) ∙ c.loop-i.invariant.0, omega arith)

pub returns-in-Stop : goal.returns-in-Stop
returns-in-Stop c = (sym (after_step _ _ _ (sym c.in-Stop.ensures)) ∙ c.loop-i.invariant.0, c.loop-i.invariant.1)
