-- `card::skip_rows` meets its contract: what follows the rows passed is what followed the first. Assumes nothing.
use mathlib.Core.Path.{sym, ◌∙◌}
use native.Mathlib.Omega.{arith}
use Rattle.card.proofs.Situations.{after_rows_step}
use Rattle.card.proofs.skip_rows.Goals as goal

pub loop-i-preserved : goal.loop-i-preserved
loop-i-preserved c =
    (rw c.skip_cmds-i.ensures.0 (sym (after_rows_step _ _ _ (sym c.in-Some.ensures)) ∙ c.loop-i.invariant.0), omega (arith, c.skip_cmds-i.ensures.1))

pub returns : goal.returns
returns c = (sym (after_rows_step _ _ _ (sym c.read_row.ensures ∙ c.in_default.is)) ∙ c.loop-i.invariant.0, c.loop-i.invariant.1)
