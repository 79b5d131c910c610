-- `image::fill_row` meets its contract: the invariant is `Filling`. Assumes nothing.
use mathlib.Core.Path.{sym, ap, ◌∙◌}
use native.Mathlib.Omega.{arith}
use Rattle.image.specs.Image.{entry_at}
use Rattle.image.proofs.Written.{filling_next}
use Rattle.image.proofs.fill_row.Goals as goal
use Rattle.image.proofs.fill_row.Goals.{then-p-i, else-p-i}

pub loop-b-preserved : goal.loop-b-preserved
loop-b-preserved c = elim c.if-p-i.branch [
  | then-p-i w ↦
      filling_next c.loop-b.invariant (omega arith) _ _ (w.i-is ∙ c.row_spot-p.ensures) (w.e-is ∙ w.entry_at-e-then-p-i.ensures ∙ ap (entry_at c.args.s.now) (sym w.i-is))
  | else-p-i w ↦
      filling_next c.loop-b.invariant (omega arith) _ _ (w.i-is ∙ sym w.if-p-i.false ∙ c.row_spot-p.ensures)
      (w.e-is ∙ c.loop-b.invariant.held ∙ ap (entry_at c.args.s.now) (sym w.i-is))
]
