-- `ride::Mount::ride_line` meets its contract. Assumes nothing.
use mathlib.Core.Path.{◌∙◌}
use Rattle.ride.proofs.Lines.{rest_so, end_so}
use Rattle.ride.proofs.Mount.ride_line.Goals as goal
use Rattle.ride.proofs.Mount.ride_line.Goals.{then-g-line, else-g-line}

pub returns : goal.returns
returns c =
    c.told.ensures
    ∙ elim c.if-g-line.branch [
      | then-g-line w ↦ rw (w.bank-is, w.row-is) (w.ride_rest-row.ensures.0 ∙ rest_so c.args.self.now.fits c.args.line.now c.set_list.ensures c.glide-g.ensures)
      | else-g-line w ↦ rw (w.bank-is, w.row-is) (end_so c.args.self.now.fits c.args.line.now c.set_list.ensures c.glide-g.ensures w.if-g-line.false)
    ]
