-- `image::fill_row` meets its contract: the invariant is `Filling`. Assumes nothing.
use Rattle.image.proofs.Written.{Filling}
use Rattle.image.proofs.fill_row.Given as goal

abbrev pub invariant-loop-b : goal.invariant-loop-b
invariant-loop-b l = Filling l.s l.at l.row l.i l.e l.b
