-- `ride::gliding::glide_two` meets its contract: the invariant is `Reached` for each line. Assumes nothing.
use Rattle.ride.specs.Need.{Reached}
use Rattle.ride.proofs.gliding.glide_two.Given as goal

abbrev pub invariant-loop-i : goal.invariant-loop-i
invariant-loop-i l = Reached l.image l.line l.limit 0 0 l.initial.bank l.i l.row l.bank × Reached l.image l.other l.limit 0 0 l.initial.beside l.i l.row2 l.beside
