-- `ride::gliding::glide` meets its contract: the invariant is `Reached`. Assumes nothing.
use Rattle.ride.specs.Need.{Reached}
use Rattle.ride.proofs.gliding.glide.Given as goal

abbrev pub invariant-loop-place : goal.invariant-loop-place
invariant-loop-place l = Reached l.image l.line l.limit l.from l.first l.initial.bank l.place l.row l.bank
