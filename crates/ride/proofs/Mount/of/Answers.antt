-- `ride::Mount::of` meets its contract. Assumes nothing.
use Rattle.ride.proofs.Answering.{unfit_none, unfit_small}
use Rattle.ride.proofs.Mount.of.Goals as goal
use Rattle.ride.proofs.Mount.of.Goals.{then-count-eq0-via-then-count-eq0, then-count-eq0-via-else-count-eq0+then-image-count}

pub returns-then-count-eq0 : goal.returns-then-count-eq0
returns-then-count-eq0 c = elim c.then-count-eq0.branch [
  | then-count-eq0-via-then-count-eq0 w ↦ unfit_none _ _ c.sit_count-count.ensures.0 w.if-count-eq0.true
  | then-count-eq0-via-else-count-eq0+then-image-count w ↦ unfit_small _ _ c.sit_count-count.ensures.0 w.if-count-eq0.false w.if-image-count.true
]
