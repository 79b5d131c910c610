-- `ride::Mount::finish` meets its contract. Assumes nothing.
use mathlib.Core.Path.{◌∙◌}
use Rattle.ride.proofs.Mount.finish.Goals as goal

pub returns : goal.returns
returns c = c.told.ensures ∙ c.ride_rest-row.ensures.0
