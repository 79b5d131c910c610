-- `place_of` meets its contract: the cast fails below zero, and else keeps the place. Assumes nothing.
use Rattle.std.proofs.Common.{◌∙◌}
use Rattle.ground.proofs.Places.{tried_bits}
use Rattle.ground.proofs.place_of.Goals as goal

pub returns : goal.returns
returns c = c.ok.ensures.value ∙ tried_bits _ _ c.ranges.v c.try_from.ensures
