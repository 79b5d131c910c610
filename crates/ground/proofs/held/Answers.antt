-- `held` meets its contract: a place up to the largest fits sixteen signed bits. Assumes nothing.
use Rattle.ground.proofs.Places.{to_place}
use Rattle.ground.proofs.held.Goals as goal

pub returns : goal.returns
returns c = to_place _ c.requires
