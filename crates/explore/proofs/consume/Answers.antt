-- `explore::consume` meets its contract. Assumes nothing.
use Rattle.explore.proofs.Biting.{ate_none, ate_in, ate_one}
use Rattle.explore.proofs.consume.Goals as goal

pub visit-requires-clause-on_in_bounds : goal.visit-requires-clause-on_in_bounds
visit-requires-clause-on_in_bounds c = (rw c.moved.ensures.0 (ate_in c.requires.formed _ _ _ c.requires.on_in_bounds.0 c.in-Some.ensures), c.requires.on_in_bounds.1)

pub returns-in-Some-clause-means : goal.returns-in-Some-clause-means
returns-in-Some-clause-means c = ate_one c.requires.formed _ _ _ c.requires.on_in_bounds.0 _ _ _ _ c.in-Some.ensures _ c.moved.ensures.0 c.moved.ensures.1 _ _ _ c.visit.ensures.means

pub returns-in-None-clause-means : goal.returns-in-None-clause-means
returns-in-None-clause-means c = ate_none c.requires.formed _ _ _ c.requires.on_in_bounds.0 _ _ _ c.in-None.ensures
