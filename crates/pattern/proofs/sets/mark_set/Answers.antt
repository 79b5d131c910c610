-- `mark_set` meets its contract. Assumes nothing.
use Rattle.std.proofs.Common.{◌∙◌}
use Rattle.pattern.proofs.SetSteps.{listed_long}
use Rattle.pattern.proofs.sets.mark_set.Goals as goal

pub returns : goal.returns
returns c = listed_long _ _ (c.set_at.auto.marks ∙ c.requires.1.long) c.set_at.ensures.marked
