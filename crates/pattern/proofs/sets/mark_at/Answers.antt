-- `mark_at` meets its contract where an item is complete. Assumes nothing.
use Rattle.pattern.proofs.SetSteps.{shown_gained}
use Rattle.pattern.proofs.sets.mark_at.Goals as goal

pub returns-in-Some : goal.returns-in-Some
returns-in-Some c = λ xs h. shown_gained xs h c.in-Some.x c.mark_item.auto.marks c.in-Some.ensures c.mark_item.ensures
