-- `mark_item` meets its contract: the marks below b are raised. Assumes nothing.
use Rattle.std.proofs.Common.{◌≡◌, ℕ, ◌≤◌, ◌<◌, get_or}
use Rattle.pattern.specs.Sets.{lists}
use Rattle.pattern.specs.Standing.{item_of, raised}
use Rattle.pattern.proofs.sets.mark_item.Given as goal

abbrev pub invariant-loop-b : goal.invariant-loop-b
invariant-loop-b l =
    ((j : ℕ) → j < l.b → get_or l.marks j 0 ≡ raised (lists j (item_of l.x)) (get_or l.initial.marks j 0))
    × ((j : ℕ) → l.b ≤ j → get_or l.marks j 0 ≡ get_or l.initial.marks j 0)
