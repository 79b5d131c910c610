-- `build::Found::most` meets its contract. Assumes nothing.
use Rattle.std.proofs.Common.{◌≡◌, ◌-◌, max}
use Rattle.explore.specs.Slots.{slots}
use Rattle.build.specs.Card.{most}
use Rattle.build.specs.Writing.{all_in}
use Rattle.build.proofs.Found.most.Given as goal

abbrev pub invariant-loop-j : goal.invariant-loop-j
invariant-loop-j l = max l.m (most (slots l.self.work.now l.j (l.self.count - l.j))) ≡ most (all_in l.self)
