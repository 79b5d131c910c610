-- `eight` meets its contract: the bits from j on are known. Assumes nothing.
use Rattle.std.proofs.Common.{◌≡◌, ◌+◌, ◌-◌}
use Rattle.pattern.specs.Sets.{octet}
use Rattle.pattern.specs.Writing.{shown}
use Rattle.pattern.proofs.writing.eight.Given as goal

abbrev pub invariant-loop-j : goal.invariant-loop-j
invariant-loop-j l = l.bits ≡ octet (shown l.caret l.marks) (8 - l.j) (l.b + l.j)
