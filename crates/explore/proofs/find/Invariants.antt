-- `explore::find` meets its contract. Assumes nothing.
use Rattle.std.proofs.Common.{◌≡◌, ◌+◌, drop}
use Rattle.paths.specs.Registers.{index}
use Rattle.explore.specs.Keys.{keys_at}
use Rattle.explore.proofs.find.Given as goal

-- it is none of the first i
abbrev pub invariant-loop-i : goal.invariant-loop-i
invariant-loop-i l = index (l.t, l.o) (keys_at l.regs 0 l.n) ≡ l.i + index (l.t, l.o) (drop l.i (keys_at l.regs 0 l.n))
