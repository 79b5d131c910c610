-- `blocks::move_eight` meets its contract: the first of the eight values are stored. Assumes nothing.
use mathlib.Core.Path.{◌≡◌}
use lib.Seq.{paste}
use Rattle.blocks.proofs.move_eight.Given as goal

abbrev pub invariant-loop-t : goal.invariant-loop-t
invariant-loop-t l = l.bank ≡ paste l.initial.bank l.a l.x-items l.t
