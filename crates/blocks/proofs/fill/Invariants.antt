-- `blocks::fill` meets its contract: the first registers of the part are set. Assumes nothing.
use mathlib.Core.Path.{◌≡◌}
use lib.ListN.{take, replicate}
use Rattle.blocks.proofs.fill.Given as goal

abbrev pub invariant-loop-x : goal.invariant-loop-x
invariant-loop-x l = take l.x-index l.x-items ≡ replicate l.x-index l.v
