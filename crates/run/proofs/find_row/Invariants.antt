-- `run::find_row` meets its contract: the byte's row among those left is its row. Assumes nothing.
use Prim.Native.Nat.{◌-◌}
use mathlib.Core.Path.{◌≡◌}
use lib.ListN.{length}
use Rattle.card.specs.Run.{row_for}
use Rattle.card.specs.Decode.{rows_at}
use Rattle.run.proofs.find_row.Given as goal

abbrev pub invariant-loop-hi : goal.invariant-loop-hi
invariant-loop-hi l = row_for (rows_at l.s l.i) l.b ≡ row_for (rows_at l.s l.at) l.b

abbrev pub decreases-loop-hi : goal.decreases-loop-hi
decreases-loop-hi l = length l.s - l.i
