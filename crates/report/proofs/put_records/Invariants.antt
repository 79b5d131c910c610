-- `report::put_records` meets its contract: what is left of the records is still to be written; each round takes two of them off. Assumes nothing.
use Prim.Native.Nat.{◌+◌, ◌*◌, ◌-◌, ◌≤◌}
use lib.ListN.{length, drop}
use Rattle.ground.specs.Lists.{each}
use Rattle.card.specs.Decode.{table_at}
use Rattle.report.specs.Printed.{lines, record_line}
use Rattle.report.specs.Steps.{Going}
use Rattle.report.proofs.put_records.Given as goal

abbrev pub invariant-loop-place : goal.invariant-loop-place
invariant-loop-place l = Going l.initial.out l.out l.at l.end (each (record_line (table_at l.table)) (lines (drop l.from l.input))) (each (record_line (table_at l.table)) (lines (drop l.place l.input))) × (l.end ≤ 51 + 72 * l.place)

abbrev pub decreases-loop-place : goal.decreases-loop-place
decreases-loop-place l = length l.input - l.place
