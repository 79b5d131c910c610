-- `report::put_records` meets its contract: what is left of the records is still to be written; each round takes two of them off. Assumes nothing.
use Prim.Native.Nat.{◌+◌}
use native.Mathlib.Omega.{arith}
use Rattle.card.specs.Decode.{table_at}
use Rattle.report.specs.Printed.{record_line}
use Rattle.report.proofs.Splitting.{going_none, going_on, going_done, next_line, next_two, no_line_left}
use Rattle.report.proofs.put_records.Goals as goal

pub loop-place-init : goal.loop-place-init
loop-place-init c = (going_none _ _ _, c.requires.low)

pub put_record-requires : goal.put_record-requires
put_record-requires c = record { at_in_bounds = omega (arith, c.loop-place.invariant.1, c.requires.few, c.requires.wide); mounted = c.requires.mounted }

pub returns-then-input-next : goal.returns-then-input-next
returns-then-input-next c = let f = record_line (table_at c.args.table.now) in
    let n = next_line f c.args.input.now c.loop-place.place c.loop-place-test.true c.line_end-stop.result c.line_end-stop.ensures.0 in
    going_done (no_line_left f c.args.input.now (c.line_end-stop.result + 1) c.if-input-next.true) (going_on n c.loop-place.invariant.0 c.put_record.ensures.0)

pub put_two-end-requires : goal.put_two-end-requires
put_two-end-requires c = record { at_in_bounds = omega (arith, c.loop-place.invariant.1, c.requires.few, c.requires.wide, c.line_end-stop.ensures.0, c.if-input-next.false); mounted = c.requires.mounted }

pub loop-place-preserved : goal.loop-place-preserved
loop-place-preserved c = let n = next_two (record_line (table_at c.args.table.now)) c.args.input.now c.loop-place.place c.loop-place-test.true c.line_end-stop.result c.line_end-stop.ensures.0 c.if-input-next.false c.line_end-last.result c.line_end-last.ensures.0 in
    (going_on n c.loop-place.invariant.0 c.put_two-end.ensures.0, omega (arith, c.loop-place.invariant.1, c.put_two-end.ensures.1, c.line_end-stop.ensures.0, c.line_end-last.ensures.0))

pub returns : goal.returns
returns c = going_done (no_line_left (record_line (table_at c.args.table.now)) c.args.input.now c.loop-place.place c.loop-place-test.false) c.loop-place.invariant.0
