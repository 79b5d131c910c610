-- `report::put_table` meets its contract: its texts one after the other. Assumes nothing.
use native.Mathlib.Omega.{arith}
use Rattle.report.specs.Lines.{table_line}
use Rattle.report.proofs.Writing.{wrote_then}
use Rattle.report.proofs.put_table.Goals as goal

pub returns : goal.returns
unfolding table_line
returns c = (wrote_then c.put_text-first.ensures (wrote_then c.put_number-word.ensures.0 (wrote_then c.put_text-second.ensures (wrote_then c.put_number-next.ensures.0 (wrote_then c.put_text-third.ensures (wrote_then c.put_number-end.ensures.0 c.put_byte.ensures))))), omega arith)
