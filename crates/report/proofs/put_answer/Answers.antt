-- `report::put_answer` meets its contract: its texts one after the other. Assumes nothing.
use native.Mathlib.Omega.{arith}
use Rattle.report.specs.Lines.{answer_line}
use Rattle.report.proofs.Writing.{wrote_then}
use Rattle.report.proofs.put_answer.Goals as goal

pub returns : goal.returns
unfolding answer_line
returns c = let n = rw c.from.ensures at c.put_number-first.ensures.0 in (wrote_then n (wrote_then c.put_places-end.ensures.0 c.put_byte.ensures), omega arith)
