-- `report::put_refused` meets its contract: its texts one after the other. Assumes nothing.
use native.Mathlib.Omega.{arith}
use Rattle.report.specs.Lines.{refused_line}
use Rattle.report.proofs.Writing.{wrote_then}
use Rattle.report.proofs.put_refused.Goals as goal

pub returns : goal.returns
unfolding refused_line
returns c = let n = rw c.from.ensures at c.put_number-end.ensures.0 in (wrote_then c.put_text-number.ensures (wrote_then n c.put_byte.ensures), omega arith)
