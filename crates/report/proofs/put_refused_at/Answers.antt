-- `report::put_refused_at` meets its contract: its texts one after the other. Assumes nothing.
use Rattle.report.specs.Lines.{refused_at}
use Rattle.report.proofs.Writing.{wrote_then}
use Rattle.report.proofs.put_refused_at.Goals as goal

pub returns : goal.returns
unfolding refused_at
returns c = let n = rw c.from.ensures at c.put_number-word.ensures.0 in wrote_then c.put_text-number.ensures (wrote_then n (wrote_then c.put_text-of.ensures (wrote_then c.put_number-end.ensures.0 c.put_byte.ensures)))
