-- `report::put_text` meets its contract. Assumes nothing.
use Rattle.report.proofs.Writing.{wrote_text}
use Rattle.report.proofs.put_text.Goals as goal

pub returns : goal.returns
returns c = wrote_text _ _ _ _ c.requires c.copy_from_slice.ensures.after
