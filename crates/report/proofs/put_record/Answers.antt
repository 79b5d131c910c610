-- `report::put_record` meets its contract: the line of what the ride told. Assumes nothing.
use Rattle.report.proofs.Ridden.{rode_line}
use Rattle.report.proofs.put_record.Goals as goal

pub returns : goal.returns
returns c = (rode_line c.requires.mounted _ (λ i. (c.type_inv.line i).fits) c.ride-told.ensures c.put_told.ensures.0, c.put_told.ensures.1)
