-- `part` meets its contract: the part that the field call gives for the two tags' positions. Assumes nothing.
use Rattle.reading.proofs.Readings.{cut_found}
use Rattle.reading.proofs.Reading.part.Goals as goal

pub returns : goal.returns
returns c = rw (← cut_found _ _ _ _ (record { sfits = c.position-from.type_inv }) (record { sfits = c.position-to.type_inv }) c.position-from.ensures c.position-to.ensures) c.field.ensures
