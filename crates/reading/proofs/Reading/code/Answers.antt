-- `code` meets its contract: the number that the field call gives for the two tags' positions. Assumes nothing.
use mathlib.Core.Path.{ap, ◌∙◌}
use Rattle.field.specs.Field.{code_of}
use Rattle.reading.proofs.Readings.{cut_found}
use Rattle.reading.proofs.Reading.code.Goals as goal

pub returns : goal.returns
returns c = c.field_code.ensures ∙ ap code_of (cut_found _ _ _ _ (record { sfits = c.position-from.type_inv }) (record { sfits = c.position-to.type_inv }) c.position-from.ensures c.position-to.ensures)
