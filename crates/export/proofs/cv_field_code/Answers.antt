-- `export::cv_field_code` meets its contract. Assumes nothing.
use mir.Syntax.{w16}
use mir.ValLaws.{to_z-of_z}
use Rattle.export.proofs.cv_field_code.Goals as goal

pub returns : goal.returns
returns c = rw (to_z-of_z w16 _ c.ranges.from, to_z-of_z w16 _ c.ranges.to) at c.field_code.ensures
