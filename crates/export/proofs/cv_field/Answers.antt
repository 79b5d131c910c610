-- `export::cv_field` meets its contract: the part of the field call, copied. Assumes nothing.
use mir.Syntax.{w16}
use mir.ValLaws.{to_z-of_z}
use native.Mathlib.Omega.{arith}
use mathlib.Core.Path.{refl}
use Rattle.export.proofs.Copying.{no_room}
use Rattle.export.proofs.cv_field.Goals as goal

pub returns-then-part-out : goal.returns-then-part-out
returns-then-part-out c = let e = rw (to_z-of_z w16 _ c.ranges.from, to_z-of_z w16 _ c.ranges.to) at c.field-part.ensures.bytes in
    rw (← e) c.copy.ensures

pub returns : goal.returns
returns c = let e = rw (to_z-of_z w16 _ c.ranges.from, to_z-of_z w16 _ c.ranges.to) at c.field-part.ensures.bytes in
    rw (← e) (no_room _ _ _ (omega arith) refl)
