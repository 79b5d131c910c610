-- `export::cv_reading` meets its contract: the part of the reading, copied. Assumes nothing.
use native.Mathlib.Omega.{arith}
use mathlib.Core.Path.{refl}
use Rattle.export.proofs.Copying.{no_room}
use Rattle.export.proofs.cv_reading.Goals as goal

pub returns-then-part-out : goal.returns-then-part-out
returns-then-part-out c = rw (← c.part_of-part.ensures.bytes) c.copy.ensures

pub returns : goal.returns
returns c = rw (← c.part_of-part.ensures.bytes) (no_room _ _ _ (omega arith) refl)
