-- `report::put_position` meets its contract. Assumes nothing.
use native.Mathlib.Omega.{arith}
use mathlib.Core.Path.{refl}
use Rattle.ground.proofs.Places.{arrived}
use Rattle.report.proofs.Writing.{wrote_then}
use Rattle.report.proofs.put_position.Goals as goal

pub returns : goal.returns
returns c = (rw (arrived _ c.ranges.v c.place_of.ensures refl) (wrote_then c.put_byte-after.ensures c.put_shown.ensures.0), omega arith)
