-- `report::put_two` meets its contract: the two lines of what the ride told, one after the other. Assumes nothing.
use native.Mathlib.Omega.{arith}
use Rattle.report.proofs.Writing.{wrote_then}
use Rattle.report.proofs.Ridden.{rode_line}
use Rattle.report.proofs.put_two.Goals as goal

pub returns : goal.returns
returns c = (wrote_then (rode_line c.requires.mounted _ (λ i. (c.type_inv.line i).fits) c.ride_two-told.ensures.0 c.put_told-end.ensures.0) (rode_line c.requires.mounted _ (λ i. (c.type_inv.other i).fits) c.ride_two-told.ensures.1 c.put_told.ensures.0), omega (arith, c.put_told-end.ensures.1, c.put_told.ensures.1))
