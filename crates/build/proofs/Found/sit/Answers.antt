-- `build::Found::sit` meets its contract. Assumes nothing.
use Rattle.build.proofs.Writing.{writes_then, writes_as}
use Rattle.build.proofs.Tables.{sit_is}
use Rattle.build.proofs.Sound.{same, fits, stands}
use Rattle.build.proofs.Found.sit.Goals as goal

pub ending_of-requires-clause-fit : goal.ending_of-requires-clause-fit
ending_of-requires-clause-fit c = fits c.requires.sound c.requires.i_in_bounds c.load-s.ensures

pub rows-requires-clause-stands : goal.rows-requires-clause-stands
rows-requires-clause-stands c = stands c.requires.sound c.requires.i_in_bounds c.load-s.ensures

pub returns-clause-writes : goal.returns-clause-writes
returns-clause-writes c =
    let e = same c.requires.sound c.requires.i_in_bounds c.load-s.ensures in
    writes_as (writes_then (writes_then c.put.ensures c.put-2.ensures) c.rows.ensures.writes) (sit_is _ _ _ _ e _ c.ending_of.ensures _ c.unwrap_or-answer.ensures)
