-- `build::Found::rows` meets its contract. Assumes nothing.
use Rattle.std.proofs.Common.{arith}
use Rattle.explore.proofs.Classes.{next_alike, origins_alike}
use Rattle.build.proofs.Joining.{rows_start, rows_on, rows_end, skipped_byte}
use Rattle.build.proofs.Found.rows.Goals as goal
use Rattle.build.proofs.Found.rows.Goals.{then-self-b-ne0, else-self-b-ne0}

pub loop-b-init : goal.loop-b-init
loop-b-init c = rows_start _ _ _ _ _ c.deed.ensures

pub loop-b-preserved : goal.loop-b-preserved
loop-b-preserved c =
    let h = c.loop-b.invariant in
    elim c.if-self-b-ne0.branch [
      | then-self-b-ne0 w ↦ rw (w.pen-is, w.q-is) (rows_on _ _ _ h c.loop-b-test.true w.row_step.ensures)
      | else-self-b-ne0 w ↦
          let formed = c.requires.sound.formed in
          let below = c.requires.stands.holds.below in
          let alike = c.requires.sound.told.old c.loop-b.b c.loop-b-test.true w.if-self-b-ne0.false in
          rw (w.pen-is, w.q-is) (rows_on _ _ _ h c.loop-b-test.true (skipped_byte _ _ _ _ _ _ (omega arith) h.does (next_alike formed _ alike _ below) (origins_alike formed _ alike _ below)))
    ]

pub returns-clause-writes : goal.returns-clause-writes
returns-clause-writes c = rows_end _ _ _ c.loop-b.invariant (omega arith) c.row.ensures.writes
