-- `build::Pen::put` meets its contract. Assumes nothing.
use Rattle.std.proofs.Common.{refl}
use Rattle.build.proofs.Writing.{left_on, byte_here, wrote_one, wrote_past}
use Rattle.build.proofs.Pen.put.Goals as goal
use Rattle.build.proofs.Pen.put.Goals.{then-self, else-self}

pub loop-b-preserved : goal.loop-b-preserved
loop-b-preserved c =
    let h = c.loop-b.invariant in
    let here = byte_here _ _ c.loop-b-test.true in
    elim c.if-self.branch [
      | then-self w ↦ rw w.self-is (left_on h here (record { same = refl; wrote = wrote_one _ _ _ }))
      | else-self w ↦ rw w.self-is (left_on h here (record { same = refl; wrote = wrote_past _ _ _ w.if-self.false }))
    ]
