-- `build::commands_of` meets its contract. Assumes nothing.
use Rattle.std.proofs.Common.{arith, refl}
use Rattle.build.proofs.Commands.{set_more, move_more, skip_more, commands_done}
use Rattle.build.proofs.commands_of.Goals as goal
use Rattle.build.proofs.commands_of.Goals.{then-from-fresh, else-from-fresh+then-from-own, else-from-fresh+else-from-own}

pub loop-k-preserved : goal.loop-k-preserved
loop-k-preserved c =
    let b = c.loop-k-test.true in
    let h = c.loop-k.invariant.filled in
    elim c.if-from-fresh.branch [
      | then-from-fresh w ↦ rw w.all-is (record { few = omega arith; filled = set_more _ _ _ _ _ _ b h w.if-from-fresh.true w.add.ensures.list })
      | else-from-fresh+then-from-own w ↦ rw w.all-is (record { few = omega arith; filled = move_more _ _ _ _ _ _ b h w.if-from-fresh.false w.if-from-own.true w.add-then-from-own.ensures.list })
      | else-from-fresh+else-from-own w ↦ rw w.all-is (record { few = omega arith; filled = skip_more _ _ _ _ _ _ b h w.if-from-fresh.false w.if-from-own.false refl })
    ]

pub returns : goal.returns
returns c = commands_done _ _ _ _ _ (omega arith) c.loop-k.invariant.filled
