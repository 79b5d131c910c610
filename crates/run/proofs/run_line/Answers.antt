-- `run::run_line` meets its contract: the invariant is `Riding`. Assumes nothing.
use mathlib.Core.Path.{ap, ◌∙◌}
use native.Mathlib.Omega.{arith}
use Rattle.loader.proofs.Situated.{count_most, room_here}
use Rattle.card.specs.Run.{Bank}
use Rattle.card.specs.Decode.{cmds_at}
use Rattle.run.specs.Carry.{carry}
use Rattle.run.proofs.Carrying.{carry_none}
use Rattle.run.proofs.Riding.{riding_none, riding_next, riding_end}
use Rattle.run.proofs.run_line.Goals as goal
use Rattle.run.proofs.run_line.Goals.{then-not-alone, else-not-alone}

pub loop-i-init : goal.loop-i-init
loop-i-init c = riding_none c.requires.rides _ (c.carry_list.ensures ∙ ap (λ (b : Bank). carry (cmds_at c.args.s.now 5) 0 b b) c.requires.empty)

pub bounds-places-from : goal.bounds-places-from
bounds-places-from c = omega (arith, count_most c.requires.rides.ready)

pub overflow_add-p : goal.overflow_add-p
overflow_add-p c = omega (arith, room_here c.requires.rides.ready {q = c.from.result} (omega arith))

pub loop-i-preserved : goal.loop-i-preserved
loop-i-preserved c =
    riding_next c.requires.rides c.loop-i.invariant _ _ _ c.loop-i-test.true (c.type_inv.line c.loop-i.i).fits (rw c.from.ensures at c.find_row-row.ensures)
    (elim c.if-not-alone.branch [
      | then-not-alone w ↦ rw w.bank-is w.carry_list-then-not-alone.ensures
      | else-not-alone w ↦ rw w.bank-is (carry_none _ _ _ _ (c.alone.ensures.none w.if-not-alone.false))
    ])

pub returns : goal.returns
returns c = (riding_end c.requires.rides c.loop-i-test.false c.loop-i.invariant, c.loop-i.invariant.inside)
