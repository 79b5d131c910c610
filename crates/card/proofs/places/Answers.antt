-- `card::places` meets its contract: the invariant is `Noting`. Assumes nothing.
use native.Mathlib.Omega.{arith}
use lib.ListN.{length-take}
use Rattle.card.proofs.Situations.{noting_begins, noting_on, noting_ends}
use Rattle.card.proofs.places.Goals as goal

pub loop-place-init : goal.loop-place-init
loop-place-init c = noting_begins _ c.skip_cmds-p.ensures.0

pub overflow_add-p : goal.overflow_add-p
overflow_add-p c = omega (arith, c.loop-place.invariant.most, c.well_formed.0.1, c.sit_count.ensures, length-take c.min-count.result c.args.at.now)

pub loop-place-preserved : goal.loop-place-preserved
loop-place-preserved c = noting_on c.loop-place.invariant c.loop-place-test.true _ c.skip_rows-p.ensures.0

pub returns : goal.returns
returns c = noting_ends c.args.at.now _ c.loop-place.invariant c.loop-place-test.false (omega arith) (omega arith)
