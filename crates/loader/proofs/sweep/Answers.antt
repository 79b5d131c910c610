-- `loader::sweep` meets its contract: the invariant is `Sweeping`. Assumes nothing.
use Prim.Native.Nat.{◌<◌}
use mathlib.Core.Path.{refl}
use native.Mathlib.Omega.{arith}
use lib.ListN.{get_or}
use Rattle.loader.proofs.Situated.{count_most, room_here, rows_of}
use Rattle.loader.proofs.Sweeping.{sweeping_same, sweeping_more, sweeping_all}
use Rattle.loader.proofs.sweep.Goals as goal
use Rattle.loader.proofs.sweep.Goals.{then-all-seen, else-all-seen}

pub bounds-seen-q : goal.bounds-seen-q
bounds-seen-q c = omega (arith, count_most c.requires.0, c.sit_count-q-end.ensures.0)

pub bounds-may-q : goal.bounds-may-q
bounds-may-q c = omega (arith, count_most c.requires.0, c.sit_count-q-end.ensures.0)

pub bounds-seen-q-in-loop-q : goal.bounds-seen-q-in-loop-q
bounds-seen-q-in-loop-q c = omega (arith, count_most c.requires.0, c.sit_count-q-end.ensures.0)

pub overflow_add-places : goal.overflow_add-places
overflow_add-places c = omega (arith, room_here c.requires.0 {q = c.loop-q.q} (omega (arith, c.sit_count-q-end.ensures.0)), c.well_formed.0.1)

pub flow_rows-requires : goal.flow_rows-requires
flow_rows-requires c = (rows_of c.requires.0 (omega (arith, c.sit_count-q-end.ensures.0)), c.loop-q.invariant.round.words)

pub loop-q-preserved : goal.loop-q-preserved
loop-q-preserved c =
    let l : c.loop-q.q < get_or c.args.s.now 4 0 = omega (arith, c.sit_count-q-end.ensures.0) in
    elim c.if-all-seen.branch [
      | then-all-seen w ↦ rw (w.may-is, w.seen-is, w.changed-is) (sweeping_more c.loop-q.invariant c.requires.0 l _ refl w.if-all-seen.true w.flow_rows.ensures)
      | else-all-seen w ↦ rw (w.may-is, w.seen-is, w.changed-is) (sweeping_same c.loop-q.invariant w.if-all-seen.false)
    ]

pub returns : goal.returns
returns c = sweeping_all c.loop-q.invariant c.requires.0 (omega (arith, c.sit_count-q-end.ensures.0))
