-- `explore::explore` meets its contract. Assumes nothing.
use mathlib.Core.Path.{◌∙◌}
use native.Mathlib.Omega.{arith}
use Rattle.std.proofs.lemmas.Result.{err_from_is_err_and}
use Rattle.explore.proofs.Exploration.{start_kept, start_slots, explore_stop, explore_on, explored_all_of}
use Rattle.explore.proofs.explore.Goals as goal

pub loop-i-init : goal.loop-i-init
loop-i-init c =
    let z = c.in_ok-ok_or.ensures.ok_part in
    (omega arith, (start_kept _ _ _ _ _ _ c.begin_of.ensures z c.requires.in_bounds _ c.store.ensures, start_slots _ _ _ _ _ _ c.begin_of.ensures z c.requires.in_bounds _ c.store.ensures))

pub returns-in_err-count : goal.returns-in_err-count
returns-in_err-count c =
    let p = err_from_is_err_and c.from_residual-in_err-count.result c.from_residual-in_err-count.ensures.1 in
    rw (p.1, p.2) (explore_stop _ _ _ _ _ _ _ (c.loop-i.auto.work ∙ c.store.ensures.size) c.loop-i.invariant.1.1 (omega arith) _ c.in_err-count.ensures)

pub loop-i-preserved : goal.loop-i-preserved
loop-i-preserved c = let q = explore_on _ _ c.args.work.now _ _ _ _ (c.loop-i.auto.work ∙ c.store.ensures.size) c.loop-i.invariant.1.1 (omega arith) _ c.in_ok-count.ensures in
    (omega (arith, q.1.1), (q.0, q.1.0))

pub returns : goal.returns
returns c = explored_all_of _ _ _ _ _ c.loop-i.i (omega arith) (c.loop-i.auto.work ∙ c.store.ensures.size) c.loop-i.invariant.1.0 c.loop-i.invariant.1.1
