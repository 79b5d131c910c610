-- `net::places` meets its contract. Assumes nothing.
use mathlib.Core.Path.{sym}
use native.Mathlib.Omega.{arith}
use Rattle.std.proofs.lemmas.Result.{err_from_is_err_and}
use Rattle.net.proofs.Laying.{head_few, head_room, head_refused, shown_got, fill_begins, fill_stop, fill_on, fill_extra, fill_ends}
use Rattle.net.proofs.places.Goals as goal

pub returns-in_err-tags : goal.returns-in_err-tags
returns-in_err-tags c =
    let p = err_from_is_err_and c.from_residual.result c.from_residual.ensures.1 in
    rw (p.1, p.2) (head_refused _ _ c.in_err-tags.ensures)

pub slice_bounds-found-end : goal.slice_bounds-found-end
slice_bounds-found-end c = head_few _ _ _ _ c.in_ok-tags.ensures c.from-n.ensures

pub slice_bounds-place-items-end : goal.slice_bounds-place-items-end
slice_bounds-place-items-end c = sym (head_room _ _ _ _ c.in_ok-tags.ensures c.from-n.ensures)

pub loop-place-init : goal.loop-place-init
loop-place-init c = fill_begins _ _ _ _ c.in_ok-tags.ensures c.from-n.ensures _ (head_room _ _ _ _ c.in_ok-tags.ensures c.from-n.ensures)

pub returns-in_err-at : goal.returns-in_err-at
returns-in_err-at c =
    let p = err_from_is_err_and c.from_residual-in_err-at.result c.from_residual-in_err-at.ensures.1 in
    rw (p.1, p.2) (fill_stop _ _ _ _ _ _ _ c.loop-place.invariant (omega arith) _ c.in_err-at.ensures)

pub loop-place-preserved : goal.loop-place-preserved
loop-place-preserved c =
    let g = shown_got _ _ _ _ c.in_ok-at.ensures in
    fill_on _ _ _ _ _ _ _ c.loop-place.invariant (omega arith) _ _ g.1

pub returns : goal.returns
returns c = fill_ends _ _ _ _ _ _ _ c.loop-place.invariant (omega arith) c.if-at-end.false (λ j. (c.type_inv.net j).fits)

pub returns-then-at-end : goal.returns-then-at-end
returns-then-at-end c = fill_extra _ _ _ _ _ _ _ c.loop-place.invariant (omega arith) c.if-at-end.true
