-- `explore::try_byte` meets its contract. Assumes nothing.
use mathlib.Core.Path.{sym, ◌∙◌}
use Rattle.std.proofs.lemmas.Result.{err_from_is_err_and}
use Rattle.explore.proofs.Exploration.{tried_over, tried_full, tried_new}
use Rattle.explore.proofs.try_byte.Goals as goal

pub returns-in_err-ok_or : goal.returns-in_err-ok_or
returns-in_err-ok_or c =
    let p = err_from_is_err_and c.from_residual.result c.from_residual.ensures.1 in
    rw (p.1, p.2) (tried_over _ _ _ _ _ _ c.requires.kept _ _ _ c.next_of.ensures _ c.in_err-ok_or.ensures.value)

pub returns-then-count-ge-MOST_SITUATIONS : goal.returns-then-count-ge-MOST_SITUATIONS
returns-then-count-ge-MOST_SITUATIONS c =
    tried_full _ _ _ _ _ _ c.requires.kept _ _ _ c.next_of.ensures c.in_ok-ok_or.ensures.ok_part _ c.place.ensures (sym c.is_some.ensures ∙ c.if-is_some.false) c.if-count-ge-MOST_SITUATIONS.true

pub returns : goal.returns
returns c =
    tried_new _ _ _ _ _ _ c.requires.kept _ _ _ c.next_of.ensures c.in_ok-ok_or.ensures.ok_part _ c.place.ensures (sym c.is_some.ensures ∙ c.if-is_some.false) c.if-count-ge-MOST_SITUATIONS.false _ c.store.ensures
