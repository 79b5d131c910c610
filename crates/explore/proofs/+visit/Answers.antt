-- `explore::visit` meets its contract. Assumes nothing.
use mathlib.Core.Path.{sym, ◌∙◌}
use native.Mathlib.Omega.{arith}
use Rattle.explore.proofs.Going.{both_inside, store_inside, went_both, went_store, stayed, went_none, went_known, ready_noted, ready_put}
use Rattle.explore.proofs.+visit.Goals as goal
use Rattle.explore.proofs.+visit.Goals.{then-fuel-eq0-via-then-fuel-eq0, then-fuel-eq0-via-else-fuel-eq0+then-seen}

pub returns-then-fuel-eq0-clause-means : goal.returns-then-fuel-eq0-clause-means
returns-then-fuel-eq0-clause-means t c =
    elim c.then-fuel-eq0.branch [
      | then-fuel-eq0-via-then-fuel-eq0 w ↦ λ m h. went_none _ _ _ _ _ _ _ m h w.if-fuel-eq0.true
      | then-fuel-eq0-via-else-fuel-eq0+then-seen w ↦ λ m h. went_known _ _ _ _ _ _ _ m h w.if-fuel-eq0.false (omega (arith, c.requires.formed.few, c.requires.on_in_bounds.0)) (sym w.seen.ensures ∙ w.if-seen.true)
    ]

pub visit-k-requires : goal.visit-k-requires
visit-k-requires t c = let i = both_inside c.requires.formed _ c.requires.on_in_bounds.0 c.in-Both.ensures in
    (omega (arith, c.decreases, c.if-fuel-eq0.false), (c.requires.formed, (ready_noted _ _ _ _ _ _ c.requires.ready (sym c.seen.ensures ∙ c.if-seen.false) c.mark.ensures, (rw c.moved.ensures.0 i.0, c.requires.on_in_bounds.1))))

pub visit-requires : goal.visit-requires
visit-requires t c = let i = both_inside c.requires.formed _ c.requires.on_in_bounds.0 c.in-Both.ensures in
    (omega (arith, c.decreases, c.if-fuel-eq0.false), (c.requires.formed, (c.visit-k.ensures.ready_2, (rw c.moved-in-Both.ensures.0 i.1, c.requires.on_in_bounds.1))))

pub tagged-requires : goal.tagged-requires
tagged-requires t c = (store_inside c.requires.formed _ c.requires.on_in_bounds.0 c.in-Store.ensures).0

pub visit-requires-in-Store : goal.visit-requires-in-Store
visit-requires-in-Store t c = let i = store_inside c.requires.formed _ c.requires.on_in_bounds.0 c.in-Store.ensures in
    (omega (arith, c.decreases, c.if-fuel-eq0.false), (c.requires.formed, (ready_noted _ _ _ _ _ _ c.requires.ready (sym c.seen.ensures ∙ c.if-seen.false) c.mark.ensures, (rw c.moved-in-Store.ensures.0 i.1, c.requires.on_in_bounds.1))))

pub returns-in-Both-clause-means : goal.returns-in-Both-clause-means
returns-in-Both-clause-means t c = went_both _ _ _ c.if-fuel-eq0.false _ _ _ _ _ (omega (arith, c.requires.formed.few, c.requires.on_in_bounds.0)) (sym c.seen.ensures ∙ c.if-seen.false) c.mark.ensures c.in-Both.ensures _ _ c.moved.ensures c.moved-in-Both.ensures _ _ _ _ _ _ c.visit-k.ensures.means c.visit.ensures.means

pub returns-in-Store-clause-means : goal.returns-in-Store-clause-means
returns-in-Store-clause-means t c = went_store _ _ _ c.if-fuel-eq0.false _ _ _ _ _ (omega (arith, c.requires.formed.few, c.requires.on_in_bounds.0)) (sym c.seen.ensures ∙ c.if-seen.false) c.mark.ensures c.requires.on_in_bounds.1 c.in-Store.ensures _ c.moved-in-Store.ensures.0 (c.moved-in-Store.ensures.1 ∙ c.tagged.ensures.1) _ _ _ c.visit-in-Store.ensures.means

pub returns-in-Stay-clause-ready_2 : goal.returns-in-Stay-clause-ready_2
returns-in-Stay-clause-ready_2 t c = ready_put _ _ _ _ _ _ c.requires.ready (sym c.seen.ensures ∙ c.if-seen.false) c.mark.ensures _ c.requires.on_in_bounds.0 _ c.put_entry.ensures

pub returns-in-Stay-clause-means : goal.returns-in-Stay-clause-means
returns-in-Stay-clause-means t c = stayed _ _ _ c.if-fuel-eq0.false _ _ _ _ _ (omega (arith, c.requires.formed.few, c.requires.on_in_bounds.0)) (sym c.seen.ensures ∙ c.if-seen.false) c.mark.ensures c.in-Stay.ensures _ c.put_entry.ensures
