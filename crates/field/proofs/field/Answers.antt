-- `field` meets its contract: a part lies in the line, and a refused one is the empty part at its start. Assumes nothing.
use Prim.Native.Nat.{ℕ}
use native.Mathlib.Nat.{zero-add}
use mathlib.Core.Path.{refl, sym, ap, ◌∙◌}
use Rattle.field.proofs.Cuts.{cut_passed, cut_at, within, handed_part, handed_none}
use Rattle.field.proofs.field.Goals as goal

pub slice_bounds-result-count : goal.slice_bounds-result-count
slice_bounds-result-count c = (within _ _ _ (cut_at _ _ _ c.ranges.from c.ranges.to c.between.ensures c.in-Ok.is)).0

pub slice_bounds-result-start : goal.slice_bounds-result-start
slice_bounds-result-start c = (within _ _ _ (cut_at _ _ _ c.ranges.from c.ranges.to c.between.ensures c.in-Ok.is)).0

pub slice_bounds-result-end : goal.slice_bounds-result-end
slice_bounds-result-end c = (within _ _ _ (cut_at _ _ _ c.ranges.from c.ranges.to c.between.ensures c.in-Ok.is)).1

pub returns-in-Ok : goal.returns-in-Ok
returns-in-Ok c = handed_part _ _ _ (cut_at _ _ _ c.ranges.from c.ranges.to c.between.ensures c.in-Ok.is) refl refl

pub returns-in-Err : goal.returns-in-Err
returns-in-Err c = handed_none c.args.line _
    (sym (cut_passed _ _ _ c.ranges.from c.ranges.to c.between.ensures) ∙ c.in-Err.is)
    refl
    (ap (λ (o : ℕ). (c.args.line.ref_ptr.0, o)) (sym (zero-add c.args.line.ref_ptr.1)))
