-- `net::byte_count` meets its contract. Assumes nothing.
use mathlib.Core.Path.{◌≡◌, ap, ◌∙◌}
use Prim.Native.Nat.{ℕ, ◌+◌, ◌-◌}
use lib.ListN.{take, drop}
use native.Mathlib.Omega.{arith}
use Rattle.std.proofs.lemmas.Result.{err_from_is_err_and}
use Rattle.net.specs.Count.{count_below, bit_set}
use Rattle.net.proofs.Counting.{count_refused, absent, here_whole, can_count, neither, counts_it}
use Rattle.net.proofs.byte_count.Goals as goal

pub returns-in_err-p : goal.returns-in_err-p
returns-in_err-p c =
    let p = err_from_is_err_and c.from_residual.result c.from_residual.ensures.1 in
    rw (p.1, p.2) (count_refused _ _ c.in_err-p.ensures _)

pub returns-then-p-index : goal.returns-then-p-index
returns-then-p-index c = absent c.in_ok-p.ensures _ c.if-p-index.true

pub record_at-requires : goal.record_at-requires
record_at-requires c = here_whole c.in_ok-p.ensures _ c.if-p-index.false

pub range_count-requires : goal.range_count-requires
range_count-requires c = can_count c.in_ok-p.ensures _ c.if-p-index.false _ c.in-Range.ensures

pub overflow_add-at : goal.overflow_add-at
overflow_add-at c = let h = can_count c.in_ok-p.ensures _ c.if-p-index.false _ c.in-Mask.ensures in omega arith

pub slice_bounds-mask_count-end : goal.slice_bounds-mask_count-end
slice_bounds-mask_count-end c = can_count c.in_ok-p.ensures _ c.if-p-index.false _ c.in-Mask.ensures

pub returns-in-Range : goal.returns-in-Range
returns-in-Range c =
    ap (λ (n : ℕ). record { code = 0; count = n }) c.range_count.ensures ∙ counts_it c.in_ok-p.ensures _ c.if-p-index.false _ c.in-Range.ensures

pub returns-in-Mask : goal.returns-in-Mask
returns-in-Mask c =
    let l : c.in-Mask.at + 32 - c.in-Mask.at ≡ 32 = omega arith in
    ap (λ (n : ℕ). record { code = 0; count = n }) (c.mask_count.ensures ∙ ap (λ (k : ℕ). count_below 256 (bit_set (take k (drop c.in-Mask.at c.args.net.now)))) l)
    ∙ counts_it c.in_ok-p.ensures _ c.if-p-index.false _ c.in-Mask.ensures

pub returns-in_default : goal.returns-in_default
returns-in_default c = neither _ _ c.in_default.not-Range c.in_default.not-Mask ∙ counts_it c.in_ok-p.ensures _ c.if-p-index.false _ c.record_at.ensures
