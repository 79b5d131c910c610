-- `image::sorts::block_sort` meets its contract. Assumes nothing.
use native.Mathlib.Omega.{arith}
use Rattle.card.proofs.Laws.{put_facts}
use Rattle.image.specs.Image.{block_bits}
use Rattle.image.proofs.Entries.{a_set, sort_other, sort_one, sort_block}
use mathlib.Core.Logic.{inl, inr}
use Rattle.image.proofs.sorts.block_sort.Goals as goal
use Rattle.image.proofs.sorts.block_sort.Goals.{then-k-gt-SETS_MAX-via-then-k-gt-SETS_MAX, then-k-gt-SETS_MAX-via-else-k-gt-SETS_MAX+then-a-k, then-k-gt-SETS_MAX-via-else-k-gt-SETS_MAX+else-a-k+then-not-alone}

pub stretch_at-sets-requires : goal.stretch_at-sets-requires
stretch_at-sets-requires c = omega (arith, put_facts _ _ _ c.requires.first)

pub returns-then-k-gt-SETS_MAX : goal.returns-then-k-gt-SETS_MAX
returns-then-k-gt-SETS_MAX c =
    sort_other _ _ c.requires c.stretch_at-sets.ensures c.first_from-f.ensures.0 c.stretch_at-moves.ensures
    (elim c.then-k-gt-SETS_MAX.branch [
      | then-k-gt-SETS_MAX-via-then-k-gt-SETS_MAX w ↦ inl w.if-k-gt-SETS_MAX.true
      | then-k-gt-SETS_MAX-via-else-k-gt-SETS_MAX+then-a-k w ↦ inr (inl w.if-a-k.true)
      | then-k-gt-SETS_MAX-via-else-k-gt-SETS_MAX+else-a-k+then-not-alone w ↦ inr (inr (w.alone.ensures.some w.if-not-alone.true))
    ])
    c.plain_sort.ensures

pub overflow_sub-w : goal.overflow_sub-w
overflow_sub-w c = let h = a_set _ _ c.requires c.stretch_at-sets.ensures c.first_from-f.ensures.0 c.stretch_at-moves.ensures in omega arith

pub returns-then-w-lt-SETS : goal.returns-then-w-lt-SETS
unfolding block_bits
returns-then-w-lt-SETS c = sort_one _ _ c.requires c.stretch_at-sets.ensures c.first_from-f.ensures.0 c.stretch_at-moves.ensures c.if-k-gt-SETS_MAX.false c.if-a-k.false c.alone.ensures c.if-not-alone.false c.if-w-lt-SETS.true

pub returns-else-w-lt-SETS : goal.returns-else-w-lt-SETS
unfolding block_bits
returns-else-w-lt-SETS c = sort_block _ _ c.requires c.stretch_at-sets.ensures c.first_from-f.ensures.0 c.stretch_at-moves.ensures c.if-k-gt-SETS_MAX.false c.if-a-k.false c.alone.ensures c.if-not-alone.false c.if-w-lt-SETS.false
