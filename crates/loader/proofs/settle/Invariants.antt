-- `loader::settle` meets its contract: the invariant is `Round`, and each round that changes a set adds a bit to the 6,144. Assumes nothing.
use Prim.Native.Nat.{◌-◌}
use Rattle.card.specs.Decode.{table_at}
use Rattle.loader.specs.Flow.{total, Round}
use Rattle.loader.proofs.settle.Given as goal

abbrev pub invariant-loop-seen : goal.invariant-loop-seen
invariant-loop-seen l = Round (table_at l.s) l.may l.seen

abbrev pub decreases-loop-seen : goal.decreases-loop-seen
decreases-loop-seen l = 6144 - total l.seen
