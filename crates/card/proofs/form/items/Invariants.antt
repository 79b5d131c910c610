-- `card::form::items` meets its contract: the invariant is `Passing`. Assumes nothing.
use Prim.Native.Nat.{◌-◌}
use lib.ListN.{length}
use Rattle.card.proofs.Passing.{Passing}
use Rattle.card.proofs.form.items.Given as goal

abbrev pub invariant-loop-f : goal.invariant-loop-f
invariant-loop-f l = Passing l.s l.h l.f

abbrev pub decreases-loop-f : goal.decreases-loop-f
decreases-loop-f l = length l.s - l.f.at
