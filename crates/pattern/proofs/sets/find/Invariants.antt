-- `find` meets its contract: no word before the k-th fits. Assumes nothing.
use Rattle.std.proofs.Common.{◌≡◌, drop}
use Rattle.pattern.specs.Sets.{seek, names}
use Rattle.pattern.proofs.sets.find.Given as goal

abbrev pub invariant-loop-k : goal.invariant-loop-k
invariant-loop-k l = seek l.w names 0 ≡ seek l.w (drop l.k names) l.k
