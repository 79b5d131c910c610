-- `put_mask` meets its contract: the kind and k bytes of the body stand. Assumes nothing.
use Rattle.std.proofs.Common.{◌∷◌}
use Rattle.ground.specs.Lists.{Wrote}
use Rattle.pattern.specs.Sets.{octets}
use Rattle.pattern.specs.Writing.{shown}
use Rattle.pattern.proofs.writing.put_mask.Given as goal

abbrev pub invariant-loop-k : goal.invariant-loop-k
invariant-loop-k l = Wrote l.fn.out l.out l.o l.p (0x12 ∷ octets (shown l.caret l.marks) l.k 0)
