-- The four measuring functions meet their contracts, in one induction on the bytes left, paired with the grammar level. Assumes nothing.
use Prim.Native.Nat.{◌-◌}
use lib.ListN.{length}
use Rattle.pattern.specs.Reader.{left, alts, seq, piece, atom}
use Rattle.pattern.proofs.Steps.{Passed}
use Rattle.pattern.proofs.reading.+alternatives_atomic_repeated_sequence.Given as goal

abbrev pub invariant-alternatives-loop-end : goal.invariant-alternatives-loop-end
invariant-alternatives-loop-end l = Passed l.s alts l.depth l.at l.sum l.i

abbrev pub decreases-alternatives-loop-end : goal.decreases-alternatives-loop-end
decreases-alternatives-loop-end l = length l.s - l.i

abbrev pub invariant-sequence-loop-i : goal.invariant-sequence-loop-i
invariant-sequence-loop-i l = Passed l.s seq l.depth l.at l.sum l.i

abbrev pub decreases-sequence-loop-i : goal.decreases-sequence-loop-i
decreases-sequence-loop-i l = length l.s - l.i

abbrev pub decreases-alternatives : goal.decreases-alternatives
decreases-alternatives l = left l.s.now alts l.at

abbrev pub decreases-atomic : goal.decreases-atomic
decreases-atomic l = left l.s.now atom l.at

abbrev pub decreases-repeated : goal.decreases-repeated
decreases-repeated l = left l.s.now piece l.at

abbrev pub decreases-sequence : goal.decreases-sequence
decreases-sequence l = left l.s.now seq l.at
