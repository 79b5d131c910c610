-- The four writing functions meet their contracts, in one induction on the bytes left, paired with the grammar level. Assumes nothing.
use Prim.Native.Nat.{◌-◌}
use lib.ListN.{length}
use Rattle.pattern.specs.Reader.{left, alts, seq, piece, atom}
use Rattle.pattern.proofs.EmitLoops.{Sent}
use Rattle.pattern.proofs.writing.+emit_alternatives_emit_atomic_emit_repeated_emit_sequence.Given as goal

abbrev pub invariant-emit_alternatives-loop-end : goal.invariant-emit_alternatives-loop-end
invariant-emit_alternatives-loop-end l = Sent l.s alts l.depth l.at l.n l.f l.o l.initial.out l.last l.i l.k l.p l.out

abbrev pub decreases-emit_alternatives-loop-end : goal.decreases-emit_alternatives-loop-end
decreases-emit_alternatives-loop-end l = length l.s - l.i

abbrev pub invariant-emit_sequence-loop-end : goal.invariant-emit_sequence-loop-end
invariant-emit_sequence-loop-end l = Sent l.s seq l.depth l.at l.n l.f l.o l.initial.out l.last l.i l.k l.p l.out

abbrev pub decreases-emit_sequence-loop-end : goal.decreases-emit_sequence-loop-end
decreases-emit_sequence-loop-end l = length l.s - l.i

abbrev pub decreases-emit_alternatives : goal.decreases-emit_alternatives
decreases-emit_alternatives l = left l.s.now alts l.at

abbrev pub decreases-emit_atomic : goal.decreases-emit_atomic
decreases-emit_atomic l = left l.s.now atom l.at

abbrev pub decreases-emit_repeated : goal.decreases-emit_repeated
decreases-emit_repeated l = left l.s.now piece l.at

abbrev pub decreases-emit_sequence : goal.decreases-emit_sequence
decreases-emit_sequence l = left l.s.now seq l.at
