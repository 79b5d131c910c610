-- The four writing functions meet their contracts, in one induction on the bytes left, paired with the grammar level. Assumes nothing.
use Rattle.std.proofs.Common.{◌+◌, length, arith, refl, sym, ◌∙◌}
use Rattle.pattern.specs.Reader.{read, stops, alts, seq, piece, atom}
use Rattle.pattern.proofs.Bytes.{byte_is, byte_is_not, test_of}
use Rattle.pattern.proofs.Laws.{byte_of}
use Rattle.pattern.proofs.Steps.{inv, far, alts_refused, seq_refused, piece_refused, atom_lonely, atom_too_deep, atom_refused, atom_unclosed}
use Rattle.pattern.proofs.Emit.{coded_lone}
use Rattle.pattern.proofs.EmitLoops.{sent_none, sent_whole, sent_below, seq_ends, seq_next, seq_room, seq_sent, alts_last, alts_end, alts_next, alts_fork, alts_room, alts_sent}
use Rattle.pattern.proofs.EmitSteps.{wrote_refused, wrote_whole, wrote_same, room_same, is_inv, atom_is}
use Rattle.pattern.proofs.EmitRepeats.{measured_at, star_ahead, opt_ahead, ahead_fork, ahead_room, ahead_wrote, plus_room, plus_last, plus_wrote, one_room, one_wrote}
use Rattle.pattern.proofs.writing.+emit_alternatives_emit_atomic_emit_repeated_emit_sequence.Goals as goal

pub emit_alternatives-returns-in_default : goal.emit_alternatives-returns-in_default
emit_alternatives-returns-in_default t c =
    wrote_refused c.args.out.now c.args.o c.args.n c.args.f (read c.args.s.now alts c.args.depth c.args.at) c.in_default.ensures

pub emit_alternatives-overflow_add-last : goal.emit_alternatives-overflow_add-last
emit_alternatives-overflow_add-last t c =
    let w = sent_below (sent_none c.args.s.now alts c.args.depth c.args.at c.args.n c.args.f c.args.o c.args.out.now _ c.requires.0 c.in-Ok.ensures refl c.requires.3) in omega arith

pub emit_alternatives-returns-in_default-sequence_there : goal.emit_alternatives-returns-in_default-sequence_there
emit_alternatives-returns-in_default-sequence_there t c =
    let a = c.loop-end.invariant in
    absurd (sent_whole a (alts_refused c.args.s.now c.args.depth c.loop-end.i a.within c.in_default-sequence_there.ensures))

pub emit_alternatives-emit_sequence-requires : goal.emit_alternatives-emit_sequence-requires
emit_alternatives-emit_sequence-requires t c =
    let a = c.loop-end.invariant in
    let no = byte_is_not c.byte_at.result 124 (omega arith) c.byte_at.ensures c.if-ne.ensures in
    let g = far c.args.s.now c.args.depth c.loop-end.i a.within seq c.in-Ok-sequence_there.ensures in
    (omega arith, (a.within, c.requires.1, c.requires.2, alts_last a c.in-Ok-sequence_there.ensures no))

pub emit_alternatives-returns-then-ne : goal.emit_alternatives-returns-then-ne
emit_alternatives-returns-then-ne t c =
    let no = byte_is_not c.byte_at.result 124 (omega arith) c.byte_at.ensures c.if-ne.ensures in
    alts_end c.loop-end.invariant c.in-Ok-sequence_there.ensures no _ _ c.emit_sequence.ensures

pub emit_alternatives-overflow_add-next-in-loop-end : goal.emit_alternatives-overflow_add-next-in-loop-end
emit_alternatives-overflow_add-next-in-loop-end t c =
    let b = byte_is c.byte_at.result 124 (omega arith) c.byte_at.ensures c.if-ne.ensures in
    let w = sent_below c.loop-end.invariant in let u = alts_next c.loop-end.invariant c.in-Ok-sequence_there.ensures b in omega arith

pub emit_alternatives-overflow_sub-last : goal.emit_alternatives-overflow_sub-last
emit_alternatives-overflow_sub-last t c =
    let b = byte_is c.byte_at.result 124 (omega arith) c.byte_at.ensures c.if-ne.ensures in
    alts_next c.loop-end.invariant c.in-Ok-sequence_there.ensures b

pub emit_alternatives-put_fork-a-requires : goal.emit_alternatives-put_fork-a-requires
emit_alternatives-put_fork-a-requires t c =
    let b = byte_is c.byte_at.result 124 (omega arith) c.byte_at.ensures c.if-ne.ensures in
    alts_fork c.loop-end.invariant c.in-Ok-sequence_there.ensures b _ _ c.start_at-x.ensures c.start_at-y.ensures

pub emit_alternatives-emit_sequence-p-requires : goal.emit_alternatives-emit_sequence-p-requires
emit_alternatives-emit_sequence-p-requires t c =
    let a = c.loop-end.invariant in
    let b = byte_is c.byte_at.result 124 (omega arith) c.byte_at.ensures c.if-ne.ensures in
    let g = far c.args.s.now c.args.depth c.loop-end.i a.within seq c.in-Ok-sequence_there.ensures in
    (omega arith, (a.within, c.requires.1, c.requires.2, alts_room a c.in-Ok-sequence_there.ensures b _ _ c.start_at-x.ensures c.start_at-y.ensures _ _ c.put_fork-a.ensures))

pub emit_alternatives-loop-end-smaller : goal.emit_alternatives-loop-end-smaller
emit_alternatives-loop-end-smaller t c =
    let a = c.loop-end.invariant in
    let b = byte_is c.byte_at.result 124 (omega arith) c.byte_at.ensures c.if-ne.ensures in
    let g = far c.args.s.now c.args.depth c.loop-end.i a.within seq c.in-Ok-sequence_there.ensures in
    let w = byte_of c.args.s.now c.in-Ok-sequence_there.end 124 (omega arith) b in omega arith

pub emit_alternatives-loop-end-preserved : goal.emit_alternatives-loop-end-preserved
emit_alternatives-loop-end-preserved t c =
    let b = byte_is c.byte_at.result 124 (omega arith) c.byte_at.ensures c.if-ne.ensures in
    alts_sent c.loop-end.invariant c.in-Ok-sequence_there.ensures b _ _ c.start_at-x.ensures c.start_at-y.ensures _ _ c.put_fork-a.ensures _ _ c.emit_sequence-p.ensures

pub emit_atomic-returns-in_default : goal.emit_atomic-returns-in_default
emit_atomic-returns-in_default t c =
    let no = byte_is_not c.byte_at.result 40 (omega arith) c.byte_at.ensures c.if-ne.ensures in
    wrote_refused c.args.out.now c.args.o c.args.n c.args.f (read c.args.s.now atom c.args.depth c.args.at)
    (atom_lonely c.args.s.now c.args.depth c.args.at c.requires.0 no c.in_default.ensures)

pub emit_atomic-put_atom-requires : goal.emit_atomic-put_atom-requires
emit_atomic-put_atom-requires t c =
    let no = byte_is_not c.byte_at.result 40 (omega arith) c.byte_at.ensures c.if-ne.ensures in
    let e = coded_lone c.args.s.now c.args.depth c.args.at _ c.args.n c.args.f c.in-Ok.a c.requires.0 no c.in-Ok.ensures in
    (c.in-Ok.ensures.ready, rw e at c.requires.3.room, c.requires.3.follow)

pub emit_atomic-returns-then-ne : goal.emit_atomic-returns-then-ne
emit_atomic-returns-then-ne t c =
    let no = byte_is_not c.byte_at.result 40 (omega arith) c.byte_at.ensures c.if-ne.ensures in
    wrote_whole _ _ _ _ _ _ (coded_lone c.args.s.now c.args.depth c.args.at _ c.args.n c.args.f c.in-Ok.a c.requires.0 no c.in-Ok.ensures) c.put_atom.ensures

pub emit_atomic-returns-then-depth-eq-GROUPS : goal.emit_atomic-returns-then-depth-eq-GROUPS
emit_atomic-returns-then-depth-eq-GROUPS t c =
    let b = byte_is c.byte_at.result 40 (omega arith) c.byte_at.ensures c.if-ne.ensures in
    wrote_refused c.args.out.now c.args.o c.args.n c.args.f (read c.args.s.now atom c.args.depth c.args.at)
    (atom_too_deep c.args.s.now c.args.depth c.args.at c.requires.0 b c.if-depth-eq-GROUPS.true)

pub emit_atomic-returns-in_default-alternatives : goal.emit_atomic-returns-in_default-alternatives
emit_atomic-returns-in_default-alternatives t c =
    let b = byte_is c.byte_at.result 40 (omega arith) c.byte_at.ensures c.if-ne.ensures in
    wrote_refused c.args.out.now c.args.o c.args.n c.args.f (read c.args.s.now atom c.args.depth c.args.at)
    (atom_refused c.args.s.now c.args.depth c.args.at c.requires.0 b c.if-depth-eq-GROUPS.false c.in_default-alternatives.ensures)

pub emit_atomic-returns-then-ne-2 : goal.emit_atomic-returns-then-ne-2
emit_atomic-returns-then-ne-2 t c =
    let b = byte_is c.byte_at.result 40 (omega arith) c.byte_at.ensures c.if-ne.ensures in
    let no = byte_is_not c.byte_at-2.result 41 (omega arith) c.byte_at-2.ensures c.if-ne-2.ensures in
    wrote_refused c.args.out.now c.args.o c.args.n c.args.f (read c.args.s.now atom c.args.depth c.args.at)
    (atom_unclosed c.args.s.now c.args.depth c.args.at c.requires.0 b c.if-depth-eq-GROUPS.false c.in-Ok-alternatives.ensures no)

pub emit_atomic-emit_alternatives-requires : goal.emit_atomic-emit_alternatives-requires
emit_atomic-emit_alternatives-requires t c =
    let s = c.args.s.now in let d = c.args.depth in let i = c.args.at in
    let q = c.in-Ok-alternatives.ensures in
    let b = byte_is c.byte_at.result 40 (omega arith) c.byte_at.ensures c.if-ne.ensures in
    let e = byte_is c.byte_at-2.result 41 (omega arith) c.byte_at-2.ensures c.if-ne-2.ensures in
    let k = byte_of s i 40 (omega arith) b in
    let x = atom_is s d i c.requires.0 b c.if-depth-eq-GROUPS.false q e in
    (omega arith, (omega arith, omega arith, c.requires.2, room_same (read s atom d i) (read s alts (d + 1) (i + 1)) (inv (read s alts (d + 1) (i + 1)) q).pat c.args.n c.args.f c.args.o (length c.args.out.now) x (is_inv (read s alts (d + 1) (i + 1)) q) c.requires.3))

pub emit_atomic-returns : goal.emit_atomic-returns
emit_atomic-returns t c =
    let s = c.args.s.now in let d = c.args.depth in let i = c.args.at in
    let q = c.in-Ok-alternatives.ensures in
    let b = byte_is c.byte_at.result 40 (omega arith) c.byte_at.ensures c.if-ne.ensures in
    let e = byte_is c.byte_at-2.result 41 (omega arith) c.byte_at-2.ensures c.if-ne-2.ensures in
    let x = atom_is s d i c.requires.0 b c.if-depth-eq-GROUPS.false q e in
    wrote_same _ _ _ _ (read s atom d i) (read s alts (d + 1) (i + 1)) (inv (read s alts (d + 1) (i + 1)) q).pat c.args.n c.args.f x (is_inv (read s alts (d + 1) (i + 1)) q) c.emit_alternatives.ensures

pub emit_repeated-returns-in_default : goal.emit_repeated-returns-in_default
emit_repeated-returns-in_default t c =
    wrote_refused c.args.out.now c.args.o c.args.n c.args.f (read c.args.s.now piece c.args.depth c.args.at)
    (piece_refused c.args.s.now c.args.depth c.args.at c.requires.0 c.in_default.ensures)

pub emit_repeated-put_fork-a-requires : goal.emit_repeated-put_fork-a-requires
emit_repeated-put_fork-a-requires t c =
    let v = measured_at c.args.s.now c.args.depth c.args.at c.args.out.now c.requires.0 c.in-Ok.ensures c.requires.3 in
    let b = sym c.byte_at.ensures ∙ (rw c.in-Some-Star.field-0-is at c.in-Some-Star.ensures) in
    ahead_fork v (star_ahead v b) c.start_at.ensures

pub emit_repeated-emit_atomic-requires : goal.emit_repeated-emit_atomic-requires
emit_repeated-emit_atomic-requires t c =
    let v = measured_at c.args.s.now c.args.depth c.args.at c.args.out.now c.requires.0 c.in-Ok.ensures c.requires.3 in
    let b = sym c.byte_at.ensures ∙ (rw c.in-Some-Star.field-0-is at c.in-Some-Star.ensures) in
    (omega arith, (c.requires.0, c.requires.1, c.requires.2, ahead_room v (star_ahead v b) c.start_at.ensures c.put_fork-a.ensures))

pub emit_repeated-returns-in-Some-Star : goal.emit_repeated-returns-in-Some-Star
emit_repeated-returns-in-Some-Star t c =
    let v = measured_at c.args.s.now c.args.depth c.args.at c.args.out.now c.requires.0 c.in-Ok.ensures c.requires.3 in
    let b = sym c.byte_at.ensures ∙ (rw c.in-Some-Star.field-0-is at c.in-Some-Star.ensures) in
    ahead_wrote v (star_ahead v b) c.start_at.ensures c.put_fork-a.ensures c.emit_atomic.ensures

pub emit_repeated-overflow_add-n-in-Some-Plus : goal.emit_repeated-overflow_add-n-in-Some-Plus
emit_repeated-overflow_add-n-in-Some-Plus t c =
    let v = measured_at c.args.s.now c.args.depth c.args.at c.args.out.now c.requires.0 c.in-Ok.ensures c.requires.3 in
    let b = sym c.byte_at.ensures ∙ (rw c.in-Some-Plus.field-0-is at c.in-Some-Plus.ensures) in
    let u = (plus_room v b).follow in omega arith

pub emit_repeated-emit_atomic-a-requires : goal.emit_repeated-emit_atomic-a-requires
emit_repeated-emit_atomic-a-requires t c =
    let v = measured_at c.args.s.now c.args.depth c.args.at c.args.out.now c.requires.0 c.in-Ok.ensures c.requires.3 in
    let b = sym c.byte_at.ensures ∙ (rw c.in-Some-Plus.field-0-is at c.in-Some-Plus.ensures) in
    (omega arith, (c.requires.0, c.requires.1, c.requires.2, plus_room v b))

pub emit_repeated-overflow_add-n-in-Some-Plus-2 : goal.emit_repeated-overflow_add-n-in-Some-Plus-2
emit_repeated-overflow_add-n-in-Some-Plus-2 t c =
    let v = measured_at c.args.s.now c.args.depth c.args.at c.args.out.now c.requires.0 c.in-Ok.ensures c.requires.3 in
    let b = sym c.byte_at.ensures ∙ (rw c.in-Some-Plus.field-0-is at c.in-Some-Plus.ensures) in
    let u = (plus_room v b).follow in omega arith

pub emit_repeated-put_fork-requires : goal.emit_repeated-put_fork-requires
emit_repeated-put_fork-requires t c =
    let v = measured_at c.args.s.now c.args.depth c.args.at c.args.out.now c.requires.0 c.in-Ok.ensures c.requires.3 in
    let b = sym c.byte_at.ensures ∙ (rw c.in-Some-Plus.field-0-is at c.in-Some-Plus.ensures) in
    plus_last v b c.emit_atomic-a.ensures c.start_at-in-Some-Plus.ensures

pub emit_repeated-returns-in-Some-Plus : goal.emit_repeated-returns-in-Some-Plus
emit_repeated-returns-in-Some-Plus t c =
    let v = measured_at c.args.s.now c.args.depth c.args.at c.args.out.now c.requires.0 c.in-Ok.ensures c.requires.3 in
    let b = sym c.byte_at.ensures ∙ (rw c.in-Some-Plus.field-0-is at c.in-Some-Plus.ensures) in
    plus_wrote v b c.emit_atomic-a.ensures c.start_at-in-Some-Plus.ensures c.put_fork.ensures

pub emit_repeated-put_fork-a-requires-in-Some-Query : goal.emit_repeated-put_fork-a-requires-in-Some-Query
emit_repeated-put_fork-a-requires-in-Some-Query t c =
    let v = measured_at c.args.s.now c.args.depth c.args.at c.args.out.now c.requires.0 c.in-Ok.ensures c.requires.3 in
    let b = sym c.byte_at.ensures ∙ (rw c.in-Some-Query.field-0-is at c.in-Some-Query.ensures) in
    ahead_fork v (opt_ahead v b) c.start_at-in-Some-Query.ensures

pub emit_repeated-emit_atomic-requires-in-Some-Query : goal.emit_repeated-emit_atomic-requires-in-Some-Query
emit_repeated-emit_atomic-requires-in-Some-Query t c =
    let v = measured_at c.args.s.now c.args.depth c.args.at c.args.out.now c.requires.0 c.in-Ok.ensures c.requires.3 in
    let b = sym c.byte_at.ensures ∙ (rw c.in-Some-Query.field-0-is at c.in-Some-Query.ensures) in
    (omega arith, (c.requires.0, c.requires.1, c.requires.2, ahead_room v (opt_ahead v b) c.start_at-in-Some-Query.ensures c.put_fork-a-in-Some-Query.ensures))

pub emit_repeated-returns-in-Some-Query : goal.emit_repeated-returns-in-Some-Query
emit_repeated-returns-in-Some-Query t c =
    let v = measured_at c.args.s.now c.args.depth c.args.at c.args.out.now c.requires.0 c.in-Ok.ensures c.requires.3 in
    let b = sym c.byte_at.ensures ∙ (rw c.in-Some-Query.field-0-is at c.in-Some-Query.ensures) in
    ahead_wrote v (opt_ahead v b) c.start_at-in-Some-Query.ensures c.put_fork-a-in-Some-Query.ensures c.emit_atomic-in-Some-Query.ensures

pub emit_repeated-emit_atomic-requires-in-None : goal.emit_repeated-emit_atomic-requires-in-None
emit_repeated-emit_atomic-requires-in-None t c =
    let v = measured_at c.args.s.now c.args.depth c.args.at c.args.out.now c.requires.0 c.in-Ok.ensures c.requires.3 in
    let b = rw c.byte_at.ensures at c.in-None.ensures in
    (omega arith, (c.requires.0, c.requires.1, c.requires.2, one_room v b))

pub emit_repeated-returns-in-None : goal.emit_repeated-returns-in-None
emit_repeated-returns-in-None t c =
    let v = measured_at c.args.s.now c.args.depth c.args.at c.args.out.now c.requires.0 c.in-Ok.ensures c.requires.3 in
    let b = rw c.byte_at.ensures at c.in-None.ensures in
    one_wrote v b c.emit_atomic-in-None.ensures

pub emit_sequence-returns-in_default : goal.emit_sequence-returns-in_default
emit_sequence-returns-in_default t c =
    wrote_refused c.args.out.now c.args.o c.args.n c.args.f (read c.args.s.now seq c.args.depth c.args.at) c.in_default.ensures

pub emit_sequence-overflow_add-last : goal.emit_sequence-overflow_add-last
emit_sequence-overflow_add-last t c =
    let w = sent_below (sent_none c.args.s.now seq c.args.depth c.args.at c.args.n c.args.f c.args.o c.args.out.now _ c.requires.0 c.in-Ok.ensures refl c.requires.3) in omega arith

pub emit_sequence-returns-in_default-repeated : goal.emit_sequence-returns-in_default-repeated
emit_sequence-returns-in_default-repeated t c =
    let a = c.loop-end.invariant in
    let b = test_of stops c.byte_at.ensures c.loop-end-test.ensures in
    absurd (sent_whole a (seq_refused c.args.s.now c.args.depth c.loop-end.i a.within b c.in_default-repeated.ensures))

pub emit_sequence-overflow_add-next : goal.emit_sequence-overflow_add-next
emit_sequence-overflow_add-next t c =
    let b = test_of stops c.byte_at.ensures c.loop-end-test.ensures in
    let w = sent_below c.loop-end.invariant in let u = seq_next c.loop-end.invariant b c.in-Ok-repeated.ensures in omega arith

pub emit_sequence-overflow_sub-last : goal.emit_sequence-overflow_sub-last
emit_sequence-overflow_sub-last t c =
    let b = test_of stops c.byte_at.ensures c.loop-end-test.ensures in
    seq_next c.loop-end.invariant b c.in-Ok-repeated.ensures

pub emit_sequence-emit_repeated-p-requires : goal.emit_sequence-emit_repeated-p-requires
emit_sequence-emit_repeated-p-requires t c =
    let a = c.loop-end.invariant in
    let b = test_of stops c.byte_at.ensures c.loop-end-test.ensures in
    let g = far c.args.s.now c.args.depth c.loop-end.i a.within piece c.in-Ok-repeated.ensures in
    (omega arith, (a.within, c.requires.1, c.requires.2, seq_room a b c.in-Ok-repeated.ensures _ c.start_at-x.ensures))

pub emit_sequence-loop-end-smaller : goal.emit_sequence-loop-end-smaller
emit_sequence-loop-end-smaller t c =
    let a = c.loop-end.invariant in
    let g = far c.args.s.now c.args.depth c.loop-end.i a.within piece c.in-Ok-repeated.ensures in omega arith

pub emit_sequence-loop-end-preserved : goal.emit_sequence-loop-end-preserved
emit_sequence-loop-end-preserved t c =
    let b = test_of stops c.byte_at.ensures c.loop-end-test.ensures in
    seq_sent c.loop-end.invariant b c.in-Ok-repeated.ensures _ c.start_at-x.ensures _ _ c.emit_repeated-p.ensures

pub emit_sequence-returns : goal.emit_sequence-returns
emit_sequence-returns t c = seq_ends c.loop-end.invariant (test_of stops c.byte_at.ensures c.loop-end-test.ensures)
