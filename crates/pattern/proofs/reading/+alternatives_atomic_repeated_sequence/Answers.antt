-- The four measuring functions meet their contracts, in one induction on the bytes left, paired with the grammar level. Assumes nothing.
use Rattle.std.proofs.Common.{Some, arith, subst}
use Rattle.std.proofs.lemmas.Result.{err_from_is_err_and}
use Rattle.pattern.specs.Reader.{stops, seq, piece, atom}
use Rattle.pattern.specs.Text.{IsRepeat}
use Rattle.pattern.specs.Measured.{rep_sum}
use Rattle.pattern.proofs.Bytes.{byte_is, byte_is_not, test_of, repeats}
use Rattle.pattern.proofs.Laws.{byte_of}
use Rattle.pattern.proofs.Steps.{far, pass_refused, pass_done, pass_on, none_after, alts_refused, alts_alone, alts_before, seq_empty, seq_refused, seq_before, piece_refused, piece_again, piece_once, atom_lonely, lone_sum, atom_too_deep, atom_refused, atom_unclosed, atom_done}
use Rattle.pattern.proofs.reading.+alternatives_atomic_repeated_sequence.Goals as goal

pub alternatives-returns-in_err-end : goal.alternatives-returns-in_err-end
alternatives-returns-in_err-end t c =
    let p = err_from_is_err_and c.from_residual.result c.from_residual.ensures.1 in
    rw (p.1, p.2) (pass_refused c.loop-end.invariant (alts_refused c.args.s.now c.args.depth c.loop-end.i c.loop-end.invariant.within c.in_err-end.ensures))

pub alternatives-then-requires : goal.alternatives-then-requires
alternatives-then-requires t c =
    let g = far c.args.s.now c.args.depth c.loop-end.i c.loop-end.invariant.within seq c.in_ok-end.ensures in
    (omega arith, omega arith)

pub alternatives-returns-then-ne : goal.alternatives-returns-then-ne
alternatives-returns-then-ne t c =
    let no = byte_is_not c.byte_at.result 124 (omega arith) c.byte_at.ensures c.if-ne.ensures in
    pass_done c.loop-end.invariant
    (alts_alone c.args.s.now c.args.depth c.loop-end.i c.loop-end.invariant.within c.in_ok-end.ensures no) c.then.ensures

pub alternatives-forked-requires : goal.alternatives-forked-requires
alternatives-forked-requires t c =
    let g = far c.args.s.now c.args.depth c.loop-end.i c.loop-end.invariant.within seq c.in_ok-end.ensures in
    (omega arith, omega arith)

pub alternatives-then-sum-requires : goal.alternatives-then-sum-requires
alternatives-then-sum-requires t c =
    let g = far c.args.s.now c.args.depth c.loop-end.i c.loop-end.invariant.within seq c.in_ok-end.ensures in
    rw c.forked.ensures (omega arith, omega arith)

pub alternatives-loop-end-smaller : goal.alternatives-loop-end-smaller
alternatives-loop-end-smaller t c =
    let g = far c.args.s.now c.args.depth c.loop-end.i c.loop-end.invariant.within seq c.in_ok-end.ensures in
    let k = byte_of c.args.s.now c.in_ok-end.end 124 (omega arith) (byte_is c.byte_at.result 124 (omega arith) c.byte_at.ensures c.if-ne.ensures) in
    omega arith

pub alternatives-loop-end-preserved : goal.alternatives-loop-end-preserved
alternatives-loop-end-preserved t c =
    let g = far c.args.s.now c.args.depth c.loop-end.i c.loop-end.invariant.within seq c.in_ok-end.ensures in
    let b = byte_is c.byte_at.result 124 (omega arith) c.byte_at.ensures c.if-ne.ensures in
    let k = byte_of c.args.s.now c.in_ok-end.end 124 (omega arith) b in
    pass_on c.loop-end.invariant (rep_sum c.in_ok-end.more)
    (alts_before c.args.s.now c.args.depth c.loop-end.i c.loop-end.invariant.within c.in_ok-end.ensures b)
    (omega arith) (omega arith) (omega arith) (rw c.forked.ensures at c.then-sum.ensures)

pub atomic-returns-in_err-end : goal.atomic-returns-in_err-end
atomic-returns-in_err-end t c =
    let p = err_from_is_err_and c.from_residual.result c.from_residual.ensures.1 in
    let no = byte_is_not c.byte_at.result 40 (omega arith) c.byte_at.ensures c.if-ne.ensures in
    rw (p.1, p.2) (atom_lonely c.args.s.now c.args.depth c.args.at c.requires.0 no c.in_err-end.ensures)

pub atomic-sum-requires : goal.atomic-sum-requires
atomic-sum-requires t c = c.in_ok-end.ensures.small

pub atomic-returns-then-ne : goal.atomic-returns-then-ne
atomic-returns-then-ne t c =
    let no = byte_is_not c.byte_at.result 40 (omega arith) c.byte_at.ensures c.if-ne.ensures in
    let s = c.args.s.now in let d = c.args.depth in
    atom_lonely s d c.args.at c.requires.0 no (lone_sum s d c.args.at c.requires.0 c.in_ok-end.end c.in_ok-end.atom c.sum.result c.in_ok-end.ensures c.sum.ensures)

pub atomic-returns-then-open-eq-GROUPS : goal.atomic-returns-then-open-eq-GROUPS
atomic-returns-then-open-eq-GROUPS t c =
    let b = byte_is c.byte_at.result 40 (omega arith) c.byte_at.ensures c.if-ne.ensures in
    atom_too_deep c.args.s.now c.args.depth c.args.at c.requires.0 b c.if-open-eq-GROUPS.true

pub atomic-returns-in_err-end-2 : goal.atomic-returns-in_err-end-2
atomic-returns-in_err-end-2 t c =
    let p = err_from_is_err_and c.from_residual-in_err-end-2.result c.from_residual-in_err-end-2.ensures.1 in
    let b = byte_is c.byte_at.result 40 (omega arith) c.byte_at.ensures c.if-ne.ensures in
    rw (p.1, p.2) (atom_refused c.args.s.now c.args.depth c.args.at c.requires.0 b c.if-open-eq-GROUPS.false c.in_err-end-2.ensures)

pub atomic-returns-then-ne-2 : goal.atomic-returns-then-ne-2
atomic-returns-then-ne-2 t c =
    let b = byte_is c.byte_at.result 40 (omega arith) c.byte_at.ensures c.if-ne.ensures in
    let no = byte_is_not c.byte_at-2.result 41 (omega arith) c.byte_at-2.ensures c.if-ne-2.ensures in
    atom_unclosed c.args.s.now c.args.depth c.args.at c.requires.0 b c.if-open-eq-GROUPS.false c.in_ok-end-2.ensures no

pub atomic-returns : goal.atomic-returns
atomic-returns t c =
    let b = byte_is c.byte_at.result 40 (omega arith) c.byte_at.ensures c.if-ne.ensures in
    let e = byte_is c.byte_at-2.result 41 (omega arith) c.byte_at-2.ensures c.if-ne-2.ensures in
    atom_done c.args.s.now c.args.depth c.args.at c.requires.0 b c.if-open-eq-GROUPS.false c.in_ok-end-2.ensures e

pub repeated-returns-in_err-end : goal.repeated-returns-in_err-end
repeated-returns-in_err-end t c =
    let p = err_from_is_err_and c.from_residual.result c.from_residual.ensures.1 in
    rw (p.1, p.2) (piece_refused c.args.s.now c.args.depth c.args.at c.requires.0 c.in_err-end.ensures)

pub repeated-forked-requires : goal.repeated-forked-requires
repeated-forked-requires t c =
    let g = far c.args.s.now c.args.depth c.args.at c.requires.0 atom c.in_ok-end.ensures in (omega arith, omega arith)

pub repeated-returns-in-Some : goal.repeated-returns-in-Some
repeated-returns-in-Some t c =
    piece_again c.args.s.now c.args.depth c.args.at c.requires.0 c.in_ok-end.ensures c.forked.result c.forked.ensures
    (repeats c.in-Some.field-0 _ (subst (λ n. IsRepeat n (Some c.in-Some.field-0)) c.byte_at.ensures c.in-Some.ensures))

pub repeated-returns-in-None : goal.repeated-returns-in-None
repeated-returns-in-None t c =
    piece_once c.args.s.now c.args.depth c.args.at c.requires.0 c.in_ok-end.ensures (rw c.byte_at.ensures at c.in-None.ensures)

pub sequence-returns-in_err-end : goal.sequence-returns-in_err-end
sequence-returns-in_err-end t c =
    let p = err_from_is_err_and c.from_residual.result c.from_residual.ensures.1 in
    let b = test_of stops c.byte_at.ensures c.loop-i-test.ensures in
    rw (p.1, p.2) (pass_refused c.loop-i.invariant (seq_refused c.args.s.now c.args.depth c.loop-i.i c.loop-i.invariant.within b c.in_err-end.ensures))

pub sequence-then-sum-requires : goal.sequence-then-sum-requires
sequence-then-sum-requires t c =
    let g = far c.args.s.now c.args.depth c.loop-i.i c.loop-i.invariant.within piece c.in_ok-end.ensures in
    (omega arith, omega arith)

pub sequence-loop-i-smaller : goal.sequence-loop-i-smaller
sequence-loop-i-smaller t c =
    let g = far c.args.s.now c.args.depth c.loop-i.i c.loop-i.invariant.within piece c.in_ok-end.ensures in omega arith

pub sequence-loop-i-preserved : goal.sequence-loop-i-preserved
sequence-loop-i-preserved t c =
    let g = far c.args.s.now c.args.depth c.loop-i.i c.loop-i.invariant.within piece c.in_ok-end.ensures in
    let b = test_of stops c.byte_at.ensures c.loop-i-test.ensures in
    pass_on c.loop-i.invariant c.in_ok-end.more
    (seq_before c.args.s.now c.args.depth c.loop-i.i c.loop-i.invariant.within b c.in_ok-end.ensures)
    (omega arith) (omega arith) (omega arith) c.then-sum.ensures

pub sequence-returns : goal.sequence-returns
sequence-returns t c =
    let b = test_of stops c.byte_at.ensures c.loop-i-test.ensures in
    pass_done c.loop-i.invariant (seq_empty c.args.s.now c.args.depth c.loop-i.i c.loop-i.invariant.within b) (none_after _)
