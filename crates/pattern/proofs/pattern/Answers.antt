-- `pattern` keeps the promise of the pattern maker, check by check. Assumes nothing.
use Rattle.std.proofs.Common.{arith}
use Rattle.std.proofs.lemmas.Result.{err_from_is_err_and}
use Rattle.pattern.specs.Reader.{alts, read}
use Rattle.pattern.proofs.Steps.{far, inv}
use Rattle.pattern.proofs.Sane.{Sane, read_sane}
use Rattle.pattern.proofs.Top.{pat, at_long, at_fault, at_open, at_big, at_small, room, room_end, at_ok}
use Rattle.pattern.proofs.pattern.Goals.{Else-sum-ge-RECORDS}
use Rattle.pattern.proofs.pattern.Goals as goal

sane : (c : Else-sum-ge-RECORDS) → Sane (pat c.args.text.now c.args.out.now c.if-text-gt-BYTES.false c.in_ok-end.ensures)
sane c = read_sane c.args.text.now (λ i. (c.type_inv.text i).fits) alts 0 0 c.in_ok-end.end _ (inv (read c.args.text.now alts 0 0) c.in_ok-end.ensures).is

pub returns-then-text-gt-BYTES : goal.returns-then-text-gt-BYTES
returns-then-text-gt-BYTES c = at_long c.args.text.now c.args.out.now c.if-text-gt-BYTES.true

pub returns-in_err-end : goal.returns-in_err-end
returns-in_err-end c =
    let p = err_from_is_err_and c.from_residual.result c.from_residual.ensures.1 in
    rw (p.1, p.2) (at_fault c.args.text.now c.args.out.now c.if-text-gt-BYTES.false c.in_err-end.ensures)

pub returns-then-end-text : goal.returns-then-end-text
returns-then-end-text c = at_open c.args.text.now c.args.out.now c.if-text-gt-BYTES.false c.in_ok-end.ensures c.if-end-text.true

pub returns-then-sum-ge-RECORDS : goal.returns-then-sum-ge-RECORDS
returns-then-sum-ge-RECORDS c =
    at_big c.args.text.now c.args.out.now c.if-text-gt-BYTES.false c.in_ok-end.ensures c.if-end-text.false c.if-sum-ge-RECORDS.true

pub overflow_add-sum : goal.overflow_add-sum
overflow_add-sum c = let g = far c.args.text.now 0 0 (omega arith) alts c.in_ok-end.ensures in omega arith

pub returns-then-out-sum : goal.returns-then-out-sum
returns-then-out-sum c =
    at_small c.args.text.now c.args.out.now c.if-text-gt-BYTES.false c.in_ok-end.ensures c.if-end-text.false c.if-sum-ge-RECORDS.false
    (sane (goal.at.returns-then-out-sum c).Else-sum-ge-RECORDS) c.if-out-sum.true

pub put_file-requires : goal.put_file-requires
put_file-requires c =
    let s = sane (goal.at.put_file-requires c).Else-sum-ge-RECORDS in
    let q = c.in_ok-end.ensures in (
      c.if-text-gt-BYTES.false,
      c.if-sum-ge-RECORDS.false,
      room c.args.text.now c.args.out.now c.if-text-gt-BYTES.false q c.if-end-text.false c.if-sum-ge-RECORDS.false s c.if-out-sum.false,
      room_end c.args.text.now c.args.out.now c.if-text-gt-BYTES.false q c.if-end-text.false c.if-sum-ge-RECORDS.false s c.if-out-sum.false,
    )

pub returns : goal.returns
returns c =
    at_ok c.args.text.now c.args.out.now c.if-text-gt-BYTES.false c.in_ok-end.ensures c.if-end-text.false c.if-sum-ge-RECORDS.false
    (sane (goal.at.returns c).Else-sum-ge-RECORDS) c.if-out-sum.false _ c.put_file.result c.put_file.ensures
