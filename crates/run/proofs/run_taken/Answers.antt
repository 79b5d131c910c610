-- `run::run_taken` meets its contract: the last situation and the bank tell the result. Assumes nothing.
use Prim.Native.Nat.{◌<◌}
use native.Mathlib.Omega.{arith}
use lib.ListN.{get_or}
use Rattle.loader.proofs.Situated.{count_most}
use Rattle.run.proofs.Filling.{told_fields}
use Rattle.run.proofs.Telling.{answer_room, eight, tells_none, tells_some}
use borrow.Author.Rules.{rules}
use Rattle.run.proofs.run_taken.Goals as goal

pub bounds-places-from : goal.bounds-places-from
bounds-places-from c = omega (arith, count_most c.requires.ready)

pub overflow_add-answer : goal.overflow_add-answer
overflow_add-answer c = omega (arith, answer_room c.requires.ready {q = c.from.result} (omega arith))

pub bounds-s-p : goal.bounds-s-p
bounds-s-p c = omega (arith, answer_room c.requires.ready {q = c.from.result} (omega arith))

pub returns-then-answer : goal.returns-then-answer
returns-then-answer c =
    tells_none c.requires.ready {q = c.from.result} (omega arith) {bank = c.run_line-stand.result.bank.r} c.args.line.now (rw c.from.ensures c.run_line-stand.ensures.0) c.if-answer.true

pub overflow_add-p : goal.overflow_add-p
overflow_add-p c = omega (arith, answer_room c.requires.ready {q = c.from.result} (omega arith))

pub fields_at-requires : goal.fields_at-requires
fields_at-requires c = ((eight c.requires.ready {q = c.from.result} (omega arith)).room, search rules)

pub returns : goal.returns
returns c =
    let n : c.from.result < get_or c.args.s.now 4 0 = omega arith in
    tells_some c.requires.ready {q = c.from.result} n {bank = c.run_line-stand.result.bank.r} c.args.line.now (rw c.from.ensures c.run_line-stand.ensures.0) c.if-answer.false _
    (told_fields c.run_line-stand.result.bank.r (eight c.requires.ready {q = c.from.result} n) c.fields_at.ensures)
