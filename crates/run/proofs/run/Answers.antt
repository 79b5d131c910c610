-- `run::run` meets its contract: the judgement, then the length, then what the table tells. Assumes nothing.
use Rattle.std.proofs.lemmas.Result.{err_from_is_err_and}
use Rattle.loader.specs.Judges.{Judges}
use Rattle.answers.specs.Refusals.{code_of}
use Rattle.run.proofs.Joining.{runs_unfit, runs_long, rides, runs_fit}
use Rattle.run.proofs.run.Goals as goal

pub returns-in_err-judged : goal.returns-in_err-judged
returns-in_err-judged c =
    let p = err_from_is_err_and c.from_residual.result c.from_residual.ensures.1 in
    let j : Judges c.args.table.now (code_of c.in_err-judged.field-0.0) c.judge-judged.result.places = rw c.in_err-judged.was at c.judge-judged.ensures in
    rw (p.1, p.2) (runs_unfit c.in_err-judged.field-0.0 j.judged)

pub returns-then-line-gt-LINE_MAX : goal.returns-then-line-gt-LINE_MAX
returns-then-line-gt-LINE_MAX c =
    let j : Judges c.args.table.now 0 c.judge-judged.result.places = rw c.in_ok-judged.was at c.judge-judged.ensures in
    runs_long j c.if-line-gt-LINE_MAX.true

pub run_taken-requires : goal.run_taken-requires
run_taken-requires c =
    let j : Judges c.args.table.now 0 c.judge-judged.result.places = rw c.in_ok-judged.was at c.judge-judged.ensures in
    rides j (λ i. (c.type_inv.line i).fits) c.if-line-gt-LINE_MAX.false

pub returns : goal.returns
returns c =
    let j : Judges c.args.table.now 0 c.judge-judged.result.places = rw c.in_ok-judged.was at c.judge-judged.ensures in
    runs_fit j c.run_taken.ensures c.if-line-gt-LINE_MAX.false
