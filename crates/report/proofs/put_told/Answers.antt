-- `report::put_told` meets its contract: the line by the code. Assumes nothing.
use Rattle.std.proofs.Common.{arith, ap, refl, ◌∙◌, Ok, Err}
use Rattle.answers.proofs.Refusals.{code_above_ok}
use Rattle.report.specs.Lines.{refused_line}
use Rattle.report.proofs.Choosing.{wrote_as, told_refused, told_answer}
use Rattle.report.proofs.put_told.Goals as goal

pub returns-in-Ok : goal.returns-in-Ok
returns-in-Ok c = rw c.in-Ok.is (wrote_as (told_answer _ refl) c.put_answer.ensures.0, c.put_answer.ensures.1)

pub returns-in-Err : goal.returns-in-Err
returns-in-Err c = rw c.in-Err.is
    (wrote_as (ap refused_line c.from.ensures ∙ told_refused _ (λ z. omega (arith, z, code_above_ok c.in-Err.e))) c.put_refused.ensures.0, omega (arith, c.put_refused.ensures.1))
