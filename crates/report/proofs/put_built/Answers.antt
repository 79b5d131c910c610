-- `report::put_built` meets its contract: a refusal alone, or the table line and the records, by a table that the loader takes. Assumes nothing.
use native.Mathlib.Omega.{arith}
use mathlib.Core.Path.{refl, sym, ap, ◌∙◌, subst}
use lib.ListN.{drop}
use lib.Seq.{length-take-le}
use Rattle.answers.proofs.Refusals.{code_above_ok}
use Rattle.build.specs.Build.{answered}
use Rattle.report.specs.Lines.{refused_line}
use Rattle.report.specs.Printed.{lines}
use Rattle.report.specs.Steps.{Sound}
use Rattle.report.proofs.Writing.{wrote_then}
use Rattle.report.proofs.Choosing.{wrote_as, built_refused, built_lines_lem}
use Rattle.report.proofs.Ridden.{mounted}
use Rattle.report.proofs.put_built.Goals as goal

pub returns-in-Err : goal.returns-in-Err
returns-in-Err c = rw c.in-Err.is (wrote_as (ap refused_line c.from.ensures ∙ built_refused _ _ (λ z. omega (arith, z, code_above_ok c.in-Err.e))) c.put_refused.ensures.0)

pub slice_bounds-card-end : goal.slice_bounds-card-end
slice_bounds-card-end c = sym (length-take-le c.in-Ok.b.length c.args.table.now ((subst (λ x. Sound (answered x) c.args.table.now) c.in-Ok.is c.requires.sound).inside refl))

pub put_records-requires : goal.put_records-requires
put_records-requires c = let t = (subst (λ x. Sound (answered x) c.args.table.now) c.in-Ok.is c.requires.sound).taken refl in
    record { mounted = mounted c.mount.ensures t refl; few = c.requires.room_in_bounds.1; low = omega (arith, c.put_table-at.ensures.1); wide = omega (arith, c.requires.room_in_bounds.0) }

pub returns : goal.returns
returns c = rw c.in-Ok.is (wrote_as (built_lines_lem _ (lines (drop c.args.from c.args.input.now)) refl) (wrote_then c.put_table-at.ensures.0 c.put_records.ensures))
