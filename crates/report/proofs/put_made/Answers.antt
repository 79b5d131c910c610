-- `report::put_made` meets its contract: a refusal, or what the builder gives. Assumes nothing.
use Rattle.std.proofs.Common.{arith, refl, Ok, Err, drop}
use Rattle.answers.proofs.Refusals.{code_above_ok}
use Rattle.pattern.specs.Maker.{given}
use Rattle.pattern.specs.Made.{made_of, refusal_of}
use Rattle.report.specs.Printed.{lines}
use Rattle.report.proofs.Choosing.{wrote_as, made_refused, made_built}
use Rattle.report.proofs.Taken.{taken_bytes, build_sound}
use Rattle.report.proofs.put_made.Goals as goal

pub returns-in-Err : goal.returns-in-Err
returns-in-Err c = rw c.in-Err.is (wrote_as (made_refused _ _ (λ z. omega (arith, z, code_above_ok (refusal_of c.in-Err.fault)))) c.put_fault.ensures)

pub put_built-requires : goal.put_built-requires
put_built-requires c = record { room_in_bounds = c.requires.room_in_bounds; sound = build_sound (taken_bytes c.args.net.now c.in-Ok.length (λ i. (c.type_inv.net i).fits)) c.build-built.ensures }

pub returns : goal.returns
returns c = rw c.in-Ok.is (wrote_as
    (made_built (given (made_of (Ok c.in-Ok.length)) c.args.net.now) (lines (drop c.args.from c.args.input.now)) refl refl refl c.build-built.ensures refl)
    c.put_built.ensures)
