-- `lone` meets its contract at a set. Assumes nothing.
use Rattle.std.proofs.Common.{◌≡◌, arith, sym, ap, ◌∙◌}
use Rattle.ground.specs.Pick.{look}
use Rattle.pattern.specs.Measured.{measured}
use Rattle.pattern.proofs.Laws.{byte_of, single_set}
use Rattle.pattern.proofs.Steps.{set_ends, set_wrong}
use Rattle.pattern.proofs.reading.lone.Goals as goal

pub returns-in-Ok : goal.returns-in-Ok
returns-in-Ok c =
    let s = c.args.s.now in let at = c.args.at in
    let a : look s at ≡ 91 = omega (arith, c.in-Some-eq91.ensures) in
    let e = set_ends s at c.in-Ok.end c.in-Ok.ensures in
    record { is = single_set s at a ∙ e; small = tt; ready = record { within = byte_of s at 91 (omega arith) a; end = c.in-Ok.end; is = e } }

pub bracket-requires : goal.bracket-requires
bracket-requires c = byte_of c.args.s.now c.args.at 91 (omega arith) (omega (arith, c.in-Some-eq91.ensures))

pub returns-in-Err : goal.returns-in-Err
unfolding measured
returns-in-Err c =
    let a : look c.args.s.now c.args.at ≡ 91 = omega (arith, c.in-Some-eq91.ensures) in
    sym (ap measured (single_set c.args.s.now c.args.at a ∙ set_wrong c.args.s.now c.args.at c.in-Err.q c.in-Err.ensures))
