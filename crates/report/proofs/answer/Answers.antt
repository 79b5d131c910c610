-- `report::answer` meets its contract: too much input, or the pattern and its records. Assumes nothing.
use native.Mathlib.Omega.{arith}
use mathlib.Core.Path.{◌≡◌}
use lib.ListN.{length}
use Rattle.report.specs.Lines.{over_line}
use Rattle.report.proofs.Choosing.{wrote_front, printed_over, printed_lines}
use Rattle.report.proofs.Taken.{made_room}
use borrow.Author.Rules.{rules}
use Rattle.report.proofs.answer.Goals as goal

pub returns-then-input-gt65536 : goal.returns-then-input-gt65536
unfolding over_line
returns-then-input-gt65536 c = wrote_front _ c.put_text.ensures (printed_over _ c.if-input-gt65536.true)

pub put_made-requires : goal.put_made-requires
put_made-requires c =
    let l : length c.args.out.now ≡ 4718643 = search rules in
    record { room_in_bounds = (omega arith, c.if-input-gt65536.false); length_in_bounds = made_room _ _ _ c.pattern-made.ensures }

pub returns : goal.returns
returns c = wrote_front _ c.put_made.ensures
    (printed_lines c.args.input.now c.line_end-end.result (omega (arith, c.line_end-end.ensures.0)) c.if-input-gt65536.false c.pattern-made.ensures)
