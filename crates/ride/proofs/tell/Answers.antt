-- `ride::tell` meets its contract. Assumes nothing.
use Prim.Native.Nat.{◌+◌}
use mathlib.Core.Path.{◌∙◌}
use lib.ListN.{take, drop}
use Rattle.ride.proofs.Telling.{tell_short, tell_none, tell_some, regs_fields}
use Rattle.ride.proofs.tell.Goals as goal

pub returns-then-s-at : goal.returns-then-s-at
returns-then-s-at c = tell_short _ _ _ c.if-s-at.true

pub returns-then-answer : goal.returns-then-answer
returns-then-answer c = tell_none _ _ _ c.if-s-at.false c.if-answer.true

pub returns : goal.returns
returns c = tell_some _ _ _ c.if-s-at.false c.if-answer.false (c.fields_at-places.ensures ∙ regs_fields c.args.bank.now (take 8 (drop (c.args.at + 2) c.args.s.now)))
