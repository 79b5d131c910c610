-- `build::make` meets its contract. Assumes nothing.
use Rattle.std.proofs.Common.{◌∙◌}
use Rattle.std.proofs.lemmas.Result.{err_from_is_err_and}
use Rattle.build.proofs.Verdict.{stopped, no_room, room}
use Rattle.build.proofs.make.Goals as goal

pub returns-in_err-count-clause-makes : goal.returns-in_err-count-clause-makes
returns-in_err-count-clause-makes c =
    let p = err_from_is_err_and c.from_residual.result c.from_residual.ensures.1 in
    rw (p.1, p.2) (stopped _ _ _ _ c.in_err-count.ensures.what)

pub returns-then-out-length-clause-makes : goal.returns-then-out-length-clause-makes
returns-then-out-length-clause-makes c = no_room _ c.in_ok-count.ensures.what _ c.table-length.ensures _ c.if-out-length.true

pub returns-clause-makes : goal.returns-clause-makes
returns-clause-makes c = room _ c.in_ok-count.ensures.what _ c.table-length.ensures _ c.if-out-length.false c.table.ensures (c.from.ensures ∙ c.most.ensures)
