-- `build::attempt` meets its contract. Assumes nothing.
use mathlib.Core.Path.{refl}
use native.Mathlib.Omega.{arith}
use Rattle.std.proofs.lemmas.Result.{err_from_is_err_and}
use Rattle.build.proofs.Verdict.{small_room, refused_net, taken_net, laid_ready}
use borrow.Author.Rules.{rules}
use Rattle.build.proofs.attempt.Goals as goal

pub returns-then-work-lt-WORK : goal.returns-then-work-lt-WORK
returns-then-work-lt-WORK c = record { size = refl; attempts = small_room _ _ _ c.if-work-lt-WORK.true }

pub returns-in_err-p : goal.returns-in_err-p
returns-in_err-p c =
    let p = err_from_is_err_and c.from_residual.result c.from_residual.ensures.1 in
    record { size = refl; attempts = rw (p.1, p.2) (refused_net _ _ _ c.if-work-lt-WORK.false _ c.in_err-p.ensures) }

pub make-requires : goal.make-requires
make-requires c = record { formed = laid_ready _ _ c.in_ok-p.ensures; in_bounds = omega (arith, c.if-work-lt-WORK.false) }

pub returns : goal.returns
returns c = record { size = search rules; attempts = taken_net _ _ _ c.if-work-lt-WORK.false _ _ c.in_ok-p.ensures.placed.reads _ _ c.make.ensures.makes }
