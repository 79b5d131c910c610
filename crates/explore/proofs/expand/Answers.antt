-- `explore::expand` meets its contract. Assumes nothing.
use mathlib.Core.Path.{sym, ◌∙◌}
use native.Mathlib.Omega.{arith}
use Rattle.std.proofs.lemmas.Result.{err_from_is_err_and}
use Rattle.explore.proofs.Classes.{skipped}
use Rattle.explore.proofs.Exploration.{once_none, expand_stop, expand_on, expanded, loaded}
use Rattle.explore.proofs.expand.Goals as goal
use Rattle.explore.proofs.expand.Goals.{then-new-ne0+in_ok-n, else-new-ne0}

pub loop-b-init : goal.loop-b-init
loop-b-init c = (c.requires.kept.0, once_none _ _)

pub try_byte-requires-clause-holds : goal.try_byte-requires-clause-holds
try_byte-requires-clause-holds c = ((loaded _ _ _ _ (c.requires.kept.0.holds _ c.requires.kept.1) c.load-s.ensures).1, c.load-s.ensures.size)

pub returns-in_err-n : goal.returns-in_err-n
returns-in_err-n c =
    let p = err_from_is_err_and c.from_residual.result c.from_residual.ensures.1 in
    rw (p.1, p.2) (expand_stop _ _ _ _ _ _ _ _ _ (loaded _ _ _ _ (c.requires.kept.0.holds _ c.requires.kept.1) c.load-s.ensures).0 _ c.loop-b.auto.work c.loop-b.invariant.1 _ c.in_err-n.ensures (omega (arith, c.requires.formed.1.size)))

pub loop-b-preserved : goal.loop-b-preserved
loop-b-preserved c =
    let m = loaded _ _ _ _ (c.requires.kept.0.holds _ c.requires.kept.1) c.load-s.ensures in
    elim c.if-new-ne0.branch [
      | then-new-ne0+in_ok-n w ↦ rw (w.work-is, w.n-is) (expand_on _ _ c.args.work.now _ _ _ _ _ _ m.0 _ c.loop-b.auto.work c.loop-b.invariant.1 _ w.in_ok-n.ensures)
      | else-new-ne0 w ↦ rw (w.work-is, w.n-is) (c.loop-b.invariant.0, c.loop-b.invariant.1 ∙ sym (skipped c.requires.formed.0 _ (c.requires.formed.1.old c.loop-b.b (omega (arith, c.requires.formed.1.size)) w.if-new-ne0.false) _ m.1.below _))
    ]

pub returns : goal.returns
returns c = expanded _ _ _ _ _ _ _ _ (loaded _ _ _ _ (c.requires.kept.0.holds _ c.requires.kept.1) c.load-s.ensures).0 c.loop-b.b (omega (arith, c.requires.formed.1.size)) c.loop-b.auto.work c.loop-b.invariant.0 c.loop-b.invariant.1
