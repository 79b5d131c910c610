-- `explore::gather` meets its contract. Assumes nothing.
use native.Mathlib.Omega.{arith}
use Rattle.explore.proofs.Naming.{gather_over, gather_on, gather_skip}
use Rattle.explore.proofs.gather.Goals as goal
use Rattle.explore.proofs.gather.Goals.{then-o+in_ok-k, else-o}

pub returns-in_err-k : goal.returns-in_err-k
returns-in_err-k c = rw c.from_residual.ensures (gather_over c.args.e.had c.loop-t.t (omega arith) _ _ c.loop-t.invariant.1.1 c.if-o.true _ c.in_err-k.ensures)

pub loop-t-preserved : goal.loop-t-preserved
loop-t-preserved c =
    elim c.if-o.branch [
      | then-o+in_ok-k w ↦ rw (w.regs-is, w.k-is) (w.in_ok-k.ensures.count.0, (w.in_ok-k.ensures.size, gather_on c.args.e.had c.loop-t.t (omega arith) _ _ c.loop-t.invariant.1.1 w.if-o.true _ _ w.in_ok-k.ensures))
      | else-o w ↦ rw (w.regs-is, w.k-is) (c.loop-t.invariant.0, (c.loop-t.invariant.1.0, gather_skip c.args.e.had c.loop-t.t (omega arith) _ _ c.loop-t.invariant.1.1 w.if-o.false))
    ]
