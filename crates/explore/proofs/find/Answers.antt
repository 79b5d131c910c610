-- `explore::find` meets its contract. Assumes nothing.
use native.Mathlib.Omega.{arith}
use Rattle.explore.proofs.Naming.{find_hit, find_miss, find_end}
use Rattle.explore.proofs.find.Goals as goal

pub returns-then-regs-i-2 : goal.returns-then-regs-i-2
returns-then-regs-i-2 c = find_hit _ _ _ _ _ c.loop-i.invariant (omega arith) c.if-regs-i.true c.if-regs-i-2.true

pub loop-i-preserved : goal.loop-i-preserved
loop-i-preserved c = find_miss _ _ _ _ _ c.loop-i.invariant (omega arith) (λ p q. grind arith)

pub returns : goal.returns
returns c = find_end _ _ _ _ c.loop-i.i c.loop-i.invariant (omega arith)
