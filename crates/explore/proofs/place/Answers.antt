-- `explore::place` meets its contract. Assumes nothing.
use mathlib.Core.Path.{sym, ◌∙◌}
use native.Mathlib.Omega.{arith}
use Rattle.explore.proofs.Memory.{placed_at, placed_none}
use Rattle.explore.proofs.place.Goals as goal

pub returns-then-same : goal.returns-then-same
returns-then-same c = placed_at _ _ _ c.loop-j.j (omega arith) c.loop-j.invariant (sym c.same.ensures ∙ c.if-same.true)

pub returns : goal.returns
returns c = placed_none _ _ _ (λ k h. c.loop-j.invariant k (omega arith))
