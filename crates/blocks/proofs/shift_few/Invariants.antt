-- `blocks::shift_few` meets its contract: the MOVEs above are done. Assumes nothing.
use Prim.Native.Nat.{ℕ}
use Rattle.blocks.proofs.Blockwise.{Shifted}
use Rattle.blocks.proofs.shift_few.Given as goal

abbrev pub invariant-loop-i : goal.invariant-loop-i
invariant-loop-i l = (p : ℕ) → Shifted p l.initial.bank l.a l.f l.n l.i l.bank
