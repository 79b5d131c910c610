-- `blocks::shift` meets its contract: the MOVEs above are done. Assumes nothing.
use Prim.Native.Nat.{◌-◌}
use native.Mathlib.Omega.{arith}
use Rattle.blocks.proofs.Blockwise.{shift_none, shift_more, shift_last}
use Rattle.blocks.proofs.shift.Goals as goal

pub loop-i-init : goal.loop-i-init
loop-i-init c = (omega arith, λ p. shift_none p c.args.bank.now c.args.a c.args.f c.args.n c.args.n (omega arith))

pub loop-i-preserved : goal.loop-i-preserved
loop-i-preserved c = (
  omega arith,
  λ p. shift_more p c.args.bank.now c.args.a c.args.f c.args.n c.requires.1 (c.loop-i.i - 8) 8 c.loop-i.i (omega arith) c.loop-i.invariant.0 (c.loop-i.invariant.1 p) (c.move_eight.ensures p),
)

pub returns : goal.returns
returns c = λ p. shift_last p c.args.bank.now c.args.a c.args.f c.args.n c.requires.1 c.loop-i.i c.loop-i.invariant.0 (c.loop-i.invariant.1 p) (c.shift_few.ensures p)
