-- `blocks::shift_few` meets its contract: the MOVEs above are done. Assumes nothing.
use Prim.Native.Nat.{ℕ, ◌+◌, ◌-◌}
use native.Mathlib.Omega.{arith}
use mathlib.Core.Path.{◌≡◌, refl}
use lib.IntN.{ℤ, pos}
use lib.ListN.{get_or}
use mir.Val.{SFits}
use mir.Syntax.{w16}
use mir.ValLaws.{to_z-of_z}
use borrow.Author.Rules.{rules}
use Rattle.run.specs.Carry.{carry}
use Rattle.blocks.proofs.Blockwise.{shift_none, shift_more, shift_all}
use Rattle.blocks.proofs.shift_few.Goals as goal

pub loop-i-init : goal.loop-i-init
loop-i-init c = λ p. shift_none p c.args.bank.now c.args.a c.args.f c.args.n c.args.n (omega arith)

pub loop-i-preserved : goal.loop-i-preserved
unfolding carry
loop-i-preserved c =
    let i : ℕ = c.loop-i.i - 1 in
    let x : ℤ = get_or c.loop-i.bank (c.args.f + i) (pos 0) in
    let fit : SFits w16 x = search rules in
    λ p. rw (to_z-of_z w16 x fit)
    (shift_more p c.args.bank.now c.args.a c.args.f c.args.n c.requires.1 i 1 c.loop-i.i (omega arith) (omega arith) (c.loop-i.invariant p) refl)

pub returns : goal.returns
returns c =
    let z : c.loop-i.i ≡ 0 = omega arith in
    λ p. shift_all p c.args.bank.now c.args.a c.args.f c.args.n c.requires.1 (rw z at (c.loop-i.invariant p))
