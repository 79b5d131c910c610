-- `blocks::fill` meets its contract: the first registers of the part are set. Assumes nothing.
use Prim.Native.Nat.{◌+◌, ◌-◌}
use native.Mathlib.Omega.{arith}
use mathlib.Core.Path.{◌≡◌}
use lib.IntN.{pos}
use lib.ListN.{length, length-take, length-drop}
use borrow.Rule.Slice.PartMut.{mid_of}
use mir.Syntax.{w16}
use mir.ValLaws.{to_z-of_z}
use Rattle.ground.proofs.Places.{place_fits}
use Rattle.blocks.proofs.Blockwise.{puts_stored}
use Rattle.blocks.proofs.fill.Goals as goal

pub returns : goal.returns
returns c =
    let n : length (mid_of c.args.a (c.args.a + c.args.k - c.args.a) c.args.bank.now) ≡ c.args.k = simp (length-take, length-drop) (omega arith) in
    puts_stored c.args.place c.args.bank.now c.args.a c.args.k c.loop-x.x-index c.loop-x.x-items (omega arith) (omega arith) (omega arith)
    (rw c.held-v.ensures (to_z-of_z w16 (pos c.args.place) (place_fits c.args.place c.requires.1))) c.loop-x.invariant
