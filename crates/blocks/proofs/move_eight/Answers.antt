-- `blocks::move_eight` meets its contract: the first of the eight values are stored. Assumes nothing.
use Prim.Native.Nat.{ℕ, ◌+◌, ◌-◌, ◌≤◌}
use native.Mathlib.Omega.{arith}
use mathlib.Core.Path.{◌≡◌, ◌∙◌}
use lib.IntN.{ℤ, pos}
use lib.ListN.{length, get_or, take, drop, length-take, length-drop}
use mir.Val.{SFits}
use mir.Syntax.{w16}
use mir.ValLaws.{to_z-of_z}
use borrow.Author.Rules.{rules}
use Rattle.std.specs.Array.{IsFirstChunk}
use Rattle.std.proofs.lemmas.List.{take-take}
use Rattle.std.proofs.lemmas.List.Edits.{paste_more}
use Rattle.card.specs.Run.{Bank}
use Rattle.blocks.proofs.Blockwise.{moves_stored}
use Rattle.blocks.proofs.move_eight.Goals as goal

-- the eight values, as the part from f on begins with them
read : (bank v : Bank) (f m : ℕ) → f + 8 ≤ length bank → 8 ≤ m → IsFirstChunk (take m (drop f bank)) v 8 → (v ≡ take 8 (drop f bank)) × (length v ≡ 8)
read bank v f m k l h =
    let e : v ≡ take 8 (drop f bank) = h.same ∙ take-take 8 m (drop f bank) l in
    (e, simp (e, length-take, length-drop) (omega arith))

pub loop-t-preserved : goal.loop-t-preserved
loop-t-preserved c =
    let x : ℤ = get_or c.unwrap.result.now c.loop-t.t (pos 0) in
    let fit : SFits w16 x = search rules in
    let h = rw c.unwrap.ensures at c.first_chunk.ensures.cases in
    let r : length c.unwrap.result.now ≡ 8 = (read c.args.bank.now c.unwrap.result.now c.args.f (128 - c.args.f) (omega arith) (omega arith) h).1 in
    rw (to_z-of_z w16 x fit, c.loop-t.invariant) (paste_more c.args.bank.now c.args.a c.unwrap.result.now c.loop-t.t (pos 0) (omega arith) (omega arith))

pub returns : goal.returns
returns c = λ p.
    let h = rw c.unwrap.ensures at c.first_chunk.ensures.cases in
    let t : c.loop-t.t ≡ 8 = omega arith in
    rw t at c.loop-t.invariant
    ∙ moves_stored p c.args.bank.now c.args.a c.args.f 8 c.unwrap.result.now (omega arith) (omega arith) (read c.args.bank.now c.unwrap.result.now c.args.f (128 - c.args.f) (omega arith) (omega arith) h).0
