-- `put_mask` meets its contract: the kind and k bytes of the body stand. Assumes nothing.
use Rattle.std.proofs.Common.{◌≡◌, ℕ, ◌∷◌, [], ◌++◌, arith, subst}
use Rattle.ground.specs.Lists.{Wrote}
use Rattle.ground.proofs.Stores.{wrote_then, wrote_length}
use Rattle.pattern.specs.Sets.{octets}
use Rattle.pattern.specs.Writing.{shown}
use Rattle.pattern.proofs.Masks.{body_more, octets_long}
use Rattle.pattern.proofs.writing.put_mask.Goals as goal

pub loop-k-init : goal.loop-k-init
unfolding octets
loop-k-init c = c.put-p.ensures

pub put-p-requires-in-loop-k : goal.put-p-requires-in-loop-k
put-p-requires-in-loop-k c =
    let f = shown c.args.caret c.args.marks.now in let n = octets_long f c.loop-k.k 0 in let w = wrote_length _ c.loop-k.invariant in omega arith

pub loop-k-preserved : goal.loop-k-preserved
loop-k-preserved c = body_more (shown c.args.caret c.args.marks.now) c.loop-k.k c.eight.result c.loop-k.invariant c.put-p-in-loop-k.ensures c.eight.ensures

pub put-requires : goal.put-requires
put-requires c =
    let f = shown c.args.caret c.args.marks.now in let n = octets_long f c.loop-k.k 0 in let w = wrote_length _ c.loop-k.invariant in omega arith

pub returns : goal.returns
returns c =
    let k : c.loop-k.k ≡ 32 = omega arith in
    let f = shown c.args.caret c.args.marks.now in
    subst (λ (k : ℕ). Wrote c.args.out.now c.put.new.out c.args.o c.put.result (0x12 ∷ (octets f k 0 ++ c.args.next ∷ []))) k (wrote_then (0x12 ∷ octets f c.loop-k.k 0) _ c.loop-k.invariant c.put.ensures)
