-- `eight` meets its contract: the bits from j on are known. Assumes nothing.
use Rattle.std.proofs.Common.{◌+◌, ◌-◌, arith, refl}
use Rattle.pattern.specs.Sets.{octet}
use Rattle.pattern.specs.Writing.{shown}
use Rattle.pattern.proofs.Masks.{octet_half, bit_small, octet_more}
use Rattle.pattern.proofs.writing.eight.Goals as goal

pub loop-j-init : goal.loop-j-init
unfolding octet
loop-j-init c = refl

pub overflow_mul-bits : goal.overflow_mul-bits
overflow_mul-bits c = let l = octet_half (shown c.args.caret c.args.marks.now) (8 - c.loop-j.j) (c.args.b + c.loop-j.j) (omega arith) in omega arith

pub overflow_add-bits : goal.overflow_add-bits
overflow_add-bits c = let l = octet_half (shown c.args.caret c.args.marks.now) (8 - c.loop-j.j) (c.args.b + c.loop-j.j) (omega arith) in let k = bit_small c.allows.result in omega arith

pub loop-j-preserved : goal.loop-j-preserved
loop-j-preserved c = octet_more (shown c.args.caret c.args.marks.now) c.loop-j.j c.args.b c.loop-j.bits _ c.allows.result (omega arith) (omega arith) c.from.ensures c.allows.ensures c.loop-j.invariant
