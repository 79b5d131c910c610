-- `put_set` meets its contract. Assumes nothing.
use Rattle.std.proofs.Common.{◌≡◌, eqb, arith, sym, ap, ◌∙◌}
use Rattle.pattern.specs.Sets.{octets}
use Rattle.pattern.specs.Reader.{set_at}
use Rattle.pattern.specs.Atoms.{bits_of}
use Rattle.pattern.specs.Writing.{shown}
use Rattle.pattern.proofs.Bytes.{same_byte}
use Rattle.pattern.proofs.EmitSets.{set_mask, mask_long, marks_none}
use Rattle.pattern.proofs.writing.put_set.Goals.{After-eq-caret}
use Rattle.pattern.proofs.writing.put_set.Goals as goal

its_bits : (c : After-eq-caret) → bits_of (set_at c.args.s.now c.args.at) ≡ octets (shown c.eq-caret.result c.mark_set.new.marks) 32 0
its_bits c =
    set_mask c.args.s.now c.args.at c.mark_set.new.marks c.eq-caret.result
    (ap (λ n. eqb n 94) (sym c.byte_at.ensures) ∙ same_byte c.byte_at.result 94 (omega arith) ∙ sym c.eq-caret.ensures) c.requires.0 c.mark_set.ensures

pub mark_set-requires : goal.mark_set-requires
mark_set-requires c = (c.requires.0.within, marks_none)

pub put_mask-requires : goal.put_mask-requires
put_mask-requires c =
    let e = its_bits (goal.at.put_mask-requires c).After-eq-caret in
    let r = rw e at c.requires.1 in
    let l = mask_long (shown c.eq-caret.result c.mark_set.new.marks) c.args.next in
    (c.mark_set.auto.marks, omega arith, c.requires.2)

pub returns : goal.returns
returns c = let e = its_bits (goal.at.returns c).After-eq-caret in rw e c.put_mask.ensures
