-- `explore::name_entry` meets its contract. Assumes nothing.
use mathlib.Core.Path.{◌≡◌, ◌∙◌}
use native.Mathlib.Omega.{arith}
use borrow.Author.Rules.{rules}
use lib.ListN.{length, length-set}
use Rattle.explore.specs.Keys.{keys_at}
use Rattle.explore.proofs.Naming.{found_here, name_one, name_skip, named_all}
use Rattle.explore.proofs.name_entry.Goals as goal
use Rattle.explore.proofs.name_entry.Goals.{then-o, else-o}

pub overflow_cast-d : goal.overflow_cast-d
overflow_cast-d c = omega (arith, (found_here _ _ c.requires.0 _ _ _ c.find.ensures _ c.unwrap_or.ensures).1)

pub loop-t-preserved : goal.loop-t-preserved
loop-t-preserved c =
    elim c.if-o.branch [
      | then-o w ↦
          let f = found_here _ _ c.requires.0 _ _ _ w.find.ensures _ w.unwrap_or.ensures in
          rw w.d-is (c.loop-t.invariant.0, (length-set c.loop-t.d.had c.loop-t.t w.unwrap_or.result ∙ c.loop-t.invariant.1.0, name_one _ c.args.e.had c.loop-t.t (omega arith) c.loop-t.d.had c.loop-t.invariant.1.1 w.if-o.true _ f.1 f.0))
      | else-o w ↦ rw w.d-is (c.loop-t.invariant.0, (c.loop-t.invariant.1.0, name_skip _ c.args.e.had c.loop-t.t (omega arith) c.loop-t.d.had c.loop-t.invariant.1.1 w.if-o.false))
    ]

pub returns : goal.returns
returns c = let len : length c.args.e.had ≡ 8 = search rules in
    named_all (keys_at c.args.regs.now 0 c.args.n) c.args.e c.loop-t.d c.loop-t.t (omega arith) c.loop-t.invariant.0 c.loop-t.invariant.1.1
