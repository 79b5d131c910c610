-- `run::fields_at` meets its contract: place by place. Assumes nothing.
use Prim.Native.Nat.{ℕ, ◌+◌}
use lib.ListN.{get_or}
use borrow.Author.Rules.{rules}
use Rattle.run.specs.Carry.{field_at}
use Rattle.run.proofs.Filling.{each_from_fn, told_all}
use Rattle.run.proofs.fields_at.Goals as goal

pub returns : goal.returns
returns c = told_all _ _ _ _ c.requires.0 c.from_fn.ensures.items.long
    (each_from_fn (λ (t : ℕ). field_at c.args.bank.now (get_or c.args.s.now (c.args.at + t) 0)) (λ t y q k. search rules) _ 0 8 c.from_fn.ensures.items.each)
