-- `explore::same` meets its contract. Assumes nothing.
use mathlib.Core.Path.{◌∙◌}
use borrow.Author.Tests.{ne_eqb}
use Rattle.explore.proofs.Memory.{same_bytes, other_count}
use Rattle.explore.proofs.same.Goals as goal

pub returns-then-work-base : goal.returns-then-work-base
returns-then-work-base c = let e = same_bytes c.args.list.now c.args.work.now c.args.j _ c.from.ensures c.if-work-base.true c.requires.1.1 c.requires.1.0 c.requires.0 in cc

pub returns-else-work-base : goal.returns-else-work-base
returns-else-work-base c = ne_eqb _ _ c.if-work-base.false ∙ other_count _ _ _ c.if-work-base.false
