-- `explore::add` meets its contract. Assumes nothing.
use mathlib.Core.Path.{sym, ◌∙◌}
use Rattle.explore.proofs.Naming.{add_old, add_full, add_new}
use Rattle.explore.proofs.add.Goals as goal

pub returns-then-is_some : goal.returns-then-is_some
returns-then-is_some c = add_old _ _ _ _ c.requires.1 c.requires.0 _ c.find.ensures (sym c.is_some.ensures ∙ c.if-is_some.true)

pub returns-then-n-eq-MOST_REGISTERS : goal.returns-then-n-eq-MOST_REGISTERS
returns-then-n-eq-MOST_REGISTERS c = add_full _ _ _ _ c.requires.1 c.requires.0 _ c.find.ensures (sym c.is_some.ensures ∙ c.if-is_some.false) c.if-n-eq-MOST_REGISTERS.true

pub returns : goal.returns
returns c = add_new _ _ _ _ c.requires.1 c.requires.0 _ c.find.ensures (sym c.is_some.ensures ∙ c.if-is_some.false) c.if-n-eq-MOST_REGISTERS.false
