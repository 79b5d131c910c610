-- `explore::name_all` meets its contract. Assumes nothing.
use Rattle.explore.proofs.Naming.{named_none, named_more}
use Rattle.explore.proofs.name_all.Goals as goal

pub loop-i-init : goal.loop-i-init
loop-i-init c = named_none _ _

pub loop-i-preserved : goal.loop-i-preserved
loop-i-preserved c = named_more _ _ _ _ c.loop-i.i _ _ c.loop-i.invariant c.entry_at-e.ensures c.name_entry.ensures c.put_entry.ensures
