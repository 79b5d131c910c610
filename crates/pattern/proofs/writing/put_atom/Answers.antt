-- `put_atom` meets its contract. Assumes nothing.
use Rattle.pattern.proofs.writing.put_atom.Goals as goal

pub put_set-requires : goal.put_set-requires
put_set-requires c = rw c.in-Set.is at c.requires
