-- `explore::store` meets its contract. Assumes nothing.
use native.Mathlib.Omega.{arith}
use Rattle.explore.proofs.Memory.{stored}
use Rattle.explore.proofs.store.Goals as goal

pub returns : goal.returns
returns c = stored _ _ _ _ _ c.copy_from_slice.ensures.after (omega arith) c.requires.0 c.requires.1.1 c.requires.1.0
