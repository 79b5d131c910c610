-- `explore::put_entry` meets its contract. Assumes nothing.
use native.Mathlib.Omega.{arith}
use borrow.Author.Rules.{rules}
use Rattle.explore.proofs.Memory.{put_there}
use Rattle.explore.proofs.put_entry.Goals as goal

pub returns : goal.returns
returns c = put_there _ _ _ _ _ c.copy_from_slice.ensures.after (omega arith) (search rules) c.requires
