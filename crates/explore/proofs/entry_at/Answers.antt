-- `explore::entry_at` meets its contract. Assumes nothing.
use mathlib.Core.Path.{◌≡◌}
use Prim.Native.Nat.{◌+◌, ◌-◌}
use native.Mathlib.Omega.{arith}
use Rattle.explore.proofs.Memory.{read_there}
use Rattle.explore.proofs.entry_at.Goals as goal

pub returns : goal.returns
returns c = let k : c.args.at + 9 - (c.args.at + 1) ≡ 8 = omega arith in read_there _ _ _ _ c.copy_from_slice.ensures.after k c.requires
