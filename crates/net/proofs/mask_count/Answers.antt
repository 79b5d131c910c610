-- `net::mask_count` meets its contract. Assumes nothing.
use mathlib.Core.Path.{ap₂, ◌∙◌}
use Prim.Native.Nat.{◌+◌}
use Rattle.net.proofs.Bits.{mask_words}
use Rattle.net.proofs.mask_count.Goals as goal

pub returns : goal.returns
returns c = ap₂ ◌+◌ (ap₂ ◌+◌ (ap₂ ◌+◌ c.ones_at.ensures.0 c.ones_at-2.ensures.0) c.ones_at-3.ensures.0) c.ones_at-4.ensures.0 ∙ mask_words c.args.bits.now
