-- `explore::expand` meets its contract. Assumes nothing.
use Rattle.std.proofs.Common.{◌≡◌, length}
use mathlib.Core.List.{map}
use Rattle.paths.specs.Registers.{next}
use Rattle.paths.specs.Equal.{same_situation}
use Rattle.paths.specs.Numbering.{once}
use Rattle.paths.specs.Limits.{bytes}
use Rattle.net.specs.Items.{net_at}
use Rattle.explore.specs.Slots.{slot, slots}
use Rattle.explore.specs.Explore.{Kept}
use Rattle.explore.proofs.expand.Given as goal

-- what the bytes below b lead to is stored
abbrev pub invariant-loop-b : goal.invariant-loop-b
invariant-loop-b l = Kept (length l.offs) l.work l.n × (slots l.work 0 l.n ≡ once same_situation (slots l.initial.work 0 l.count) (map (λ b. next (net_at l.file l.offs) b (slot l.s 0)) (bytes 0 l.b)))
