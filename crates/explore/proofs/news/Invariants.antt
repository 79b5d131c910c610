-- `explore::news` meets its contract. Assumes nothing.
use Rattle.std.proofs.Common.{◌≡◌, ◌-◌}
use Rattle.net.specs.Rec.{rec}
use Rattle.paths.specs.Situation.{bite}
use Rattle.net.specs.Items.{net_at}
use Rattle.explore.specs.Items.{lands}
use Rattle.explore.proofs.Classes.{Marks}
use Rattle.explore.proofs.news.Given as goal

-- the records below r are compared
abbrev pub invariant-loop-r : goal.invariant-loop-r
invariant-loop-r l = Marks (net_at l.file l.offs) l.told l.r 0

-- and of record r the bytes below b
abbrev pub invariant-loop-b : goal.invariant-loop-b
invariant-loop-b l = Marks (net_at l.file l.offs) l.told l.r l.b × (l.last ≡ lands (bite (l.b - 1) (rec (net_at l.file l.offs) l.r)))
