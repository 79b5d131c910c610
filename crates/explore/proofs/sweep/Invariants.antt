-- `explore::sweep` meets its contract. Assumes nothing.
use Rattle.std.proofs.Common.{suc, length}
use mathlib.Core.List.{[], foldl}
use Rattle.ground.specs.Lists.{each}
use Rattle.paths.specs.Situation.{on_byte}
use Rattle.paths.specs.Registers.{tagged}
use Rattle.paths.specs.Marks.{marking}
use Rattle.net.specs.Items.{net_at}
use Rattle.explore.specs.Slots.{threads_at}
use Rattle.explore.specs.Visit.{Ready, Means}
use Rattle.explore.proofs.sweep.Given as goal

-- what the first i threads lead to is in the list
abbrev pub invariant-loop-i : goal.invariant-loop-i
invariant-loop-i l = Ready (length l.offs) l.marks l.list l.n × Means l.marks l.list l.n (foldl (marking (tagged l.stamp) (net_at l.file l.offs) (suc (length (net_at l.file l.offs)))) (record { marks = []; list = [] }) (each (on_byte (tagged l.stamp) (net_at l.file l.offs) l.b) (threads_at l.s 2 l.i)))
