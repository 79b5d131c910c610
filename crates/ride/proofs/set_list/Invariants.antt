-- `ride::set_list` meets its contract: what is left to carry out, on the bank so far, is the whole. Assumes nothing.
use Prim.Native.Nat.{◌-◌}
use mathlib.Core.Path.{◌≡◌}
use lib.ListN.{length}
use Rattle.card.specs.Decode.{cmds_at}
use Rattle.run.specs.Carry.{carry}
use Rattle.ride.specs.Ride.{only_sets}
use Rattle.ride.proofs.set_list.Given as goal

abbrev pub invariant-loop-to : goal.invariant-loop-to
invariant-loop-to l = carry (only_sets (cmds_at l.s l.i)) l.place l.initial.bank l.bank ≡ carry (only_sets (cmds_at l.s l.at)) l.place l.initial.bank l.initial.bank

abbrev pub decreases-loop-to : goal.decreases-loop-to
decreases-loop-to l = length l.s - l.i
