-- `build::commands_of` meets its contract. Assumes nothing.
use Rattle.std.proofs.Common.{◌≤◌}
use Rattle.build.specs.Orders.{orders_of}
use Rattle.build.proofs.Commands.{Filled}
use Rattle.build.proofs.commands_of.Given as goal

abbrev pub invariant-loop-k : goal.invariant-loop-k
invariant-loop-k l = record { few : l.all.n ≤ l.k; filled : Filled l.fresh l.regs l.n (orders_of l.all) l.k }
