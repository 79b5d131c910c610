-- `build::Pen::orders` meets its contract. Assumes nothing.
use Rattle.std.proofs.Common.{◌≤◌, ◌+◌, ◌*◌, drop, map}
use Rattle.ground.specs.Lists.{each}
use Rattle.card.specs.Table.{cmd_bytes}
use Rattle.build.specs.Orders.{order_of, orders_of}
use Rattle.build.proofs.Writing.{Left}
use Rattle.build.proofs.Pen.orders.Given as goal

abbrev pub invariant-loop-o : goal.invariant-loop-o
invariant-loop-o l = record {
  within : l.self.at ≤ l.initial.self.at + 3 * l.o-index;
  left : Left l.initial.self (each cmd_bytes (orders_of l.c)) l.self (each cmd_bytes (map order_of (drop l.o-index l.o-items)));
}
