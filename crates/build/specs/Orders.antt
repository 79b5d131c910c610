-- What the commands in an array mean. Assumes nothing: these are definitions.
use Rattle.std.specs.Prelude.{List, map, take}
use Rattle.card.specs.Table.{Cmd, move, put}
use Rattle.build.specs.declared.orders.Order.{Order}
use Rattle.build.specs.declared.orders.Order.TheVariants.{Set, Move}
use Rattle.build.specs.declared.orders.Orders.{Orders}

abbrev pub order_of : Order → Cmd
order_of (Set to) = put to
order_of (Move to from) = move to from

unfoldable pub orders_of : Orders → List Cmd
orders_of c = map order_of (take c.n c.list)
