-- `image::sorts::list_sort` meets its contract. Assumes nothing.
use mathlib.Core.Path.{sym}
use Rattle.image.proofs.Entries.{sort_stop, sort_move}
use Rattle.image.proofs.sorts.list_sort.Goals as goal

pub returns-in-Stop : goal.returns-in-Stop
returns-in-Stop c = sort_stop _ _ (sym c.in-Stop.ensures)

pub returns-in-Move : goal.returns-in-Move
returns-in-Move c = sort_move _ _ _ _ (sym c.in-Move.ensures)
