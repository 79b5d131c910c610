-- `explore::begin_of` meets its contract. Assumes nothing.
use mathlib.Core.Path.{refl, ◌∙◌}
use native.Mathlib.Omega.{arith}
use Rattle.net.proofs.Inside.{net_length}
use Rattle.explore.proofs.Memory.{slot_first}
use Rattle.explore.proofs.Going.{new_ready, new_means}
use Rattle.explore.proofs.Biting.{counted_fit}
use Rattle.explore.proofs.Naming.{begun, began, first_thread}
use Rattle.explore.proofs.begin_of.Goals as goal

pub visit-n-requires-clause-ready : goal.visit-n-requires-clause-ready
visit-n-requires-clause-ready c = new_ready _ _ c.requires.list_len.0

pub returns : goal.returns
returns c =
    let f = counted_fit _ _ _ _ c.visit-n.ensures.ready_2 in
    begun _ _ _ _ _ _ c.number_of.ensures.numbers (c.number_of.ensures.fit _ f)
    (slot_first _ _ c.visit-n.ensures.ready_2.size ∙ began _ _ (omega (arith, net_length c.args.file.now c.args.offs.now)) _ (first_thread _ refl refl) _ _ _ (c.visit-n.ensures.means _ (new_means _)))
