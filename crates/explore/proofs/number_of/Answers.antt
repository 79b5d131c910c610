-- `explore::number_of` meets its contract. Assumes nothing.
use Rattle.explore.proofs.Naming.{number_over, number_fine, number_fit}
use Rattle.explore.proofs.number_of.Goals as goal

pub returns-in_err-k-clause-numbers : goal.returns-in_err-k-clause-numbers
returns-in_err-k-clause-numbers c = rw c.from_residual.ensures (number_over _ _ c.in_err-k.ensures)

pub returns-clause-numbers : goal.returns-clause-numbers
returns-clause-numbers c = number_fine _ _ _ c.in_ok-k.ensures _ c.requires.0 c.name_all.ensures

pub returns-clause-fit : goal.returns-clause-fit
returns-clause-fit c = number_fit _ _ _ c.in_ok-k.ensures _ c.requires.0 c.name_all.ensures
