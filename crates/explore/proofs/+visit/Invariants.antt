-- `explore::visit` ends: each call has less fuel.
use Rattle.explore.proofs.+visit.Given as goal

abbrev pub decreases-visit : goal.decreases-visit
decreases-visit l = l.fuel
