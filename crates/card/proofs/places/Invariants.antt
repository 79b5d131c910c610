-- `card::places` meets its contract: the invariant is `Noting`. Assumes nothing.
use Rattle.card.proofs.Situations.{Noting}
use Rattle.card.proofs.places.Given as goal

abbrev pub invariant-loop-place : goal.invariant-loop-place
invariant-loop-place l = Noting l.s l.initial.place-items l.place-items l.p l.place-index
