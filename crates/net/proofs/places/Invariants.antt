-- `net::places` meets its contract. The loop keeps, of the records passed, their places, and of the rest what the file still has to say (Laying.antt). Assumes nothing.
use Rattle.net.proofs.Laying.{Filling}
use Rattle.net.proofs.places.Given as goal

abbrev pub invariant-loop-place : goal.invariant-loop-place
invariant-loop-place l = Filling l.net l.tags l.count l.n l.place-items l.at l.place-index
