-- `image::write_image` meets its contract: the invariant is `Written`. Assumes nothing.
use Rattle.image.proofs.Written.{Written}
use Rattle.image.proofs.write_image.Given as goal

abbrev pub invariant-loop-q : goal.invariant-loop-q
invariant-loop-q l = Written l.s l.initial.image l.image l.q
