-- `closes` meets its contract. Assumes nothing.
use Rattle.std.proofs.Common.{arith}
use Rattle.std.proofs.lemmas.Bool.Decides.{nat_tests}
use Rattle.ground.specs.Pick.{pick}
use Rattle.pattern.proofs.sets.closes.Goals as goal

pub returns : goal.returns
unfolding pick
returns c = λ s. let b = c.begins.ensures s in record { is = grind (arith, nat_tests, b.is); sound = b.sound }
