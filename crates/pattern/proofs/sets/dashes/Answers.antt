-- `dashes` meets its contract. Assumes nothing.
use Rattle.std.proofs.Common.{arith}
use Rattle.std.proofs.lemmas.Bool.Decides.{nat_tests}
use Rattle.ground.specs.Pick.{pick}
use Rattle.pattern.specs.Sets.{set_on}
use Rattle.pattern.proofs.sets.dashes.Goals as goal

pub returns-in_default : goal.returns-in_default
unfolding pick set_on
returns-in_default c = λ s i. let b = c.reaches.ensures s i in record { is = grind (arith, nat_tests, b.is); sound = b.sound }
