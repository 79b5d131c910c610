-- `ride::ride` meets its contract. Assumes nothing.
use mathlib.Core.Path.{◌∙◌}
use Rattle.ride.proofs.Answering.{ridden_unfit, mounted_long, mounted_on, mounted_same}
use Rattle.ride.proofs.ride.Goals as goal

pub returns-in_default : goal.returns-in_default
returns-in_default c = ridden_unfit _ _ _ c.in_default.ensures

pub returns-then-line-gt-LINE_MAX : goal.returns-then-line-gt-LINE_MAX
returns-then-line-gt-LINE_MAX c =
    mounted_long c.in-Some.mount.fits _ c.if-line-gt-LINE_MAX.true ∙ mounted_same c.in-Some.ensures _

pub returns : goal.returns
returns c = c.ride_line.ensures ∙ mounted_on c.in-Some.mount.fits _ c.if-line-gt-LINE_MAX.false ∙ mounted_same c.in-Some.ensures _
