-- `ride::ride_two` meets its contract. Assumes nothing.
use mathlib.Core.Path.{◌∙◌}
use Rattle.ride.proofs.Answering.{ridden_unfit, mounted_long, mounted_on, mounted_same}
use Rattle.ride.proofs.ride_two.Goals as goal

pub returns-in_default : goal.returns-in_default
returns-in_default c = (
  ridden_unfit _ _ _ c.in_default.ensures,
  ridden_unfit _ _ _ c.in_default.ensures,
)

pub returns-then-line-gt-LINE_MAX : goal.returns-then-line-gt-LINE_MAX
returns-then-line-gt-LINE_MAX c = (
  mounted_long c.in-Some.mount.fits _ c.if-line-gt-LINE_MAX.true ∙ mounted_same c.in-Some.ensures _,
  c.ride_beside-second.ensures ∙ mounted_same c.in-Some.ensures _,
)

pub returns-then-other-gt-LINE_MAX : goal.returns-then-other-gt-LINE_MAX
returns-then-other-gt-LINE_MAX c = (
  c.ride_beside-first.ensures ∙ mounted_same c.in-Some.ensures _,
  mounted_long c.in-Some.mount.fits _ c.if-other-gt-LINE_MAX.true ∙ mounted_same c.in-Some.ensures _,
)

pub returns : goal.returns
returns c = (
  c.ride_both.ensures.0 ∙ mounted_on c.in-Some.mount.fits _ c.if-line-gt-LINE_MAX.false ∙ mounted_same c.in-Some.ensures _,
  c.ride_both.ensures.1 ∙ mounted_on c.in-Some.mount.fits _ c.if-other-gt-LINE_MAX.false ∙ mounted_same c.in-Some.ensures _,
)
