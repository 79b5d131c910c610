-- `ride::Mount::ride_both` meets its contract. Assumes nothing.
use mathlib.Core.Path.{◌∙◌}
use native.Mathlib.Omega.{arith}
use Rattle.ride.proofs.Riding.{reached_on}
use Rattle.ride.proofs.Lines.{rest_so, end_so}
use Rattle.ride.proofs.Mount.ride_both.Goals as goal

pub returns-then-x-y : goal.returns-then-x-y
returns-then-x-y c = (
  c.finish-first.ensures ∙ rest_so c.args.self.now.fits c.args.line.now c.set_list.ensures (reached_on c.glide_two.ensures.0 c.glide-x.ensures),
  c.finish-second.ensures ∙ rest_so c.args.self.now.fits c.args.other.now c.set_list-2.ensures (reached_on c.glide_two.ensures.1 c.glide-y.ensures),
)

pub returns : goal.returns
returns c = (
  c.told-first.ensures ∙ end_so c.args.self.now.fits c.args.line.now c.set_list.ensures (reached_on c.glide_two.ensures.0 c.glide-x.ensures) (omega (arith, c.if-x-y.false, c.glide-x.ensures.within, c.glide-y.ensures.within)),
  c.told-second.ensures ∙ end_so c.args.self.now.fits c.args.other.now c.set_list-2.ensures (reached_on c.glide_two.ensures.1 c.glide-y.ensures) (omega (arith, c.if-x-y.false, c.glide-x.ensures.within, c.glide-y.ensures.within)),
)
