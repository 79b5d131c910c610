-- `ride::Mount::ride_beside` meets its contract. Assumes nothing.
use mathlib.Core.Path.{◌∙◌}
use Rattle.ride.proofs.Answering.{mounted_long, mounted_on}
use Rattle.ride.proofs.Lines.{glides, begins_so}
use Rattle.ride.proofs.Mount.ride_beside.Goals as goal

pub returns-then-line-gt-LINE_MAX : goal.returns-then-line-gt-LINE_MAX
returns-then-line-gt-LINE_MAX c = mounted_long c.args.self.now.fits _ c.if-line-gt-LINE_MAX.true

pub finish-requires : goal.finish-requires
finish-requires c = glides c.args.self.now.fits c.if-line-gt-LINE_MAX.false

pub returns : goal.returns
returns c = c.finish.ensures ∙ begins_so c.args.self.now.fits c.args.line.now c.set_list.ensures ∙ mounted_on c.args.self.now.fits _ c.if-line-gt-LINE_MAX.false
