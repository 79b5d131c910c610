-- `net::ones_at` meets its contract. Assumes nothing.
use mathlib.Core.Path.{ap, ◌∙◌}
use native.Mathlib.Omega.{arith}
use lib.Count.{ones, ones-le}
use Rattle.net.proofs.Bits.{word_ones}
use Rattle.net.proofs.ones_at.Goals as goal

pub returns : goal.returns
returns c = (ap ones c.word-w.ensures ∙ word_ones c.args.s.now (λ i. (c.type_inv.s i).fits) c.args.at, ones-le 64 c.word-w.result (omega arith))
