-- `loader::flow_rows` meets its contract: the invariant is `Flowing`. Assumes nothing.
use mathlib.Core.Path.{sym, ◌∙◌}
use native.Mathlib.Omega.{arith}
use borrow.Author.Rules.{rules}
use mir.Val.{Fits}
use mir.Syntax.{w64}
use Rattle.loader.proofs.Flowing.{flowing_end, flowing_in, flowing_on}
use Rattle.loader.proofs.flow_rows.Goals as goal

pub bounds-may-n : goal.bounds-may-n
bounds-may-n c = omega (arith, c.from-n.ensures, flowing_in c.loop-next.invariant c.requires.0 (sym c.in-Some.ensures))

pub bounds-may-n-in-Some : goal.bounds-may-n-in-Some
bounds-may-n-in-Some c = omega (arith, c.from-n.ensures, flowing_in c.loop-next.invariant c.requires.0 (sym c.in-Some.ensures))

pub loop-next-preserved : goal.loop-next-preserved
loop-next-preserved c =
    let fit : Fits w64 c.list_at-g.result.writes = search rules in
    rw c.from-n.ensures
    (flowing_on c.loop-next.invariant c.requires.0 c.requires.1 (sym c.in-Some.ensures) c.list_at-g.ensures fit.fits _ (rw c.from-n.ensures at c.flowed.ensures))

pub returns : goal.returns
returns c = flowing_end c.loop-next.invariant (sym c.read_row.ensures ∙ c.in_default.is)
