-- `loader::settle` meets its contract: the invariant is `Round`, and each round that changes a set adds a bit to the 6,144. Assumes nothing.
use borrow.Author.Rules.{rules}
use mir.Val.{Fits}
use mir.Syntax.{w64}
use Rattle.loader.proofs.Situated.{start_is}
use Rattle.loader.proofs.Passes.{begin, falls, settled}
use Rattle.loader.proofs.settle.Goals as goal

pub loop-seen-init : goal.loop-seen-init
loop-seen-init c = let fit : Fits w64 c.flowed.result = search rules in
    begin _ _ (start_is _ c.flowed.ensures c.list_at.ensures.writes) fit.fits

pub loop-seen-smaller : goal.loop-seen-smaller
loop-seen-smaller c = falls _ c.loop-seen-test.true c.sweep.ensures

pub returns : goal.returns
returns c = settled _ c.sweep.ensures.round (c.sweep.ensures.still c.loop-seen-test.false)
