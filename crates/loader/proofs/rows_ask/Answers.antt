-- `loader::rows_ask` meets its contract: of the rows passed none reads a register of the set. Assumes nothing.
use mathlib.Core.Path.{sym, ◌∙◌}
use borrow.Author.Rules.{rules}
use mir.Val.{Fits}
use mir.Syntax.{w64}
use Rattle.loader.proofs.Walk.{row_in, back_next, done_next, asks_none, asks_one, no_asks}
use Rattle.loader.proofs.rows_ask.Goals as goal

pub returns-then-g-m-ne0 : goal.returns-then-g-m-ne0
returns-then-g-m-ne0 c =
    let a : Fits w64 c.list_at-g.result.reads = search rules in
    let b : Fits w64 c.args.m = search rules in
    (_, (row_in _ _ _ (sym c.in-Some.ensures) c.loop-g.invariant.0, asks_one _ _ _ c.list_at-g.ensures.reads a.fits b.fits c.if-g-m-ne0.true))

pub loop-g-preserved : goal.loop-g-preserved
loop-g-preserved c =
    let e = sym c.in-Some.ensures in
    (back_next _ _ _ e _ c.list_at-g.ensures.end c.loop-g.invariant.0, done_next _ _ _ e _ c.list_at-g.ensures.end c.loop-g.invariant.1 (asks_none _ _ _ c.list_at-g.ensures.reads c.if-g-m-ne0.false))

pub returns : goal.returns
returns c = no_asks _ _ _ _ (sym c.read_row.ensures ∙ c.in_default.is) c.loop-g.invariant.1
