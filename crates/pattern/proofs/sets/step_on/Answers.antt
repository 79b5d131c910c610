-- `step_on` meets its contract, stand by stand. Assumes nothing.
use borrow.Author.Tests.{ne_eqb}
use Rattle.ground.proofs.Picks.{passed}
use Rattle.pattern.specs.Sets.{set_on}
use Rattle.pattern.proofs.sets.step_on.Goals as goal

pub returns-in-Fresh : goal.returns-in-Fresh
unfolding set_on
returns-in-Fresh c = rw c.in-Fresh.is (c.begins.ensures c.args.s.now)

pub returns-in-Ready : goal.returns-in-Ready
unfolding set_on
returns-in-Ready c = rw c.in-Ready.is (c.closes.ensures c.args.s.now)

pub returns-else-c-eq45 : goal.returns-else-c-eq45
unfolding set_on
returns-else-c-eq45 c = rw (c.in-Held.is, passed _ _ (ne_eqb _ _ c.if-c-eq45.false)) (c.closes-else-c-eq45.ensures c.args.s.now)

pub returns-in-Dash : goal.returns-in-Dash
unfolding set_on
returns-in-Dash c = rw c.in-Dash.is (c.dashes.ensures c.args.s.now c.args.i)

pub returns-in-DashQuote : goal.returns-in-DashQuote
unfolding set_on
returns-in-DashQuote c = rw c.in-DashQuote.is (c.reaches.ensures c.args.s.now c.args.i)
