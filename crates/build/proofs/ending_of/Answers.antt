-- `build::ending_of` meets its contract. Assumes nothing.
use native.Mathlib.Omega.{arith}
use Rattle.explore.proofs.Biting.{below_at}
use Rattle.build.proofs.Tables.{no_end, an_end, none_ends}
use Rattle.build.proofs.ending_of.Goals as goal

pub end_at-requires-clause-r_in_bounds : goal.end_at-requires-clause-r_in_bounds
end_at-requires-clause-r_in_bounds c = below_at _ _ c.loop-i.i _ (omega arith) c.requires.fit.below c.entry_at-e.ensures

pub returns-in-Some : goal.returns-in-Some
returns-in-Some c = an_end _ _ c.loop-i.i c.loop-i.invariant (omega arith) _ c.entry_at-e.ensures _ c.in-Some.ensures

pub loop-i-preserved : goal.loop-i-preserved
loop-i-preserved c = no_end _ _ c.loop-i.i c.loop-i.invariant (omega arith) _ c.entry_at-e.ensures c.in_default.ensures

pub returns : goal.returns
returns c = none_ends _ _ c.loop-i.i c.loop-i.invariant (omega arith)
