-- `between` meets its contract: the tests in document 01's order. Assumes nothing.
use borrow.Author.Tests.{lt-ltb, le-ltb}
use Rattle.ground.specs.Pick.{pick}
use Rattle.ground.proofs.Places.{arrived}
use Rattle.field.specs.Field.{cut_of}
use Rattle.field.proofs.between.Goals as goal

pub returns-in_default : goal.returns-in_default
unfolding cut_of
returns-in_default c = simp (arrived _ c.ranges.from c.place_of.ensures c.in_default.is)

pub returns-in_default-place_of : goal.returns-in_default-place_of
unfolding cut_of
returns-in_default-place_of c = simp (arrived _ c.ranges.from c.place_of.ensures c.in-Some.is, arrived _ c.ranges.to c.place_of-2.ensures c.in_default-place_of.is)

pub returns-then-e-a : goal.returns-then-e-a
unfolding cut_of pick
returns-then-e-a c = simp (arrived _ c.ranges.from c.place_of.ensures c.in-Some.is, arrived _ c.ranges.to c.place_of-2.ensures c.in-Some-place_of.is, lt-ltb _ _ c.if-e-a.true)

pub returns-then-len-e : goal.returns-then-len-e
unfolding cut_of pick
returns-then-len-e c = simp (arrived _ c.ranges.from c.place_of.ensures c.in-Some.is, arrived _ c.ranges.to c.place_of-2.ensures c.in-Some-place_of.is, le-ltb _ _ c.if-e-a.false, lt-ltb _ _ c.if-len-e.true)

pub returns : goal.returns
unfolding cut_of pick
returns c = simp (arrived _ c.ranges.from c.place_of.ensures c.in-Some.is, arrived _ c.ranges.to c.place_of-2.ensures c.in-Some-place_of.is, le-ltb _ _ c.if-e-a.false, le-ltb _ _ c.if-len-e.false)
