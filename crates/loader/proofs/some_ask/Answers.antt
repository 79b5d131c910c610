-- `loader::some_ask` meets its contract: of the situations passed none reads a register of its set. Assumes nothing.
use native.Mathlib.Omega.{arith}
use Rattle.loader.proofs.Listing.{says_yes, says_no}
use Rattle.loader.proofs.Situated.{count_most, room_here, loud_field, loud_row, unheard_next, unheard_all}
use Rattle.loader.proofs.some_ask.Goals as goal
use Rattle.loader.proofs.some_ask.Goals.{then-fields_ask-via-then-fields_ask, then-fields_ask-via-else-fields_ask+then-rows_ask}

pub bounds-places-q : goal.bounds-places-q
bounds-places-q c = omega (arith, count_most c.requires, c.sit_count-q-end.ensures.0)

pub bounds-may-q : goal.bounds-may-q
bounds-may-q c = omega (arith, count_most c.requires, c.sit_count-q-end.ensures.0)

pub overflow_add-at : goal.overflow_add-at
overflow_add-at c = omega (arith, room_here c.requires {q = c.loop-q.q} (omega (arith, c.sit_count-q-end.ensures.0)), c.well_formed.0.1)

pub fields_ask-requires : goal.fields_ask-requires
fields_ask-requires c = omega (arith, room_here c.requires {q = c.loop-q.q} (omega (arith, c.sit_count-q-end.ensures.0)))

pub overflow_add-at-else-fields_ask : goal.overflow_add-at-else-fields_ask
overflow_add-at-else-fields_ask c = omega (arith, room_here c.requires {q = c.loop-q.q} (omega (arith, c.sit_count-q-end.ensures.0)), c.well_formed.0.1)

pub returns-then-fields_ask : goal.returns-then-fields_ask
returns-then-fields_ask c =
    elim c.then-fields_ask.branch [
      | then-fields_ask-via-then-fields_ask w ↦ loud_field c.requires (omega (arith, c.sit_count-q-end.ensures.0)) (says_yes w.if-fields_ask.true c.fields_ask.ensures)
      | then-fields_ask-via-else-fields_ask+then-rows_ask w ↦ loud_row c.requires (omega (arith, c.sit_count-q-end.ensures.0)) (says_yes w.if-rows_ask.true w.rows_ask.ensures)
    ]

pub loop-q-preserved : goal.loop-q-preserved
loop-q-preserved c = unheard_next c.requires (omega (arith, c.sit_count-q-end.ensures.0)) c.loop-q.invariant (says_no c.if-fields_ask.false c.fields_ask.ensures) (says_no c.if-rows_ask.false c.rows_ask.ensures)

pub returns : goal.returns
returns c = unheard_all c.requires (omega (arith, c.sit_count-q-end.ensures.0)) c.loop-q.invariant
