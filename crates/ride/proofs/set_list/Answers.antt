-- `ride::set_list` meets its contract: what is left to carry out, on the bank so far, is the whole. Assumes nothing.
use mathlib.Core.Path.{sym, ◌∙◌}
use native.Mathlib.Omega.{arith}
use lib.IntN.{pos}
use mir.Syntax.{w16}
use mir.ValLaws.{to_z-of_z}
use Rattle.ground.proofs.Places.{place_fits}
use Rattle.card.proofs.Laws.{put_facts}
use Rattle.ride.proofs.Obeying.{sets_put, sets_end}
use Rattle.ride.proofs.set_list.Goals as goal

pub offset_bounds-bank-to : goal.offset_bounds-bank-to
offset_bounds-bank-to c = let f = put_facts _ _ _ (sym c.in-Put.ensures) in omega arith

pub bounds-bank-to : goal.bounds-bank-to
bounds-bank-to c = let f = put_facts _ _ _ (sym c.in-Put.ensures) in omega arith

pub overflow_add-i : goal.overflow_add-i
overflow_add-i c = let f = put_facts _ _ _ (sym c.in-Put.ensures) in omega arith

pub loop-to-smaller : goal.loop-to-smaller
loop-to-smaller c = let f = put_facts _ _ _ (sym c.in-Put.ensures) in omega arith

pub loop-to-preserved : goal.loop-to-preserved
loop-to-preserved c =
    rw (c.held-v.ensures, to_z-of_z w16 (pos c.args.place) (place_fits c.args.place c.requires)) (sets_put _ _ _ _ _ _ (sym c.in-Put.ensures) ∙ c.loop-to.invariant)

pub returns : goal.returns
returns c = sets_end _ _ _ _ _ _ c.read_cmd.ensures c.in_default.not-Put ∙ c.loop-to.invariant
