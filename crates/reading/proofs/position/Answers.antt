-- `position` meets its contract: one of the eight, and past them the absent position. Assumes nothing.
use Rattle.std.proofs.Common.{rules, arith, ◌∙◌, ap, ℕ, get_or, ◌≤◌}
use mir.Syntax.{w16}
use mir.ValLaws.{to_z-of_z}
use Rattle.ground.specs.Place.{absent}
use Rattle.reading.specs.Reading.{position_of}
use Rattle.reading.proofs.position.Goals as goal

pub returns : goal.returns
unfolding position_of
returns c = let own : c.from.result ≤ c.from.result = omega arith in
    to_z-of_z w16 c.unwrap_or.result (search rules)
    ∙ (c.unwrap_or.ensures ∙ (rw c.copied.ensures (c.get.ensures.lookup.4 own absent))
    ∙ ap (λ (i : ℕ). get_or c.args.places i absent) c.from.ensures)
