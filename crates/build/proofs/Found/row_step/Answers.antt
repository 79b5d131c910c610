-- `build::Found::row_step` meets its contract. Assumes nothing.
use Rattle.std.proofs.Common.{refl, sym, ◌∙◌}
use Rattle.build.proofs.Commands.{compared}
use Rattle.build.proofs.Joining.{joins, parts}
use Rattle.build.proofs.Found.row_step.Goals as goal

pub returns-then-eq : goal.returns-then-eq
returns-then-eq c =
    let e = compared _ _ c.eq.ensures (record { sets = λ a b. refl; set_move = λ a c d. refl; move_set = λ a b c. refl; moves = λ a b c d. refl }) in
    joins _ _ _ _ _ _ c.requires.b_nonzero.0 c.requires.does _ c.deed-deed.ensures (sym e ∙ c.if-eq.true)

pub returns : goal.returns
returns c =
    let e = compared _ _ c.eq.ensures (record { sets = λ a b. refl; set_move = λ a c d. refl; move_set = λ a b c. refl; moves = λ a b c d. refl }) in
    parts _ _ _ _ _ _ c.requires.b_nonzero.0 c.requires.does _ c.deed-deed.ensures (sym e ∙ c.if-eq.false) _ c.row.ensures.writes c.row.ensures.within
