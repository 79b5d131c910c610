-- `build::Found::table` meets its contract. Assumes nothing.
use Rattle.std.proofs.Common.{ap, ◌∙◌, rules, arith}
use Rattle.build.specs.Card.{need}
use Rattle.build.proofs.Writing.{writes_then, writes_as, handed}
use Rattle.build.proofs.Sound.{some, start}
use Rattle.build.proofs.Tables.{table_is}
use Rattle.build.proofs.Found.table.Goals as goal

pub start-requires : goal.start-requires
start-requires c = let h = c.requires.explored.0.holds 0 (some _ c.requires.explored) in (omega arith, omega (arith, h.count, h.small))

pub returns : goal.returns
returns c =
    let h = c.requires.explored.0.holds 0 (some _ c.requires.explored) in
    let w = writes_then c.put.ensures (writes_then c.start.ensures.writes c.sits.ensures.writes) in
    handed (writes_as w (table_is _ _ _ _ _ _ c.most.ensures (h.count ∙ ap need (start _ c.requires.explored)))) (search rules)
