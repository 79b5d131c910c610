-- `report::line_end` meets its contract. Assumes nothing.
use Rattle.std.proofs.Common.{◌∙◌, ◌+◌, ap, drop, eqb, length, length-drop, unwrap_or, rules, arith}
use borrow.Author.Tests.{tests}
use Rattle.std.proofs.lemmas.Iterator.{YieldsList-from_slice}
use Rattle.std.proofs.lemmas.Iterator.Search.{position_from_yields_List}
use Rattle.report.proofs.Splitting.{line_found, tail_all}
use Rattle.report.proofs.line_end.Goals as goal

pub returns : goal.returns
returns c =
    let rest = drop c.args.from c.args.s.now in
    let all = tail_all c.args.s.now c.args.from in
    let e = line_found rest _ (position_from_yields_List (λ b. eqb b 10) _ _ _ c.position.ensures.ran (YieldsList-from_slice rest (c.iter.ensures.rest ∙ all)) (λ x b q k. search (rules, tests))) in
    let u = c.unwrap_or.ensures ∙ ap (λ t. unwrap_or c.position.result (length t)) all ∙ e.0 in
    (ap (λ n. c.args.from + n) u, omega (arith, u, e.1, length-drop c.args.from c.args.s.now))
