-- `card::form::fields_ok` meets its contract: the test of the eight, as its chain makes it. Assumes nothing.
use Rattle.std.proofs.Common.{◌+◌, get_or, rules, tests, refl}
use Rattle.std.proofs.lemmas.Iterator.{YieldsList-from_range}
use Rattle.std.proofs.lemmas.Iterator.Search.{all_from_yields_List}
use Rattle.card.specs.Form.{field_ok, fields_ok}
use Rattle.card.proofs.form.fields_ok.Goals as goal

pub returns : goal.returns
unfolding fields_ok
returns c =
    let a = c.args in
    all_from_yields_List (λ t. field_ok (get_or a.s.now (a.at + t) 0) t a.answer a.h.tags a.h.regs) _ _ _ c.all.ensures.ran (YieldsList-from_range 0 8 8 refl refl)
    (λ x b q k. search (rules, tests))
