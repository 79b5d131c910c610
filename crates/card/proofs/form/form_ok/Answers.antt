-- `card::form::form_ok` meets its contract: by the theorem of proofs/Formed.antt. Assumes nothing.
use mathlib.Core.Path.{sym, subst}
use native.Mathlib.Omega.{arith}
use Rattle.card.specs.FormOk.{FormOk}
use Rattle.card.proofs.Formed.{answered}
use Rattle.card.proofs.form.form_ok.Goals as goal

pub returns : goal.returns
returns c = subst (FormOk c.args.s.now) (sym c.is_ok.ensures.value) (answered _ (λ i. omega (arith, c.type_inv.s i)) _ c.first_fault.ensures)
