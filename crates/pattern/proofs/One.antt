-- The maker's answer settles its result: number, place and length leave one. Assumes nothing.
use Rattle.std.proofs.Common.{◌≡◌, ℕ, List, [], ◌∷◌, get_or, sym, ap, ◌∙◌, refl, arith}
use Rattle.std.specs.Prelude.{Result, Ok, Err}
use Rattle.answers.proofs.Refusals.{code_above_ok}
use Rattle.pattern.specs.Made.{Made, made_of, code_of, place_of, refusal_of}
use Rattle.pattern.specs.declared.Fault.{Fault}
use Rattle.pattern.specs.declared.Fault.TheVariants.{Long, Form, Deep, Big, Small}

-- the fault of a number, at a place; what stands at 0 is never asked
abbrev fault : ℕ → ℕ → Fault
fault n q = get_or (Small ∷ Long ∷ Form q ∷ Deep q ∷ Big ∷ []) n Small

named : (f : Fault) → fault (code_of f) (place_of f) ≡ f
named Long = refl
named (Form q) = refl
named (Deep q) = refl
named Big = refl
named Small = refl

pub made_one : (a b : Result ℕ Fault) → made_of a ≡ made_of b → a ≡ b
made_one (Ok n) (Ok m) h = ap (λ (x : Made). Ok x.length) h
made_one (Ok n) (Err f) h = absurd (omega (arith, ap (λ (x : Made). x.code) h, code_above_ok (refusal_of f)))
made_one (Err e) (Ok m) h = absurd (omega (arith, ap (λ (x : Made). x.code) h, code_above_ok (refusal_of e)))
made_one (Err e) (Err f) h = ap Err (sym (named e) ∙ (ap (λ (x : Made). fault x.code x.place) h ∙ named f))
