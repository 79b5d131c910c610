-- A refusal is known by its number, and none has that of OK. Assumes nothing.
use Rattle.std.proofs.Common.{◌≡◌, ℕ, ◌<◌, List, [], ◌∷◌, get_or, sym, ◌∙◌, ap, refl, lit<, arith}
use Rattle.std.specs.Prelude.{Result, Ok, Err}
use Rattle.answers.specs.declared.Refusal.{Refusal}
use Rattle.answers.specs.declared.Refusal.TheVariants.{PatternLong, PatternForm, PatternDeep, PatternBig, NetKind, NetShort, NetField, NetExtra, WorkSmall, Registers, Situations, OutSmall, TableForm, EmptyRead, LineLong, NoMatch, FieldAbsent, FieldBack, FieldPast, NotBytes}
use Rattle.answers.specs.Refusals.{code_of, number_of}

-- all of them, each at its number; what stands at 0 is never asked
abbrev pub refusals : List Refusal
refusals = NotBytes ∷ PatternLong ∷ PatternForm ∷ PatternDeep ∷ PatternBig ∷ NetKind ∷ NetShort ∷ NetField ∷ NetExtra ∷ WorkSmall ∷ Registers ∷ Situations ∷ OutSmall ∷ TableForm ∷ EmptyRead ∷ LineLong ∷ NoMatch ∷ FieldAbsent ∷ FieldBack ∷ FieldPast ∷ NotBytes ∷ []

pub named : (e : Refusal) → get_or refusals (code_of e) NotBytes ≡ e
named PatternLong = refl
named PatternForm = refl
named PatternDeep = refl
named PatternBig = refl
named NetKind = refl
named NetShort = refl
named NetField = refl
named NetExtra = refl
named WorkSmall = refl
named Registers = refl
named Situations = refl
named OutSmall = refl
named TableForm = refl
named EmptyRead = refl
named LineLong = refl
named NoMatch = refl
named FieldAbsent = refl
named FieldBack = refl
named FieldPast = refl
named NotBytes = refl

-- two refusals of one number are one
pub code_one : (e f : Refusal) → code_of e ≡ code_of f → e ≡ f
code_one e f h = sym (named e) ∙ (ap (λ (n : ℕ). get_or refusals n NotBytes) h ∙ named f)

pub code_above_ok : (e : Refusal) → 0 < code_of e
code_above_ok PatternLong = lit< tt
code_above_ok PatternForm = lit< tt
code_above_ok PatternDeep = lit< tt
code_above_ok PatternBig = lit< tt
code_above_ok NetKind = lit< tt
code_above_ok NetShort = lit< tt
code_above_ok NetField = lit< tt
code_above_ok NetExtra = lit< tt
code_above_ok WorkSmall = lit< tt
code_above_ok Registers = lit< tt
code_above_ok Situations = lit< tt
code_above_ok OutSmall = lit< tt
code_above_ok TableForm = lit< tt
code_above_ok EmptyRead = lit< tt
code_above_ok LineLong = lit< tt
code_above_ok NoMatch = lit< tt
code_above_ok FieldAbsent = lit< tt
code_above_ok FieldBack = lit< tt
code_above_ok FieldPast = lit< tt
code_above_ok NotBytes = lit< tt

-- two answers that hand nothing over, of one number, are one
pub number_one : (a b : Result (Unit {0}) Refusal) → number_of a ≡ number_of b → a ≡ b
number_one (Ok x) (Ok y) h = refl
number_one (Ok x) (Err f) h = absurd (omega (arith, h, code_above_ok f))
number_one (Err e) (Ok y) h = absurd (omega (arith, h, code_above_ok e))
number_one (Err e) (Err f) h = ap Err (code_one e f h)
