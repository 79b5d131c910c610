-- The answer of the pattern maker as a record, from its result. Assumes nothing: these are definitions.
use Rattle.std.specs.Prelude.{ℕ, Result, Ok, Err}
use Rattle.answers.specs.Answers.{OK}
use Rattle.answers.specs.Refusals as refusals
use Rattle.answers.specs.declared.Refusal.{Refusal}
use Rattle.answers.specs.declared.Refusal.TheVariants.{PatternLong, PatternForm, PatternDeep, PatternBig, OutSmall}
use Rattle.pattern.specs.declared.Fault.{Fault}
use Rattle.pattern.specs.declared.Fault.TheVariants.{Long, Form, Deep, Big, Small}

-- its number, the place of a fault, and how many bytes were written
pub record Made : Type 0 where
  pub code : ℕ
  pub place : ℕ
  pub length : ℕ

-- a fault's refusal, its number, and its place
abbrev pub refusal_of : Fault → Refusal
refusal_of Long = PatternLong
refusal_of (Form q) = PatternForm
refusal_of (Deep q) = PatternDeep
refusal_of Big = PatternBig
refusal_of Small = OutSmall

abbrev pub code_of : Fault → ℕ
code_of f = refusals.code_of (refusal_of f)

abbrev pub place_of : Fault → ℕ
place_of Long = 0
place_of (Form q) = q
place_of (Deep q) = q
place_of Big = 0
place_of Small = 0

abbrev pub made_of : Result ℕ Fault → Made
made_of (Ok n) = record { code = OK; place = 0; length = n }
made_of (Err e) = record { code = code_of e; place = place_of e; length = 0 }
