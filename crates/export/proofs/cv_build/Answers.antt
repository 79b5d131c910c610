-- `export::cv_build` meets its contract: its numbers are the call's answer. Assumes nothing.
use Rattle.std.proofs.Common.{◌≡◌, ℕ, Result, Ok, Err}
use Rattle.std.specs.Result.{result_unwrap_or}
use Rattle.answers.specs.Refusals.{number_of}
use Rattle.answers.specs.declared.Refusal.{Refusal}
use Rattle.build.specs.Build.{answered}
use Rattle.build.specs.declared.Built.{Built}
use Rattle.export.specs.Results.{built}
use Rattle.export.proofs.cv_build.Goals as goal

as_answered : (r : Result Built Refusal) (t : Built) (n : ℕ) → t ≡ result_unwrap_or r (record { length = 0; situations = 0; registers = 0 }) → n ≡ number_of r → built n t.length t.situations t.registers ≡ answered r
as_answered (Ok b) t n p q = λ i. record { code = q i; length = (p i).length; situations = (p i).situations; registers = (p i).registers }
as_answered (Err e) t n p q = λ i. record { code = q i; length = (p i).length; situations = (p i).situations; registers = (p i).registers }

pub returns : goal.returns
returns c = rw (as_answered _ _ _ c.unwrap_or-told.ensures c.number.ensures) c.build-b.ensures
