-- What a C caller is told is the call's answer, one by one. Assumes nothing.
use Rattle.std.proofs.Common.{◌≡◌, ℕ, Result, Ok, Err}
use Rattle.std.specs.Result.{result_unwrap_or}
use Rattle.answers.specs.Refusals.{number_of}
use Rattle.answers.specs.declared.Refusal.{Refusal}
use Rattle.card.specs.Run.{absent}
use Rattle.run.specs.Runs.{told_of}
use Rattle.run.specs.declared.Match.{Match}
use Rattle.std.specs.Prelude.{replicate}
use Rattle.export.specs.Results.{told}
use Rattle.export.proofs.tell.Goals as goal

as_told : (r : Result Match Refusal) (m : Match) (n : ℕ) → m ≡ result_unwrap_or r (record { answer = 255; places = replicate 8 absent }) → n ≡ number_of r → told n m.answer m.places ≡ told_of r
as_told (Ok b) m n p q = λ i. record { code = q i; answer = (p i).answer; places = (p i).places }
as_told (Err e) m n p q = λ i. record { code = q i; answer = (p i).answer; places = (p i).places }

pub returns : goal.returns
returns c = as_told _ _ _ c.unwrap_or-m.ensures c.number.ensures
