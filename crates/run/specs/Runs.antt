-- What a run answers: document 01, "run 13, 14, 15, 16". Assumes nothing: these are definitions.
use Rattle.std.specs.Prelude.{Result, Ok, Err, ◌≡◌, List, ℕ, ◌<◌, ◌≤◌, length}
use Rattle.card.specs.Table.{Table, bytes_of, Formed}
use Rattle.card.specs.Run.{line_max, Told, refused, tells}
use Rattle.card.specs.Judged.{Judged}
use Rattle.run.specs.declared.Match.{Match}
use Rattle.answers.specs.Refusals.{code_of}
use Rattle.answers.specs.declared.Refusal.{Refusal}

-- what a result says
abbrev pub told_of : Result Match Refusal → Told
told_of (Ok m) = record { code = 0; answer = m.answer; places = m.places }
told_of (Err e) = refused (code_of e)

-- a table that is not taken; a line that is too long; what a taken table tells of the line, NO_MATCH among it
pub data Runs (s w : List ℕ) : Told → Type 0 where
  unfit : (c : ℕ) → Judged s c → (c ≡ 0 → ⊥) → Runs s w (refused c)
  long : Judged s 0 → line_max < length w → Runs s w (refused 15)
  fit : Judged s 0 → length w ≤ line_max → (T : Table) → Formed T → s ≡ bytes_of T → Runs s w (tells T w)
