-- Document 01: "The field call hands back that part of the caller's record, empty from its start if refused; a call beside it on
-- the same values gives the number", and its order: "field 17 (either place negative), 18 (from above to), 19 (to above length)".
-- Assumes nothing: these are definitions.
use Rattle.std.specs.Prelude.{ℕ, ◌+◌, ◌-◌, List, [], ◌≡◌, ltb, take, drop, Some, None, Result, Ok, Err}
use Rattle.std.specs.Borrow.{Bor}
use Rattle.ground.specs.Pick.{pick}
use Rattle.ground.specs.Place.{Place}
use Rattle.answers.specs.Answers.{OK}
use Rattle.answers.specs.declared.Refusal.{Refusal}
use Rattle.answers.specs.declared.Refusal.TheVariants.{FieldAbsent, FieldBack, FieldPast}
use Rattle.answers.specs.Refusals as refusals

-- the places where a part begins and ends, or the refusal
abbrev pub Cut : Type 0
Cut = Result (ℕ × ℕ) Refusal

-- what two places cut out of a line of n bytes
unfoldable pub cut_of : ℕ → Place → Place → Cut
cut_of n None to = Err FieldAbsent
cut_of n (Some a) None = Err FieldAbsent
cut_of n (Some a) (Some e) = pick (ltb e a) (Err FieldBack) (pick (ltb n e) (Err FieldPast) (Ok (a, e)))

-- its number
abbrev pub code_of : Cut → ℕ
code_of (Ok p) = OK
code_of (Err k) = refusals.code_of k

-- its bytes
abbrev pub bytes_of : Cut → List ℕ → List ℕ
bytes_of (Ok (a, e)) line = take (e - a) (drop a line)
bytes_of (Err k) line = []

-- the place of the line where they begin
abbrev pub start_of : Cut → ℕ
start_of (Ok (a, e)) = a
start_of (Err k) = 0

-- r is that part of the caller's line: its bytes, and they lie where they lie in the line (a pointer is a block and an offset in it)
pub record Handed (line : Bor (List ℕ)) (c : Cut) (r : Bor (List ℕ)) : Type 0 where
  pub bytes : r.now ≡ bytes_of c line.now
  pub begins : r.ref_ptr ≡ (line.ref_ptr.0, start_of c + line.ref_ptr.1)
