-- The promise of the pattern maker: what it answers of a text, and what it leaves in the output. Assumes nothing: these are definitions.
use Rattle.std.specs.Prelude.{ℕ, List, length, ltb, leb}
use Rattle.std.proofs.lemmas.List.Edits.{sets}
use Rattle.ground.specs.Pick.{pick}
use Rattle.answers.specs.Answers.{OK, PATTERN_LONG, PATTERN_FORM, PATTERN_DEEP, PATTERN_BIG, OUT_SMALL}
use Rattle.net.specs.File.{file_of}
use Rattle.pattern.specs.Pat.{Pat, size, automaton}
use Rattle.pattern.specs.Reader.{Res, ok, form, deep, alts, read}
use Rattle.pattern.specs.Measured.{tags}
use Rattle.pattern.specs.Made.{Made}

-- the automaton file of a pattern
unfoldable pub file : Pat → List ℕ
file p = file_of (tags p) (automaton p)

-- the answer, and what the output is then
pub record Given : Type 0 where
  pub answer : Made
  pub after : List ℕ

-- "Output beyond the result keeps its bytes, and all of it on refusal." "A pattern's place is 0 but for 2 and 3. Unless OK, lengths and counts are 0"
abbrev pub refuse : ℕ → ℕ → List ℕ → Given
refuse code place out = record { answer = record { code = code; place = place; length = 0 }; after = out }

abbrev pub written : List ℕ → List ℕ → Given
written f out = record { answer = record { code = OK; place = 0; length = length f }; after = sets out 0 f }

-- "Checks: PATTERN_LONG; then the leftmost of PATTERN_FORM and PATTERN_DEEP; then PATTERN_BIG; then OUT_SMALL."
abbrev pub made : Pat → List ℕ → Given
made p out =
    pick (leb 64 (size p)) (refuse PATTERN_BIG 0 out)
    (pick (ltb (length out) (length (file p))) (refuse OUT_SMALL 0 out) (written (file p) out))

-- a reading that ends before the text does stops at a `)` that closes nothing
abbrev pub judged : Res → List ℕ → List ℕ → Given
judged (form q) s out = refuse PATTERN_FORM q out
judged (deep q) s out = refuse PATTERN_DEEP q out
judged (ok e p) s out = pick (ltb e (length s)) (refuse PATTERN_FORM e out) (made p out)

unfoldable pub maker : List ℕ → List ℕ → Given
maker s out = pick (ltb 255 (length s)) (refuse PATTERN_LONG 0 out) (judged (read s alts 0 0) s out)

abbrev pub given : Made → List ℕ → Given
given m l = record { answer = m; after = l }
