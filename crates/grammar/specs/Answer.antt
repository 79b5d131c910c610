-- Document 01, "Pattern text": what the pattern maker answers of a text, in the words of the grammar alone; no reader stands in it.
-- Assumes nothing: these are definitions.
use Rattle.std.specs.Prelude.{ℕ, ◌≤◌, ◌<◌, List, length}
use Rattle.answers.specs.Answers.{PATTERN_LONG, PATTERN_FORM, PATTERN_DEEP, PATTERN_BIG, OUT_SMALL}
use Rattle.pattern.specs.Pat.{Pat, size}
use Rattle.pattern.specs.Reader.{alts}
use Rattle.pattern.specs.Grammar.{Spells, FormAt, DeepAt}
use Rattle.pattern.specs.Maker.{Given, refuse, written, file}

-- "16 open parentheses": no group of the text is the 17th open one
abbrev pub Shallow : List ℕ → Type 0
Shallow s = (k : ℕ) → DeepAt s k → ⊥

-- the text is of at most 255 bytes and spells the pattern p within the sixteen groups
pub record Legible (s : List ℕ) (p : Pat) : Type 0 where
  pub short : length s ≤ 255
  pub spells : Spells alts s p
  pub shallow : Shallow s

-- a place of PATTERN_FORM or of PATTERN_DEEP, with that answer
pub data Fault (s : List ℕ) : ℕ → ℕ → Type 0 where
  form_fault : {q : ℕ} → FormAt s q → Fault s PATTERN_FORM q
  deep_fault : {q : ℕ} → DeepAt s q → Fault s PATTERN_DEEP q

-- "Checks: PATTERN_LONG; then the leftmost of PATTERN_FORM and PATTERN_DEEP; then PATTERN_BIG; then OUT_SMALL."
-- A text s and an output `out` are answered so, and the output is so then.
pub data Answered (s out : List ℕ) : Given → Type 0 where
  long : 255 < length s → Answered s out (refuse PATTERN_LONG 0 out)
  form : {q : ℕ} → length s ≤ 255 → FormAt s q → ((k : ℕ) → DeepAt s k → q < k) → Answered s out (refuse PATTERN_FORM q out)
  deep : {q : ℕ} → length s ≤ 255 → DeepAt s q → ((k : ℕ) → DeepAt s k → q ≤ k) → ((k : ℕ) → FormAt s k → q < k) → Answered s out (refuse PATTERN_DEEP q out)
  big : {p : Pat} → Legible s p → 64 ≤ size p → Answered s out (refuse PATTERN_BIG 0 out)
  small : {p : Pat} → Legible s p → size p < 64 → length out < length (file p) → Answered s out (refuse OUT_SMALL 0 out)
  made : {p : Pat} → Legible s p → size p < 64 → length (file p) ≤ length out → Answered s out (written (file p) out)
