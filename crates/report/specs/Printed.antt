-- Document 01, the program `tagline`: from the bytes that it reads to the bytes that it prints. Assumes nothing: these are definitions.
use Rattle.std.specs.Prelude.{◌≡◌, List, [], ◌∷◌, ◌++◌, ℕ, ◌≤◌, length, take, drop, replicate, ltb, eqb}
use Rattle.ground.specs.Pick.{pick}
use Rattle.ground.specs.Lists.{each}
use Rattle.pattern.specs.Maker.{Given, maker}
use Rattle.build.specs.Build.{Done, build_of}
use Rattle.card.specs.Table.{Table}
use Rattle.card.specs.Decode.{table_at}
use Rattle.card.specs.Run.{line_max, Told, tells}
use Rattle.report.specs.Lines.{refused_line, refused_at, table_line, answer_line, over_line}

-- a byte before the lines that follow it: it belongs to the first of them
abbrev pub longer : ℕ → List (List ℕ) → List (List ℕ)
longer b [] = (b ∷ []) ∷ []
longer b (l ∷ more) = (b ∷ l) ∷ more

-- "each ended by byte 10 (a last one that isn't empty may lack it)"
unfoldable pub lines : List ℕ → List (List ℕ)
lines [] = []
lines (b ∷ s) = pick (eqb b 10) ([] ∷ lines s) (longer b (lines s))

-- "the answer and eight positions, or `refused` and the number"
unfoldable pub told_line : Told → List ℕ
told_line t = pick (eqb t.code 0) (answer_line t.answer t.places) (refused_line t.code)

-- "record 0 to 32767 bytes": a longer one is LINE_LONG
unfoldable pub record_line : Table → List ℕ → List ℕ
record_line T w = pick (ltb line_max (length w)) (refused_line 15) (told_line (tells T w))

-- "First line: table bytes, situations, registers. Then per record .." "A refused .. build prints that one line alone"
unfoldable pub built_lines : Done → List (List ℕ) → List ℕ
built_lines d records =
    pick (eqb d.result.code 0)
    (table_line d.result.length d.result.situations d.result.registers
    ++ each (record_line (table_at (take d.result.length d.out))) records)
    (refused_line d.result.code)

-- "A refused pattern .. prints that one line alone, with ` at ` and the place for 2 and 3."
unfoldable pub fault_line : (code place : ℕ) → List ℕ
fault_line code place = pick (eqb code 2) (refused_at code place) (pick (eqb code 3) (refused_at code place) (refused_line code))

-- "work memory at least 65,536 bytes"; "Its table buffer is 65,536 bytes."
unfoldable pub made_lines : Given → List (List ℕ) → List ℕ
made_lines g records =
    pick (eqb g.answer.code 0)
    (built_lines (build_of (take g.answer.length g.after) 65536 (replicate 65536 0)) records)
    (fault_line g.answer.code g.answer.place)

-- no automaton file has more than 2,148 bytes
unfoldable pub pattern_lines : List ℕ → List (List ℕ) → List ℕ
pattern_lines p records = made_lines (maker p (replicate 2148 0)) records

-- "a pattern line, then records"; "Empty input is the empty pattern and no record."
abbrev pub report : List (List ℕ) → List ℕ
report [] = pattern_lines [] []
report (p ∷ records) = pattern_lines p records

-- "reads up to 65,536 bytes"; "Longer input prints `input over 65536` alone."
unfoldable pub printed : List ℕ → List ℕ
printed s = pick (ltb 65536 (length s)) over_line (report (lines s))

-- the first r bytes of a buffer are now all that is printed for an input; "Output beyond the result keeps its bytes"
pub record Prints (s out out' : List ℕ) (r : ℕ) : Type 0 where
  pub text : take r out' ≡ printed s
  pub beyond : drop r out' ≡ drop r out
  pub inside : r ≤ length out'
  pub size : r ≡ length (take r out')
