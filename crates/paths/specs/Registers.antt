-- Document 01, "Situations": "Registers are numbered from 0 by first appearance, records in list order and tags ascending within a record." The list after
-- some input, byte by byte, with a register number for each place that is held; the next one, and a run over a bank. Assumes nothing.
use Rattle.std.specs.Prelude.{Bool, true, false, ◌&&◌, cond, ℕ, suc, eqb, ltb, length, get_or, set}
use mathlib.Core.List.{List, [], ◌∷◌, ◌++◌, map, foldl}
use Rattle.std.proofs.Math.Option.{Option, none, some}
use Rattle.net.specs.Rec.{Rec, range, mask, fork, tag, end, Net, rec}
use Rattle.paths.specs.Ways.{first, second, mark, Move, eat, turn}
use Rattle.ground.specs.Lists.{each}
use Rattle.paths.specs.Search.{Thread}
use Rattle.paths.specs.Situation.{on_byte, close}

abbrev pub Tags : Type 0
Tags = List (Option ℕ)

abbrev pub no_tags : Tags
no_tags = none ∷ none ∷ none ∷ none ∷ none ∷ none ∷ none ∷ none ∷ []

-- what a move does to the tags, where the place is `now`
abbrev pub tagged : ℕ → Move → Tags → Tags
tagged now (eat b) τ = τ
tagged now (turn first) τ = τ
tagged now (turn second) τ = τ
tagged now (turn (mark t)) τ = set τ t (some now)

-- RANGE, MASK and END only
abbrev pub stands : Rec → Bool
stands (range lo hi n) = true
stands (mask bits n) = true
stands (fork x y) = false
stands (tag t n) = false
stands (end a) = true

abbrev pub standing : {X : Type 0} → Net → List (Thread X) → List (Thread X)
standing A [] = []
standing A (s ∷ l) = cond (stands (rec A s.on)) (s ∷ standing A l) (standing A l)

-- the list after one byte more, where the place is then `now`, from the list before
unfoldable pub step : Net → ℕ → ℕ → List (Thread Tags) → List (Thread Tags)
step A now b l = standing A (close (tagged now) A (each (on_byte (tagged now) A b) l))

unfoldable pub begin : Net → List (Thread Tags)
begin A = standing A (close (tagged 0) A (record { on = 0; had = no_tags } ∷ []))

-- the records, in order, that admissible paths stand on after the bytes, with the places that they hold
unfoldable pub after : Net → ℕ → List (Thread Tags) → List ℕ → List (Thread Tags)
after A place l [] = l
after A place l (b ∷ w) = after A (suc place) (step A (suc place) b l) w

-- ---- register numbers: a register is a tag and a place held for it; they are numbered by first appearance, records in list order and tags ascending

abbrev pub Key : Type 0
Key = ℕ × ℕ

abbrev pub is : Key → Key → Bool
is k j = eqb k.0 j.0 && eqb k.1 j.1

abbrev pub holds : ℕ → Tags → List Key
holds t [] = []
holds t (none ∷ τ) = holds (suc t) τ
holds t (some p ∷ τ) = (t, p) ∷ holds (suc t) τ

abbrev pub held_by : List (Thread Tags) → List Key
held_by l = each (λ s. holds 0 s.had) l

abbrev pub index : Key → List Key → ℕ
index k [] = 0
index k (j ∷ js) = cond (is k j) 0 (suc (index k js))

abbrev pub known : Key → List Key → Bool
known k [] = false
known k (j ∷ js) = cond (is k j) true (known k js)

abbrev pub note : List Key → Key → List Key
note ks k = cond (known k ks) ks (ks ++ (k ∷ []))

-- the registers of a list
unfoldable pub registers : List (Thread Tags) → List Key
registers l = foldl note [] (held_by l)

-- other numbers for the places, each by its tag
abbrev pub renamed : (ℕ → ℕ → ℕ) → ℕ → Tags → Tags
renamed σ t [] = []
renamed σ t (none ∷ τ) = none ∷ renamed σ (suc t) τ
renamed σ t (some p ∷ τ) = some (σ t p) ∷ renamed σ (suc t) τ

abbrev pub rename : (ℕ → ℕ → ℕ) → List (Thread Tags) → List (Thread Tags)
rename σ [] = []
rename σ (s ∷ l) = record { on = s.on; had = renamed σ 0 s.had } ∷ rename σ l

-- the list with register numbers for places
unfoldable pub number : List (Thread Tags) → List (Thread Tags)
number l = rename (λ t p. index (t, p) (registers l)) l

-- The situation after some input, computed byte by byte; `Meaning.meant` defines it with no search (`Laws.situation_right`).
unfoldable pub situation : Net → List ℕ → List (Thread Tags)
situation A w = number (after A 0 (begin A) w)

-- The next situation, from the last one alone: the place of the new byte is a register that no other has.
unfoldable pub next : Net → ℕ → List (Thread Tags) → List (Thread Tags)
next A b s = number (step A (length (registers s)) b s)

-- ---- a run: the situation, and a bank with the place that each of its registers holds

-- For each register of the next situation where its place comes from: an old register (a MOVE), or, past these, the byte's place (a SET).
unfoldable pub origins : Net → ℕ → List (Thread Tags) → List ℕ
origins A b s = map (λ k. k.1) (registers (step A (length (registers s)) b s))

-- "One list reads all its sources before it writes."
abbrev pub fetch : ℕ → ℕ → List ℕ → ℕ → ℕ
fetch now count bank i = cond (ltb i count) (get_or bank i 0) now

abbrev pub moved : ℕ → ℕ → List ℕ → List ℕ → List ℕ
moved now count bank os = map (fetch now count bank) os

pub record State : Type 0 where
  pub sit : List (Thread Tags)
  pub bank : List ℕ

unfoldable pub feed : Net → ℕ → ℕ → State → State
feed A now b s = record { sit = next A b s.sit; bank = moved now (length (registers s.sit)) s.bank (origins A b s.sit) }

unfoldable pub run : Net → ℕ → State → List ℕ → State
run A place s [] = s
run A place s (b ∷ w) = run A (suc place) (feed A (suc place) b s) w

unfoldable pub ready : Net → State
ready A = record { sit = number (begin A); bank = map (λ k. k.1) (registers (begin A)) }

-- the places that the situation's registers hold
abbrev pub shown : State → List (Thread Tags)
shown s = rename (λ t i. get_or s.bank i 0) s.sit
