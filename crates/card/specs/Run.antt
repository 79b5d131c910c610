-- Document 01, "Table file": a run of a table over a line, and what it is to be stuck. Assumes nothing: these are definitions.
use Rattle.std.specs.Prelude.{◌≡◌, List, [], ◌∷◌, map, ◌⊎◌, ℕ, suc, ◌≤◌, length, get_or, set, replicate, ℤ, pos, negsuc, leb, eqb}
use Rattle.ground.specs.Pick.{pick}
use Rattle.ground.specs.Lists.{Bytes}
use Rattle.card.specs.Table.{Cmd, move, put, Row, Sit, Table}

-- the longest line
abbrev pub line_max : ℕ
line_max = 32767

-- ---- the bank: "All registers start empty."

abbrev pub Bank : Type 0
Bank = List ℤ

-- an empty register, or an absent tag, is -1
abbrev pub absent : ℤ
absent = negsuc 0

abbrev pub Empty : ℤ → Type 0
Empty (pos n) = ⊥
Empty (negsuc n) = Unit {0}

abbrev pub empties : Bank
empties = replicate 64 absent

abbrev pub reg : Bank → ℕ → ℤ
reg bank r = get_or bank r (pos 0)

-- ---- commands: "SET stores the place after the byte of its row (0 at the start); MOVE copies. One list reads all its sources before it writes."

pub data Out : Type 0 where
  ok : Bank → Out
  stuck : Out

-- "Reading an empty register is being stuck."
abbrev pub moved : ℤ → Out → Out
moved (pos n) o = o
moved (negsuc n) o = stuck

-- one list at a place: sources are read from the old bank
unfoldable pub apply : List Cmd → (place : ℕ) → (old cur : Bank) → Out
apply [] p old cur = ok cur
apply (move t f ∷ l) p old cur = moved (reg old f) (apply l p old (set cur t (reg old f)))
apply (put t ∷ l) p old cur = apply l p old (set cur t (pos p))

-- ---- the way through the situations

abbrev pub no_row : Row
no_row = record { lo = 0; hi = 255; next = 0; cmds = [] }

abbrev pub no_sit : Sit
no_sit = record { answer = 255; fields = []; rows = [] }

-- the row of a byte: rows run upward without gap, so it is the first that ends at or after the byte
unfoldable pub row_for : List Row → ℕ → Row
row_for [] b = no_row
row_for (r ∷ l) b = pick (leb b r.hi) r (row_for l b)

abbrev pub sit : Table → ℕ → Sit
sit T q = get_or T.sits q no_sit

abbrev pub row_in : Table → ℕ → ℕ → Row
row_in T q b = row_for (sit T q).rows b

-- in a situation with a bank, or stuck on the way
pub data State : Type 0 where
  at : (q : ℕ) → Bank → State
  lost : State

abbrev pub arrive : ℕ → Out → State
arrive q (ok bank) = at q bank
arrive q stuck = lost

unfoldable pub step : Table → State → (place b : ℕ) → State
step T (at q bank) p b = arrive (row_in T q b).next (apply (row_in T q b).cmds p bank bank)
step T lost p b = lost

-- the bytes of a line that follow the place p
unfoldable pub run : Table → State → (p : ℕ) → List ℕ → State
run T s p [] = s
run T s p (b ∷ w) = run T (step T s (suc p) b) (suc p) w

unfoldable pub begun : Table → State
begun T = arrive 0 (apply T.start 0 empties empties)

abbrev pub over : Table → List ℕ → State
over T w = run T (begun T) 0 w

-- ---- stuck

pub data In {A : Type 0} (a : A) : List A → Type 0 where
  hd : {l : List A} → In a (a ∷ l)
  tl : {b : A} {l : List A} → In a l → In a (b ∷ l)

-- "At the end the situation's answer and register fields give the result": a field that is not absent reads its register
unfoldable pub EndRead : Table → State → Type 0
EndRead T (at q bank) = (r : ℕ) × (In r (sit T q).fields × ((r ≡ 255 → ⊥) × Empty (reg bank r)))
EndRead T lost = ⊥

-- a line gets stuck: on the way, or at its end
abbrev pub Stuck : Table → List ℕ → Type 0
Stuck T w = (over T w ≡ lost) ⊎ EndRead T (over T w)

-- a line as a run takes it
abbrev pub Line : List ℕ → Type 0
Line w = Bytes w × (length w ≤ line_max)

-- ---- the result: the code, the answer and the eight places

pub record Told : Type 0 where
  pub code : ℕ
  pub answer : ℕ
  pub places : List ℤ

-- "Unless OK, .. the run's answer is 255 and its eight positions are -1."
abbrev pub refused : ℕ → Told
refused code = record { code = code; answer = 255; places = replicate 8 absent }

abbrev pub place_at : Bank → ℕ → ℤ
place_at bank r = pick (eqb r 255) absent (reg bank r)

-- "255 gives NO_MATCH."
abbrev pub told : Sit → Bank → Told
told s bank = pick (eqb s.answer 255) (refused 16) (record { code = 0; answer = s.answer; places = map (place_at bank) s.fields })

-- what a table that does not get stuck tells of a line
abbrev pub ends : Table → State → Told
ends T (at q bank) = told (sit T q) bank
ends T lost = refused 14

abbrev pub tells : Table → List ℕ → Told
tells T w = ends T (over T w)
