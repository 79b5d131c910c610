-- Document 01, "Table file": "The builder's table is one exact byte string: registers is the largest need of any situation, the answer is the first
-- END in the list, commands go from one numbering to the next, a MOVE onto itself is left out, neighbouring rows with equal next and commands are
-- joined." Assumes nothing: these are definitions.
use Rattle.std.specs.Prelude.{Bool, false, ◌&&◌, cond, List, [], ◌∷◌, map, ℕ, suc, max, eqb, length}
use Rattle.std.proofs.Math.Option.{Option, none, some}
use Rattle.net.specs.Rec.{Net}
use Rattle.paths.specs.Search.{Thread}
use Rattle.paths.specs.Situation.{first_end}
use Rattle.paths.specs.Registers.{Tags, registers, situation, next, origins}
use Rattle.paths.specs.Numbering.{numbered}
use Rattle.paths.specs.Equal.{same_list, same_situation}
use Rattle.card.specs.Table.{Cmd, move, put, Row, Sit, Table}
use Rattle.explore.specs.Lists.{span, position}

abbrev pub State : Type 0
State = List (Thread Tags)

-- "Situation 0 is that of the empty input; the others are numbered by the first input that reaches them, shorter first, then by byte values."
-- Where there are at most 96, each has an input of at most 96 bytes.
unfoldable pub states : Net → List State
states A = numbered same_situation (span 0 256) (situation A) 96

-- how many registers a situation needs, and the most that any of them needs
abbrev pub need : State → ℕ
need s = length (registers s)

abbrev pub most : List State → ℕ
most [] = 0
most (s ∷ l) = max (need s) (most l)

-- ---- commands

-- For the registers from k on, where the place of each comes from: the new place is `now`, any other number is an old register.
-- "a MOVE onto itself is left out"
unfoldable pub commands : (now k : ℕ) → List ℕ → List Cmd
commands now k [] = []
commands now k (o ∷ os) = cond (eqb o now) (put k ∷ commands now (suc k) os) (cond (eqb o k) (commands now (suc k) os) (move k o ∷ commands now (suc k) os))

-- ---- rows

-- the row of one byte; S are all situations
abbrev pub byte_row : Net → List State → State → ℕ → Row
byte_row A S s b = record { lo = b; hi = b; next = position same_situation (next A b s) S; cmds = commands (need s) 0 (origins A b s) }

abbrev pub same_cmd : Cmd → Cmd → Bool
same_cmd (move a b) (move c d) = eqb a c && eqb b d
same_cmd (move a b) (put c) = false
same_cmd (put a) (move c d) = false
same_cmd (put a) (put c) = eqb a c

-- equal next and commands
abbrev pub alike : Row → Row → Bool
alike p q = eqb p.next q.next && same_list same_cmd p.cmds q.cmds

abbrev pub both : Row → Row → Row
both p q = record { lo = p.lo; hi = q.hi; next = p.next; cmds = p.cmds }

-- "neighbouring rows with equal next and commands are joined"
abbrev pub ahead : Row → List Row → List Row
ahead p [] = p ∷ []
ahead p (q ∷ l) = cond (alike p q) (both p q ∷ l) (p ∷ q ∷ l)

unfoldable pub joined : List Row → List Row
joined [] = []
joined (p ∷ l) = ahead p (joined l)

-- ---- situations

-- "the answer is the first END in the list"; 255 without one
abbrev pub answer_of : Option (ℕ × Tags) → ℕ
answer_of none = 255
answer_of (some e) = e.0

abbrev pub field_of : Option ℕ → ℕ
field_of none = 255
field_of (some k) = k

-- its registers, "255 for absent"
abbrev pub fields_of : Option (ℕ × Tags) → List ℕ
fields_of none = 255 ∷ 255 ∷ 255 ∷ 255 ∷ 255 ∷ 255 ∷ 255 ∷ 255 ∷ []
fields_of (some e) = map field_of e.1

unfoldable pub sit_of : Net → List State → State → Sit
sit_of A S s = record { answer = answer_of (first_end A s); fields = fields_of (first_end A s); rows = joined (map (byte_row A S s) (span 0 256)) }

-- ---- the table

-- The registers of situation 0 all hold place 0, so the start SETs each of them.
unfoldable pub card_of : (tags : ℕ) → Net → List State → Table
card_of tags A S = record { tags = tags; registers = most S; start = map put (span 0 (need (situation A []))); sits = map (sit_of A S) S }

unfoldable pub table_of : (tags : ℕ) → Net → Table
table_of tags A = card_of tags A (states A)
