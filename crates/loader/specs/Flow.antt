-- Which registers may be empty in which situation: a set of registers is a number, register r its bit r. The inner functions'
-- contracts speak of these; the promise of `load` is `Judged` alone. Assumes nothing: these are definitions.
use Rattle.std.specs.Prelude.{◌≡◌, Bool, true, false, List, [], ◌∷◌, ◌⊎◌, ℕ, suc, ◌+◌, ◌-◌, ◌^◌, ◌<◌, ◌≤◌, length, get_or, take, drop}
use Rattle.std.specs.Int.Bits.{bit_or, bit_xor}
use Rattle.std.specs.Int.Count.{ones}
use Rattle.ground.specs.Bits.{bit_of}
use Rattle.card.specs.Table.{Cmd, move, put, Row, Table, Formed}
use Rattle.card.specs.Run.{In, sit, Line, Stuck}
use Rattle.card.specs.Decode.{cmds_at, after_at, rows_at, table_at, places_of}

-- ---- what is asked: does some line get stuck?

abbrev pub EmptyRead : Table → Type 0
EmptyRead T = (w : List ℕ) × (Line w × Stuck T w)

-- what a yes or a no says
abbrev pub Says : Type 0 → Bool → Type 0
Says P true = P
Says P false = P → ⊥

-- ---- a list of commands: the registers that it writes and those that it reads

-- a set and the targets of a list
unfoldable pub written : ℕ → List Cmd → ℕ
written k [] = k
written k (move t f ∷ l) = written (bit_or k (2 ^ t)) l
written k (put t ∷ l) = written (bit_or k (2 ^ t)) l

-- a set and the sources of a list
unfoldable pub asked : ℕ → List Cmd → ℕ
asked k [] = k
asked k (move t f ∷ l) = asked (bit_or k (2 ^ f)) l
asked k (put t ∷ l) = asked k l

-- the commands at a place: both sets, and the place after
pub record Listed (s : List ℕ) (at w r e : ℕ) : Type 0 where
  pub writes : w ≡ written 0 (cmds_at s at)
  pub reads : r ≡ asked 0 (cmds_at s at)
  pub end : e ≡ after_at s at
  pub onward : at ≤ e

-- r is a source of a list
abbrev pub Reads : ℕ → List Cmd → Type 0
Reads r [] = ⊥
Reads r (move t f ∷ l) = (f ≡ r) ⊎ Reads r l
Reads r (put t ∷ l) = Reads r l

-- ---- the sets of all situations

-- what flows along a row: what may be empty before it and is not written by it
unfoldable pub flow : ℕ → ℕ → ℕ → ℕ
flow old x k = bit_or old (bit_xor (bit_or x k) k)

-- the registers that the start leaves empty
unfoldable pub start_set : Table → ℕ
start_set T = flow 0 (2 ^ 64 - 1) (written 0 T.start)

-- a way of at most k rows from situation 0 to situation q, none of which writes r, where r is in the start set
pub data Way (T : Table) (start r : ℕ) : ℕ → ℕ → Type 0 where
  here : (k : ℕ) → bit_of start r ≡ 1 → Way T start r k 0
  go : (k q : ℕ) (x : Row) → In x (sit T q).rows → Way T start r k q → bit_of (written 0 x.cmds) r ≡ 0 → Way T start r (suc k) x.next

-- the bits of all situations together
unfoldable pub total : List ℕ → ℕ
total [] = 0
total (x ∷ l) = ones x + total l

-- every register of the sets has a way
abbrev pub Grounded : Table → (start k : ℕ) → List ℕ → Type 0
Grounded T start k may = (q r : ℕ) → bit_of (get_or may q 0) r ≡ 1 → Way T start r k q

-- what a set has and a row does not write is in the set of the situation that the row leads to
abbrev pub Spread : ℕ → List ℕ → Row → Type 0
Spread x may row = (r : ℕ) → bit_of x r ≡ 1 → bit_of (written 0 row.cmds) r ≡ 0 → bit_of (get_or may row.next 0) r ≡ 1

-- no row adds a register
abbrev pub Closed : Table → List ℕ → Type 0
Closed T may = (q : ℕ) (x : Row) → In x (sit T q).rows → Spread (get_or may q 0) may x

-- a set for each of 96 situations, in 64 bits
pub record Words (may : List ℕ) : Type 0 where
  pub long : length may ≡ 96
  pub small : (q : ℕ) → get_or may q 0 < 2 ^ 64

-- all that one set has
abbrev pub Sub : ℕ → ℕ → Type 0
Sub x y = (r : ℕ) → bit_of x r ≡ 1 → bit_of y r ≡ 1

-- what rows do to the sets: they keep what they have, and what they gain has a way
pub record Pass (T : Table) (may may' : List ℕ) : Type 0 where
  pub words : Words may'
  pub keeps : (q : ℕ) → Sub (get_or may q 0) (get_or may' q 0)
  pub ways : (start : ℕ) → Grounded T start (total may) may → Grounded T start (total may') may'

-- the set of situation q flowed along the rows at a place
pub record Flowed (s : List ℕ) (at q : ℕ) (may may' : List ℕ) : Type 0 where
  pub pass : Pass (table_at s) may may'
  pub spread : (x : Row) → In x (rows_at s at) → Spread (get_or may q 0) may' x

-- the sets so far, and for each situation what its rows were last given
pub record Round (T : Table) (may seen : List ℕ) : Type 0 where
  pub words : Words may
  pub seen_words : Words seen
  pub first : Sub (start_set T) (get_or may 0 0)
  pub ways : Grounded T (start_set T) (total may) may
  pub had : (q : ℕ) → Sub (get_or seen q 0) (get_or may q 0)
  pub sent : (q : ℕ) (x : Row) → In x (sit T q).rows → Spread (get_or seen q 0) may x

-- a round over all situations: where nothing changed, no row adds a register; else more was given
pub record Sweep (T : Table) (may seen seen₀ : List ℕ) (changed : Bool) : Type 0 where
  pub round : Round T may seen
  pub still : changed ≡ false → Closed T may
  pub kept : total seen₀ ≤ total seen
  pub grows : changed ≡ true → total seen₀ < total seen

-- the least sets that the start set and the rows allow: each register in them has a way of at most 6144 rows, and none is missing
pub record Settled (T : Table) (may : List ℕ) : Type 0 where
  pub first : Sub (start_set T) (get_or may 0 0)
  pub closed : Closed T may
  pub grounded : Grounded T (start_set T) 6144 may

-- a situation reads a register of its set: a row's MOVE, or a field
pub data Loud (T : Table) (may : List ℕ) : Type 0 where
  row : (q r : ℕ) (x : Row) → In x (sit T q).rows → bit_of (get_or may q 0) r ≡ 1 → Reads r x.cmds → Loud T may
  end : (q r : ℕ) → In r (sit T q).fields → (r ≡ 255 → ⊥) → bit_of (get_or may q 0) r ≡ 1 → Loud T may

-- ---- what the functions that walk the rows are told

-- the rows at a place are those of situation q, and lead to situations below 96
pub record RowsOf (s : List ℕ) (at q : ℕ) : Type 0 where
  pub here : rows_at s at ≡ (sit (table_at s) q).rows
  pub inside : q < 96
  pub leads : (x : Row) → In x (rows_at s at) → x.next < 96

-- the form is right, and the places are those of the situations
pub record Ready (s places : List ℕ) : Type 0 where
  pub formed : Formed (table_at s)
  pub placed : (q : ℕ) → q < get_or s 4 0 → get_or places q 0 ≡ get_or (places_of s) q 0

-- some row at a place reads a register of a set; some field does
abbrev pub RowAsks : List ℕ → ℕ → ℕ → Type 0
RowAsks s at m = (x : Row) × (In x (rows_at s at) × ((r : ℕ) × ((bit_of m r ≡ 1) × Reads r x.cmds)))

abbrev pub FieldAsks : List ℕ → ℕ → ℕ → Type 0
FieldAsks s at m = (r : ℕ) × (In r (take 8 (drop at s)) × ((r ≡ 255 → ⊥) × (bit_of m r ≡ 1)))
