-- Document 01, "Paths and their order": "A path starts at record 0, place 0, all tags -1." Which paths are admissible, which of two is the earlier, and the
-- answer of a line. Nothing here computes a table or a situation. Assumes nothing.
use Rattle.std.specs.Prelude.{◌≡◌, ◌⊎◌, ℕ, ◌+◌, ◌≤◌, set}
use mathlib.Core.List.{List, [], ◌∷◌, Memᴰ}
use Rattle.std.proofs.Math.Option.{Option, none, some}
use Rattle.net.specs.Rec.{range, mask, fork, tag, end, Net, rec, bit}

-- ---- paths

-- "RANGE and MASK consume one allowed byte. FORK goes either way. TAG stores the place". What a path does at one record: it consumes a byte; or it turns,
-- with no byte.
pub data Turn : Type 0 where
  first second : Turn
  mark : (t : ℕ) → Turn

pub data Move : Type 0 where
  eat : (b : ℕ) → Move
  turn : Turn → Move

-- The moves that each record allows, and the record that the path then stands on.
pub data Step (A : Net) (r : ℕ) : Move → ℕ → Type 0 where
  by_range : {lo hi next b : ℕ} → rec A r ≡ range lo hi next → lo ≤ b → b ≤ hi → Step A r (eat b) next
  by_mask : {bits : List ℕ} {next b : ℕ} → rec A r ≡ mask bits next → bit bits b ≡ 1 → Step A r (eat b) next
  by_first : {x y : ℕ} → rec A r ≡ fork x y → Step A r (turn first) x
  by_second : {x y : ℕ} → rec A r ≡ fork x y → Step A r (turn second) y
  by_tag : {t next : ℕ} → rec A r ≡ tag t next → Step A r (turn (mark t)) next

-- A path from record r is its moves, one after the other; it stands on the record after the last.
pub data Way (A : Net) : ℕ → List Move → ℕ → Type 0 where
  stay : {r : ℕ} → Way A r [] r
  go : {r : ℕ} {m : Move} {next : ℕ} {ms : List Move} {last : ℕ} → Step A r m next → Way A next ms last → Way A r (m ∷ ms) last

-- the bytes that it consumes
abbrev pub eaten : List Move → List ℕ
eaten [] = []
eaten (eat b ∷ ms) = b ∷ eaten ms
eaten (turn q ∷ ms) = eaten ms

-- The records that a path has stood on since its last byte, after a move from r.
abbrev pub since : Move → ℕ → List ℕ → List ℕ
since (eat b) r seen = []
since (turn q) r seen = r ∷ seen

-- "A path is admissible if between two consumed bytes (also before the first and after the last) it stands on no record twice."
-- `seen` are those that it stood on since the last byte, before r.
abbrev pub Admissible : {A : Net} {r : ℕ} {ms : List Move} {last : ℕ} → List ℕ → Way A r ms last → Type 0
Admissible {r = r} seen stay = ¬ Memᴰ r seen
Admissible {r = r} seen (go {m = m} s p) = (¬ Memᴰ r seen) × Admissible (since m r seen) p

-- "the earlier takes "first" at the fork where they part"
pub data Earlier : List Move → List Move → Type 0 where
  parts : {p q : List Move} → Earlier (turn first ∷ p) (turn second ∷ q)
  later : {m : Move} {p q : List Move} → Earlier p q → Earlier (m ∷ p) (m ∷ q)

-- ---- places and tags

-- "the place, the number of bytes consumed so far; a later use overwrites". What a path has in hand: the place, and for each of the eight tags the place
-- stored last; none is document 01's -1.
pub record Held : Type 0 where
  pub place : ℕ
  pub tags : List (Option ℕ)

abbrev pub empty_handed : Held
empty_handed = record { place = 0; tags = none ∷ none ∷ none ∷ none ∷ none ∷ none ∷ none ∷ none ∷ [] }

abbrev pub act : Move → Held → Held
act (eat b) h = record { place = h.place + 1; tags = h.tags }
act (turn first) h = h
act (turn second) h = h
act (turn (mark t)) h = record { place = h.place; tags = set h.tags t (some h.place) }

abbrev pub held : List Move → Held → Held
held [] h = h
held (m ∷ ms) h = held ms (act m h)

-- ---- the answer

-- "A path accepts when it stands on END with the whole record consumed": any path, admissible or not.
pub record Accepted (A : Net) (w : List ℕ) (answer : ℕ) : Type 0 where
  pub moves : List Move
  pub last : ℕ
  pub path : Way A 0 moves last
  pub whole : eaten moves ≡ w
  pub at_end : rec A last ≡ end answer

-- An admissible one, of the moves ms.
pub record Accepts (A : Net) (w : List ℕ) (ms : List Move) (answer : ℕ) : Type 0 where
  pub last : ℕ
  pub path : Way A 0 ms last
  pub admissible : Admissible [] path
  pub whole : eaten ms ≡ w
  pub at_end : rec A last ≡ end answer

-- "Of two admissible accepting paths, the earlier [..]. That path's END and tags are the answer." The answer of the line w.
pub record Answer (A : Net) (w : List ℕ) (answer : ℕ) (tags : List (Option ℕ)) : Type 0 where
  pub moves : List Move
  pub accepts : Accepts A w moves answer
  pub earliest : (ms : List Move) (e : ℕ) → Accepts A w ms e → (ms ≡ moves) ⊎ Earlier moves ms
  pub stored : (held moves empty_handed).tags ≡ tags
