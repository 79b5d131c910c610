-- Document 01, "Automaton file", from the writing side: the bytes of a net, and the nets that may be written.
-- Assumes nothing: these are definitions.
use Rattle.std.specs.Prelude.{◌≡◌, List, [], ◌∷◌, ◌++◌, ℕ, ◌≤◌, ◌<◌, length}
use Rattle.ground.specs.Lists.{each, Every, Bytes}
use Rattle.net.specs.Rec.{Rec, range, mask, fork, tag, end, Net}

-- "Every item is one byte of kind, then a body whose length the kind fixes."
abbrev pub rec_bytes : Rec → List ℕ
rec_bytes (range lo hi next) = 0x11 ∷ lo ∷ hi ∷ next ∷ []
rec_bytes (mask bits next) = 0x12 ∷ (bits ++ (next ∷ []))
rec_bytes (fork first second) = 0x13 ∷ first ∷ second ∷ []
rec_bytes (tag t next) = 0x14 ∷ t ∷ next ∷ []
rec_bytes (end answer) = 0x15 ∷ answer ∷ []

-- "HEAD, then exactly count records", where the HEAD is the kind 10 hex, "edition 1, tags 0..8, count 1..64"
abbrev pub file_of : (tags : ℕ) → Net → List ℕ
file_of tags A = 0x10 ∷ 1 ∷ tags ∷ length A ∷ each rec_bytes A

-- "A next, first or second is below count; a tag is below tags"; "lo <= hi"; MASK has "32 bytes"; "answer 0..254"
abbrev pub Fits : (tags count : ℕ) → Rec → Type 0
Fits tags count (range lo hi next) = (lo ≤ hi) × (hi ≤ 255) × (next < count)
Fits tags count (mask bits next) = (length bits ≡ 32) × Bytes bits × (next < count)
Fits tags count (fork first second) = (first < count) × (second < count)
Fits tags count (tag t next) = (t < tags) × (next < count)
Fits tags count (end answer) = answer ≤ 254

-- what an automaton file may hold
pub record Legal (tags : ℕ) (A : Net) : Type 0 where
  pub few_tags : tags ≤ 8
  pub some : 1 ≤ length A
  pub few : length A ≤ 64
  pub fits : Every (Fits tags (length A)) A
