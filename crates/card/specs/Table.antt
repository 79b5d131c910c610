-- Document 01, "Table file": what a table says, the bytes that it is written as, and when its form is right.
-- Assumes nothing: these are definitions.
use Rattle.std.specs.Prelude.{◌≡◌, List, [], ◌∷◌, ◌++◌, ◌⊎◌, ℕ, suc, ◌≤◌, ◌<◌, length, get_or}
use Rattle.ground.specs.Lists.{each}

-- MOVE (to, from) and SET (to)
pub data Cmd : Type 0 where
  move : (to from : ℕ) → Cmd
  put : (to : ℕ) → Cmd

pub record Row : Type 0 where
  pub lo : ℕ
  pub hi : ℕ
  pub next : ℕ
  pub cmds : List Cmd

-- the answer or 255; eight register numbers, 255 for absent; its rows
pub record Sit : Type 0 where
  pub answer : ℕ
  pub fields : List ℕ
  pub rows : List Row

-- the counts of tags and registers; the SETs for the start; the situations in order
pub record Table : Type 0 where
  pub tags : ℕ
  pub registers : ℕ
  pub start : List Cmd
  pub sits : List Sit

-- ---- "HEAD, SETs for the start, then each situation in order: its SITUATION item, its rows, after each row its commands."

abbrev pub cmd_bytes : Cmd → List ℕ
cmd_bytes (move to from) = 0x24 ∷ to ∷ from ∷ []
cmd_bytes (put to) = 0x25 ∷ to ∷ []

abbrev pub row_bytes : Row → List ℕ
row_bytes r = 0x23 ∷ r.lo ∷ r.hi ∷ r.next ∷ each cmd_bytes r.cmds

abbrev pub sit_bytes : Sit → List ℕ
sit_bytes s = 0x22 ∷ s.answer ∷ (s.fields ++ each row_bytes s.rows)

unfoldable pub bytes_of : Table → List ℕ
bytes_of T = 0x21 ∷ 1 ∷ T.tags ∷ T.registers ∷ length T.sits ∷ (each cmd_bytes T.start ++ each sit_bytes T.sits)

-- ---- the form

-- "Targets rise strictly within one command list. Numbers stay below the HEAD's counts." No target is below `low`.
abbrev pub Rising : (registers low : ℕ) → List Cmd → Type 0
Rising R low [] = Unit {0}
Rising R low (move to from ∷ l) = (low ≤ to) × (to < R) × (from < R) × Rising R (suc to) l
Rising R low (put to ∷ l) = (low ≤ to) × (to < R) × Rising R (suc to) l

abbrev pub Sets : List Cmd → Type 0
Sets [] = Unit {0}
Sets (move to from ∷ l) = ⊥
Sets (put to ∷ l) = Sets l

-- "Rows run upward without gap from 0 to 255." The next row begins at `lo`; none follows 255.
abbrev pub Upward : (registers situations lo : ℕ) → List Row → Type 0
Upward R N lo [] = lo ≡ 256
Upward R N lo (r ∷ l) = (r.lo ≡ lo) × (r.lo ≤ r.hi) × (r.hi ≤ 255) × (r.next < N) × Rising R 0 r.cmds × Upward R N (suc r.hi) l

-- "Fields for tags past the HEAD's count are 255; with answer 255 all eight are."
pub record Field (tags registers answer t field : ℕ) : Type 0 where
  pub register : (field ≡ 255) ⊎ (field < registers)
  pub past : tags ≤ t → field ≡ 255
  pub none : answer ≡ 255 → field ≡ 255

pub record FormedSit (tags registers situations : ℕ) (s : Sit) : Type 0 where
  pub answer : s.answer ≤ 255
  pub eight : length s.fields ≡ 8
  pub fields : (t : ℕ) → t < 8 → Field tags registers s.answer t (get_or s.fields t 0)
  pub rows : Upward registers situations 0 s.rows

abbrev pub FormedSits : (tags registers situations : ℕ) → List Sit → Type 0
FormedSits t R N [] = Unit {0}
FormedSits t R N (s ∷ l) = FormedSit t R N s × FormedSits t R N l

pub record Formed (T : Table) : Type 0 where
  pub tags : T.tags ≤ 8
  pub registers : T.registers ≤ 64
  pub some : 1 ≤ length T.sits
  pub most : length T.sits ≤ 96
  pub sets : Sets T.start
  pub start : Rising T.registers 0 T.start
  pub sits : FormedSits T.tags T.registers (length T.sits) T.sits
