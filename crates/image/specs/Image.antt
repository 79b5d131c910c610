-- What a mounted image holds: one number for each situation and byte. Assumes nothing: these are definitions.
use Rattle.std.specs.Prelude.{◌≡◌, Bool, true, false, List, [], ◌∷◌, ◌++◌, ℕ, zero, suc, ◌+◌, ◌-◌, ◌*◌, ◌/◌, ◌%◌, ◌<◌, ◌≤◌, length, get_or, leb, ltb, eqb}
use Rattle.ground.specs.Pick.{pick}
use Rattle.card.specs.Table.{Cmd, move, put}
use Rattle.card.specs.Decode.{cmds_at, after_at, row_at, places_of}
use Rattle.card.specs.Judged.{Judged}
use Rattle.card.specs.Decode.{RowItem}
use Rattle.std.specs.Prelude.{Some, None}

-- ---- an entry of 32 bits: the two highest are its kind, bits 8 to 14 the next situation, so that the place of its row is in them as it stands.
-- The 8 below and the 15 between are a number: of kind 0 a register or none, else the list's place in the table or a block's numbers

abbrev pub next_of : ℕ → ℕ
next_of e = e / 256 % 128

abbrev pub kind_of : ℕ → ℕ
kind_of e = e / 1073741824

-- of kind 0: the register of one SET alone; 64 or more is no command
abbrev pub cell_of : ℕ → ℕ
cell_of e = e % 128

abbrev pub list_of : ℕ → ℕ
list_of e = e % 256 + 256 * (e / 32768 % 32768)

-- each number in its own bits
unfoldable pub entry : (next kind at : ℕ) → ℕ
entry next kind at = at % 256 + 256 * (next % 128) + 32768 * (at / 256 % 32768) + 1073741824 * kind

-- ---- a block: SETs of the k registers from a on, then MOVEs of the n registers after them from the registers from s on.
-- Such are the commands where an item comes into a situation's list: its registers are new, and those of all items after it shift as one

abbrev pub puts : (a k : ℕ) → List Cmd
puts a zero = []
puts a (suc k) = put a ∷ puts (suc a) k

abbrev pub moves : (a s n : ℕ) → List Cmd
moves a s zero = []
moves a s (suc n) = move a s ∷ moves (suc a) (suc s) n

abbrev pub block : (a k s n : ℕ) → List Cmd
block a k s n = puts a k ++ moves (a + k) s n

-- no block: it goes past register 63, or its MOVEs lead downward. Upward they are carried out in place, the last first
unfoldable pub misfit : (a k s n : ℕ) → Bool
misfit a k s n = pick (ltb 64 (a + k + n)) true (ltb (a + k) s)

-- its numbers in 23 bits, 6 for a, 5 for k - 1, 6 for n and 6 for s, so that one SET alone is its register; and out of them
unfoldable pub block_bits : (a k s n : ℕ) → ℕ
block_bits a k s n = a + 64 * (k - 1) + 2048 * n + 131072 * s

abbrev pub of_bits : {A : Type 0} → ((a k s n : ℕ) → A) → ℕ → A
of_bits f w = f (w % 64) (w / 64 % 32 + 1) (w / 131072) (w / 2048 % 64)

-- ---- whether a list is a block: it is the one that its first register, its SETs, the first MOVE's source and the other commands name

abbrev pub first_to : List Cmd → ℕ
first_to [] = 0
first_to (move t f ∷ l) = t
first_to (put t ∷ l) = t

abbrev pub first_from : List Cmd → ℕ
first_from [] = 0
first_from (move t f ∷ l) = f
first_from (put t ∷ l) = 0

-- how many SETs a list begins with, and what follows them
abbrev pub leading : List Cmd → ℕ
leading [] = 0
leading (move t f ∷ l) = 0
leading (put t ∷ l) = suc (leading l)

abbrev pub behind : List Cmd → List Cmd
behind [] = []
behind (move t f ∷ l) = move t f ∷ l
behind (put t ∷ l) = behind l

abbrev pub of_list : {A : Type 0} → ((a k s n : ℕ) → A) → List Cmd → A
of_list f l = f (first_to l) (leading l) (first_from (behind l)) (length (behind l))

abbrev pub same_cmd : Cmd → Cmd → Bool
same_cmd (move t f) (move u g) = pick (eqb t u) (eqb f g) false
same_cmd (move t f) (put u) = false
same_cmd (put t) (move u g) = false
same_cmd (put t) (put u) = eqb t u

abbrev pub same : List Cmd → List Cmd → Bool
same [] [] = true
same [] (d ∷ m) = false
same (c ∷ l) [] = false
same (c ∷ l) (d ∷ m) = pick (same_cmd c d) (same l m) false

-- the block of four numbers that fit: a SET at least, no more than 5 bits count, upward and within the bank
unfoldable pub is_that : List Cmd → (a k s n : ℕ) → Bool
is_that l a k s n = pick (eqb k 0) false (pick (ltb 32 k) false (pick (misfit a k s n) false (same l (block a k s n))))

abbrev pub is_block : List Cmd → Bool
is_block l = of_list (is_that l) l

-- ---- the kind of a list: 0 none or one SET alone, 1 a block, 2 SETs only, 3 with a MOVE

abbrev pub all_sets : List Cmd → Bool
all_sets [] = true
all_sets (move t f ∷ l) = false
all_sets (put t ∷ l) = all_sets l

abbrev pub list_kind : List Cmd → ℕ
list_kind [] = 0
list_kind (c ∷ l) = pick (is_block (c ∷ l)) (pick (ltb (of_list block_bits (c ∷ l)) 64) 0 1) (pick (all_sets (c ∷ l)) 2 3)

-- where a list stands; of a block its numbers, so that no list is read; 64 if there is none: an entry that stays in
-- situation q without commands is 256 * q + 64
abbrev pub points : List Cmd → ℕ → ℕ
points [] at = 64
points (c ∷ l) at = pick (is_block (c ∷ l)) (of_list block_bits (c ∷ l)) at

-- ---- the place of a byte's row among the rows at a place: the first that ends at or after the byte; the table's end if there is none

abbrev pub spot_of : RowItem → (end b at later : ℕ) → ℕ
spot_of (Some (lo, hi, next)) end b at later = pick (leb b hi) at later
spot_of None end b at later = end

unfoldable pub spot_n : ℕ → List ℕ → (at b : ℕ) → ℕ
spot_n zero s at b = length s
spot_n (suc n) s at b = spot_of (row_at s at) (length s) b at (spot_n n s (after_at s (at + 4)) b)

unfoldable pub spot_at : List ℕ → (at b : ℕ) → ℕ
spot_at s at b = spot_n (length s) s at b

-- ---- the entry of the row at a place

abbrev pub row_entry : RowItem → List Cmd → ℕ → ℕ
row_entry (Some (lo, hi, next)) l at = entry next (list_kind l) (points l at)
row_entry None l at = 64

unfoldable pub entry_at : List ℕ → ℕ → ℕ
entry_at s at = row_entry (row_at s at) (cmds_at s (at + 4)) (at + 4)

-- ---- the image: 256 entries for each situation, then the place of each situation; what lies past them stays

pub record Imaged (s old new : List ℕ) : Type 0 where
  pub long : length new ≡ length old
  pub entries : (q b : ℕ) → q < get_or s 4 0 → b < 256 → get_or new (256 * q + b) 0 ≡ entry_at s (spot_at s (get_or (places_of s) q 0 + 10) b)
  pub places : (q : ℕ) → q < get_or s 4 0 → get_or new (256 * get_or s 4 0 + q) 0 ≡ get_or (places_of s) q 0
  pub rest : (k : ℕ) → 257 * get_or s 4 0 ≤ k → get_or new k 0 ≡ get_or old k 0

-- what mounting answers: 13 or 14 as the loader judges, 12 where the image has no room for 257 numbers a situation, else 0 with the image written
pub data Mounts (s old : List ℕ) : (new : List ℕ) → ℕ → Type 0 where
  unfit : (c : ℕ) → Judged s c → (c ≡ 0 → ⊥) → Mounts s old old c
  small : Judged s 0 → length old < 257 * get_or s 4 0 → Mounts s old old 12
  written : (new : List ℕ) → Judged s 0 → 257 * get_or s 4 0 ≤ length old → Imaged s old new → Mounts s old new 0
