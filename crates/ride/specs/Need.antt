-- What the inner functions of a ride are told and say. Assumes nothing: these are definitions.
use Rattle.std.specs.Prelude.{◌≡◌, Bool, true, false, List, ◌⊎◌, ℕ, ◌+◌, ◌*◌, ◌/◌, ◌%◌, ◌<◌, ◌≤◌, length, get_or, set, take, drop, pos, Option, Some, None, IfSome}
use Rattle.card.specs.Run.{Bank, line_max, Told, refused}
use Rattle.run.specs.Carry.{carry}
use Rattle.image.specs.Image.{next_of}
use Rattle.ride.specs.Ride.{orders, listless, end_at, rides_from}

-- the commands of an entry are carried out unless its numbers name no block or its list stands past the table's end
pub record Obeyed (s : List ℕ) (e place : ℕ) (old new : Bank) (r : Bool) : Type 0 where
  pub done : r ≡ true → (listless s e ≡ false) × (new ≡ carry (orders s e) place old old)
  pub past : r ≡ false → listless s e ≡ true

-- ---- on the way. The bank has 128 cells: the first 64 are the registers, the others take what an entry without a command
-- stores, and nothing reads them. A situation's row is the place in the image where its 256 entries begin

abbrev pub regs : Bank → Bank
regs bank = take 64 bank

-- what a table tells from a row, a bank and a place of a line on
abbrev pub left : (s image : List ℕ) (row : ℕ) → Bank → (p : ℕ) → List ℕ → Told
left s image row bank p w = rides_from s image (row / 256) (regs bank) p (drop p w)

-- what it tells where the line ended: of the row there, or of none for an entry that led astray
abbrev pub ended : (s image : List ℕ) → Option ℕ → Bank → Told
ended s image None bank = refused 13
ended s image (Some row) bank = end_at s (regs bank) (get_or image (256 * get_or s 4 0 + row / 256) 0)

-- a row of the image, below a limit
pub record Standing (image : List ℕ) (limit row : ℕ) : Type 0 where
  pub room : limit ≤ length image
  pub rows : limit % 256 ≡ 0
  pub begins : row % 256 ≡ 0
  pub inside : row < limit
  pub small : row < 32768

abbrev pub Ends : (image : List ℕ) (limit : ℕ) → Option ℕ → Type 0
Ends image limit r = IfSome r (Standing image limit)

-- a place of a line that is not too long, and a row there
pub record Glidable (image : List ℕ) (limit : ℕ) (w : List ℕ) (p row : ℕ) : Type 0 where
  pub standing : Standing image limit row
  pub within : p ≤ length w
  pub short : length w ≤ line_max

-- from a place and a row on to a place and a row from which any table with so many situations tells the same
pub record Reached (image w : List ℕ) (limit p row : ℕ) (old : Bank) (q there : ℕ) (new : Bank) : Type 0 where
  pub standing : Standing image limit there
  pub within : q ≤ length w
  pub same : (s : List ℕ) → limit ≡ 256 * get_or s 4 0 → left s image there new q w ≡ left s image row old p w

-- the place of the next situation's row
abbrev pub row_of : ℕ → ℕ
row_of e = next_of e * 256

-- an entry left alone; one that stays without commands; one of kind 0 taken, by one store
abbrev pub Hopped : (e limit row place : ℕ) (old new : Bank) → Option ℕ → Type 0
Hopped e limit row place old new None = new ≡ old
Hopped e limit row place old new (Some there) =
    ((e ≡ row + 64) × (there ≡ row) × (new ≡ old))
    ⊎ ((e < 1073741824) × (row_of e < limit) × (there ≡ row_of e) × (new ≡ set old (e % 128) (pos place)))

-- an image with room for the situations that a table counts
pub record Fits (s image : List ℕ) (count : ℕ) : Type 0 where
  pub counted : count ≡ get_or s 4 0
  pub some : 0 < count
  pub few : count ≤ 255
  pub room : 257 * count ≤ length image
