-- Document 01: "For a RANGE or MASK record, a call tells how many of the 256 bytes it takes, 0 to 256." Assumes nothing: these are definitions.
use Rattle.std.specs.Prelude.{Bool, true, false, ◌&&◌, List, ℕ, zero, suc, ◌+◌, ltb, leb, eqb, length, Result, Ok, Err}
use Rattle.answers.specs.Refusals.{code_of}
use Rattle.answers.specs.declared.Refusal.{Refusal}
use Rattle.ground.specs.Pick.{pick}
use Rattle.net.specs.Rec.{Rec, range, mask, fork, tag, end, rec, bit}
use Rattle.net.specs.Items.{NetRead, net, refused, number, net_of}

abbrev pub one : Bool → ℕ
one true = 1
one false = 0

-- how many of the numbers below n pass the test
unfoldable pub count_below : ℕ → (ℕ → Bool) → ℕ
count_below zero p = 0
count_below (suc n) p = count_below n p + one (p n)

abbrev pub between : (lo hi b : ℕ) → Bool
between lo hi b = leb lo b && leb b hi

abbrev pub bit_set : List ℕ → ℕ → Bool
bit_set bits b = eqb (bit bits b) 1

-- the number of the answer, and the count, which is 0 unless that is 0
pub record Count : Type 0 where
  pub code : ℕ
  pub count : ℕ

-- "NOT_BYTES: record absent, or neither RANGE nor MASK"; "Unless OK, lengths and counts are 0"
abbrev pub refuse : ℕ → Count
refuse e = record { code = e; count = 0 }

abbrev pub not_bytes : Count
not_bytes = refuse 20

-- of the bytes 0 to 255, how many the record allows
unfoldable pub rec_count : Rec → Count
rec_count (range lo hi next) = record { code = 0; count = count_below 256 (between lo hi) }
rec_count (mask bits next) = record { code = 0; count = count_below 256 (bit_set bits) }
rec_count (fork first second) = not_bytes
rec_count (tag t next) = not_bytes
rec_count (end answer) = not_bytes

-- "byte count net, 20": the file is judged first
unfoldable pub count_in : NetRead → ℕ → Count
count_in (refused f) index = refuse (number f)
count_in (net tags A) index = pick (ltb index (length A)) (rec_count (rec A index)) not_bytes

unfoldable pub byte_count : List ℕ → ℕ → Count
byte_count s index = count_in (net_of s) index

-- what the call hands back, as the two
abbrev pub counted : Result ℕ Refusal → Count
counted (Ok n) = record { code = 0; count = n }
counted (Err e) = refuse (code_of e)
