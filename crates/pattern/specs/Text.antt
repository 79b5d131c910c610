-- The byte at a place, as a number, and what it repeats. Assumes nothing: these are definitions.
use Rattle.std.specs.Prelude.{◌≡◌, ℕ, false, Option, Some, None}
use Rattle.pattern.specs.Reader.{repeating}
use Rattle.pattern.specs.declared.text.Repeat.{Repeat}
use Rattle.pattern.specs.declared.text.Repeat.TheVariants.{Star, Plus, Query}

-- the byte's number, or 256 where there is none, as `look` of ground has it
abbrev pub number_of : Option ℕ → ℕ
number_of (Some b) = b
number_of None = 256

-- the byte with that number repeats an atom so
abbrev pub IsRepeat : ℕ → Option Repeat → Type 0
IsRepeat c (Some Star) = c ≡ 42
IsRepeat c (Some Plus) = c ≡ 43
IsRepeat c (Some Query) = c ≡ 63
IsRepeat c None = repeating c ≡ false
