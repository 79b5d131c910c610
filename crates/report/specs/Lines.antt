-- Document 01, the program `tagline`: the lines that it prints, each ended by byte 10. Assumes nothing: these are definitions.
use Rattle.std.specs.Prelude.{List, [], ◌∷◌, ◌++◌, ℕ, ℤ}
use Rattle.ground.specs.Lists.{each}
use Rattle.ground.specs.Place.{place_of}
use Rattle.report.specs.Text.{decimal, shown}

abbrev pub ended : List ℕ
ended = 10 ∷ []

-- "refused "
abbrev pub refused : List ℕ
refused = 114 ∷ 101 ∷ 102 ∷ 117 ∷ 115 ∷ 101 ∷ 100 ∷ 32 ∷ []

-- "`refused` and the number"
unfoldable pub refused_line : ℕ → List ℕ
refused_line code = refused ++ (decimal code ++ ended)

-- " at "
abbrev pub at : List ℕ
at = 32 ∷ 97 ∷ 116 ∷ 32 ∷ []

-- "with ` at ` and the place for 2 and 3"
unfoldable pub refused_at : ℕ → ℕ → List ℕ
refused_at code place = refused ++ (decimal code ++ (at ++ (decimal place ++ ended)))

-- "table "
abbrev pub table : List ℕ
table = 116 ∷ 97 ∷ 98 ∷ 108 ∷ 101 ∷ 32 ∷ []

-- " situations "
abbrev pub situations : List ℕ
situations = 32 ∷ 115 ∷ 105 ∷ 116 ∷ 117 ∷ 97 ∷ 116 ∷ 105 ∷ 111 ∷ 110 ∷ 115 ∷ 32 ∷ []

-- " registers "
abbrev pub registers : List ℕ
registers = 32 ∷ 114 ∷ 101 ∷ 103 ∷ 105 ∷ 115 ∷ 116 ∷ 101 ∷ 114 ∷ 115 ∷ 32 ∷ []

-- "First line: table bytes, situations, registers."
unfoldable pub table_line : (bytes sits regs : ℕ) → List ℕ
table_line b s r = table ++ (decimal b ++ (situations ++ (decimal s ++ (registers ++ (decimal r ++ ended)))))

-- a space and a position
abbrev pub spaced : ℤ → List ℕ
spaced v = 32 ∷ shown (place_of v)

-- "Then per record the answer and eight positions"
unfoldable pub answer_line : ℕ → List ℤ → List ℕ
answer_line answer places = decimal answer ++ (each spaced places ++ ended)

-- "Longer input prints `input over 65536` alone."
unfoldable pub over_line : List ℕ
over_line = 105 ∷ 110 ∷ 112 ∷ 117 ∷ 116 ∷ 32 ∷ 111 ∷ 118 ∷ 101 ∷ 114 ∷ 32 ∷ 54 ∷ 53 ∷ 53 ∷ 51 ∷ 54 ∷ ended
