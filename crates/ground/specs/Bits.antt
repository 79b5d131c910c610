-- Numbers as bits, bit 0 lowest. Assumes nothing: these are definitions.
use Rattle.std.specs.Prelude.{List, [], ◌∷◌, Bool, true, false, ℕ, ◌+◌, ◌*◌, ◌/◌, ◌%◌, ◌^◌}

-- bit k of n, 0 or 1
abbrev pub bit_of : ℕ → ℕ → ℕ
bit_of n k = n / 2 ^ k % 2

abbrev pub flag : Bool → ℕ
flag true = 1
flag false = 0

-- the number whose bits are these, the first one bit 0
abbrev pub number_of : List Bool → ℕ
number_of [] = 0
number_of (b ∷ bs) = flag b + 2 * number_of bs
