-- A choice by a test, and the byte at a place. Assumes nothing: these are definitions.
use Rattle.std.specs.Prelude.{List, Bool, true, false, ℕ, get_or}

-- the first where the test is true, the second where it is false
unfoldable pub pick {ℓ} : {A : Type ℓ} → Bool → A → A → A
pick true a b = a
pick false a b = b

-- the byte at a place, or 256 past the end
abbrev pub look : List ℕ → ℕ → ℕ
look s i = get_or s i 256
