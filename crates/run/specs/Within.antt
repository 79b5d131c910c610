-- A place of a line: document 01, "-1 or 0 to 32767". Assumes nothing: these are definitions.
use Rattle.std.specs.Prelude.{List, [], ◌∷◌, ℕ, zero, suc, ◌≤◌, ℤ, pos, negsuc}

-- -1, or a place from 0 to n
abbrev pub Within : ℕ → ℤ → Type 0
Within n (pos p) = p ≤ n
Within n (negsuc zero) = Unit {0}
Within n (negsuc (suc k)) = ⊥

abbrev pub AllWithin : ℕ → List ℤ → Type 0
AllWithin n [] = Unit {0}
AllWithin n (v ∷ l) = Within n v × AllWithin n l
