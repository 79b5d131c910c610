-- Numbers in a row, and the number of an element of a list. Assumes nothing: these are definitions.
use Rattle.std.specs.Prelude.{Bool, cond, List, [], ◌∷◌, ℕ, zero, suc, ◌+◌}

-- the n numbers from k on; `span 0 256` are all bytes in order
unfoldable pub span : ℕ → ℕ → List ℕ
span k zero = []
span k (suc n) = k ∷ span (k + 1) n

-- how many of a list stand before the first that the test finds equal to s; its length if there is none
abbrev pub position : {S : Type 0} → (S → S → Bool) → S → List S → ℕ
position eq s [] = 0
position eq s (t ∷ l) = cond (eq s t) 0 (suc (position eq s l))
