-- Document 01: "Situation 0 is that of the empty input; the others are numbered by the first input that reaches them, shorter first, then by byte values."
-- Over any states, a test for equal ones, and the bytes in order. Assumes nothing.
use Rattle.std.specs.Prelude.{Bool, false, ◌||◌, ℕ, zero, suc, take, drop}
use mathlib.Core.List.{List, [], ◌∷◌, ◌++◌, map, foldl}
use Rattle.ground.specs.Lists.{each}
use Rattle.paths.specs.Search.{choose}

-- all inputs of n bytes, by byte values; and of at most n, the shorter first
unfoldable pub words : List ℕ → ℕ → List (List ℕ)
words B zero = [] ∷ []
words B (suc n) = each (λ w. map (λ b. w ++ (b ∷ [])) B) (words B n)

unfoldable pub upto : List ℕ → ℕ → List (List ℕ)
upto B zero = words B zero
upto B (suc n) = upto B n ++ words B (suc n)

module _ {S : Type 0} (eq : S → S → Bool) where
  abbrev pub among : S → List S → Bool
  among s [] = false
  among s (t ∷ l) = eq s t || among s l

  abbrev pub put : List S → S → List S
  put found s = choose (among s found) found (λ _. found ++ (s ∷ []))

  -- each state once, where it first appears: what `l` adds to `found`
  abbrev pub once : List S → List S → List S
  once found l = foldl put found l

  module _ (B : List ℕ) where
    -- the states that inputs of at most n bytes reach, by their first input
    unfoldable pub numbered : (List ℕ → S) → ℕ → List S
    numbered sit n = once [] (map sit (upto B n))

    module _ (next : ℕ → S → S) where
      abbrev pub nexts : S → List S
      nexts s = map (λ b. next b s) B

      -- what the builder does: from the first state on, for each in turn, the next states by each byte
      unfoldable pub explored : S → ℕ → List S
      explored s₀ zero = s₀ ∷ []
      explored s₀ (suc i) = once (explored s₀ i) (each nexts (take 1 (drop i (explored s₀ i))))
