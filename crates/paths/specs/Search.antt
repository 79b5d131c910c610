-- An ordered search, over any graph whose nodes are numbered: every path with no node twice, in order; the first of them to each node ("each once, by its
-- earliest path, earliest path first"); and the search with one set of marks that finds just those. Assumes nothing.
use Rattle.std.specs.Prelude.{Bool, true, false, ◌||◌, ℕ, zero, suc, eqb}
use mathlib.Core.List.{List, [], ◌∷◌, ◌++◌, foldl}
use Rattle.ground.specs.Lists.{each}

-- the second branch waits until it is asked for
abbrev pub choose : {A : Type 0} → Bool → A → (Unit {0} → A) → A
choose true a f = a
choose false a f = f tt

abbrev pub has : ℕ → List ℕ → Bool
has r [] = false
has r (x ∷ xs) = eqb r x || has r xs

-- One path under way: the record that it stands on, and what it has gathered.
pub record Thread (X : Type 0) : Type 0 where
  pub on : ℕ
  pub had : X

module _ {X : Type 0} where
  abbrev pub ons : List (Thread X) → List ℕ
  ons [] = []
  ons (s ∷ l) = s.on ∷ ons l

  -- each record once, by the first thread that stands on it, in order: what `l` adds to `found`
  abbrev pub add : List (Thread X) → Thread X → List (Thread X)
  add found s = choose (has s.on (ons found)) found (λ _. found ++ (s ∷ []))

  abbrev pub firsts : List (Thread X) → List (Thread X) → List (Thread X)
  firsts found l = foldl add found l

  module _ (out : Thread X → List (Thread X)) where
    -- the threads that s leads to, itself among them, by paths that stand on no record twice and on none of `seen`; the earlier path first
    unfoldable pub paths : ℕ → List ℕ → Thread X → List (Thread X)
    paths zero seen s = []
    paths (suc n) seen s = choose (has s.on seen) [] (λ _. s ∷ each (paths n (s.on ∷ seen)) (out s))

    -- depth first, with one set of marks for all: the records of the threads found so far
    unfoldable pub visit : ℕ → List (Thread X) → Thread X → List (Thread X)
    visit zero found s = found
    visit (suc n) found s = choose (has s.on (ons found)) found (λ _. foldl (visit n) (found ++ (s ∷ [])) (out s))
