-- A table's rule, proved at all of its entries by one test that antt computes, one entry after the other.
-- Assumes nothing.
use mathlib.Core.Path.{◌≡◌, ◌∙◌, subst, sym, ap}
use mathlib.Core.Bool.{Bool, true, false, ◌&&◌}
use mathlib.Core.List.{List, [], ◌∷◌}
use Prim.Native.Nat.{ℕ, zero, suc, ◌+◌, ◌<◌}
use native.Mathlib.Nat.{add-zero, zero-add, add-suc, suc-add, le_of_suc-le-suc, not-suc-le-zero}
use lib.Dec.{T}
use lib.ListN.{length, get_or, replicate, length-replicate}

and_left : (a b : Bool) → T (a && b) → T a
and_left true b t = tt
and_left false b t = t

and_right : (a b : Bool) → T (a && b) → T b
and_right true b t = t
and_right false b t = absurd t

-- the test f passes at each entry of the list and its place, counted from i
abbrev pub every : (ℕ → ℕ → Bool) → ℕ → List ℕ → Bool
every f i [] = true
every f i (x ∷ xs) = f i x && every f (suc i) xs

from : (f : ℕ → ℕ → Bool) (xs : List ℕ) (i : ℕ) → T (every f i xs) → (k : ℕ) → k < length xs → T (f (i + k) (get_or xs k 0))
from f [] i t k h = absurd (not-suc-le-zero h)
from f (x ∷ xs) i t zero h = subst (λ (m : ℕ). T (f m x)) (sym (add-zero i)) (and_left (f i x) (every f (suc i) xs) t)
from f (x ∷ xs) i t (suc k) h =
    subst (λ (m : ℕ). T (f m (get_or xs k 0))) (suc-add i k ∙ sym (add-suc i k))
    (from f xs (suc i) (and_right (f i x) (every f (suc i) xs) t) k (le_of_suc-le-suc h))

-- so it passes at any entry
pub tested : (f : ℕ → ℕ → Bool) (xs : List ℕ) → T (every f 0 xs) → (k : ℕ) → k < length xs → T (f k (get_or xs k 0))
tested f xs t k h = subst (λ (m : ℕ). T (f m (get_or xs k 0))) (zero-add k) (from f xs 0 t k h)

-- a table computed from its rule: n entries from place i on
abbrev pub table : {A : Type 0} → (ℕ → A) → ℕ → ℕ → List A
table f i zero = []
table f i (suc n) = f i ∷ table f (suc i) n

table_from : {A : Type 0} (f : ℕ → A) (d : A) (n i k : ℕ) → k < n → get_or (table f i n) k d ≡ f (i + k)
table_from f d zero i k h = absurd (not-suc-le-zero h)
table_from f d (suc n) i zero h = ap f (sym (add-zero i))
table_from f d (suc n) i (suc k) h = table_from f d n (suc i) k (le_of_suc-le-suc h) ∙ ap f (suc-add i k ∙ sym (add-suc i k))

-- an entry of it is what the rule says; a table that is written out is the computed one, which antt sees by itself
pub table_at : {A : Type 0} (f : ℕ → A) (d : A) (n k : ℕ) → k < n → get_or (table f 0 n) k d ≡ f k
table_at f d n k h = table_from f d n 0 k h ∙ ap f (zero-add k)

-- a test of the numbers below n
abbrev pub below : (ℕ → Bool) → ℕ → Bool
below f n = every (λ k x. f k) 0 (replicate n 0)

pub tested_below : (f : ℕ → Bool) (n : ℕ) → T (below f n) → (k : ℕ) → k < n → T (f k)
tested_below f n t k h = tested (λ k x. f k) (replicate n 0) t k (subst (λ (m : ℕ). k < m) (sym (length-replicate n 0)) h)
