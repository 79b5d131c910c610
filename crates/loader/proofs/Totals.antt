-- How many bits are set in all the sets together. Assumes nothing.
use Prim.Native.Nat.{ℕ, zero, suc, ◌+◌, ◌*◌, ◌^◌, ◌<◌, ◌≤◌}
use native.Mathlib.Omega.{arith}
use mathlib.Core.Path.{◌≡◌}
use mathlib.Core.List.{List, [], ◌∷◌}
use lib.ListN.{length, get_or, set}
use lib.Count.{ones, ones-le}
use Rattle.loader.specs.Flow.{total}

pub total_set : (l : List ℕ) (i v : ℕ) → i < length l → total (set l i v) + ones (get_or l i 0) ≡ total l + ones v
unfolding total
total_set [] i v h = absurd (omega arith)
total_set (x ∷ l) zero v h = omega arith
total_set (x ∷ l) (suc i) v h = omega (arith, total_set l i v (omega arith))

pub total_le : (l : List ℕ) → ((i : ℕ) → get_or l i 0 < 2 ^ 64) → total l ≤ 64 * length l
unfolding total
total_le [] h = omega arith
total_le (x ∷ l) h = omega (arith, total_le l (λ i. h (suc i)), ones-le 64 x (h zero))
