-- A count. Assumes nothing: this is a definition.
use Rattle.std.specs.Prelude.{Bool, ℕ, zero, suc, ◌+◌}
use Rattle.ground.specs.Bits.{flag}

-- how many of the numbers below n pass the test
unfoldable pub count_below : ℕ → (ℕ → Bool) → ℕ
count_below zero p = 0
count_below (suc n) p = count_below n p + flag (p n)
