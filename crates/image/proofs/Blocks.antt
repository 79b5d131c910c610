-- Four numbers that name a block, or none. Assumes nothing.
use Prim.Native.Nat.{ℕ, ◌+◌, ◌*◌, ◌/◌, ◌%◌, ◌<◌, ◌≤◌}
use native.Mathlib.Omega.{arith}
use mathlib.Core.Path.{◌≡◌, refl, ap, ◌∙◌}
use mathlib.Core.Bool.{Bool, true, false}
use lib.Dec.{ltb}
use borrow.Author.Tests.{lt-ltb, le-ltb, ltb-false}
use Rattle.ground.specs.Pick.{pick}
use Rattle.ground.proofs.Picks.{picked, passed}
use Rattle.image.specs.Image.{misfit, block_bits, of_bits}

-- ---- four numbers that name a block, or none

-- four numbers that are equal
pub ap₄ : {A : Type 0} (g : (a k s n : ℕ) → A) {a b c d a' b' c' d' : ℕ} → a ≡ a' → b ≡ b' → c ≡ c' → d ≡ d' → g a b c d ≡ g a' b' c' d'
ap₄ g e f h i = cc

-- they come out of their bits
pub bits_fit : (a k s n : ℕ) → a < 64 → 1 ≤ k → k ≤ 32 → n < 64 → s < 64 → block_bits a k s n < 8388608
unfolding block_bits
bits_fit a k s n first some few more from = omega arith

pub bits_out : {A : Type 0} (g : (a k s n : ℕ) → A) (a k s n : ℕ) → a < 64 → 1 ≤ k → k ≤ 32 → n < 64 → s < 64 → of_bits g (block_bits a k s n) ≡ g a k s n
unfolding block_bits
bits_out g a k s n first some few more from =
    let m : block_bits a k s n / 2048 ≡ n + 64 * s = omega arith in
    let q : (n + 64 * s) % 64 ≡ n = omega arith in
    ap₄ g (omega arith) (omega arith) (omega arith) (ap (λ (x : ℕ). x % 64) m ∙ q)

module _ (a k s n : ℕ) where
  pub past_bank : 64 < a + k + n → misfit a k s n ≡ true
  unfolding misfit
  past_bank h = picked true (ltb (a + k) s) (lt-ltb 64 (a + k + n) h)

  pub downward : a + k + n ≤ 64 → a + k < s → misfit a k s n ≡ true
  unfolding misfit
  downward g h = passed true (ltb (a + k) s) (le-ltb 64 (a + k + n) g) ∙ lt-ltb (a + k) s h

  pub no_misfit : a + k + n ≤ 64 → s ≤ a + k → misfit a k s n ≡ false
  unfolding misfit
  no_misfit g h = passed true (ltb (a + k) s) (le-ltb 64 (a + k + n) g) ∙ le-ltb (a + k) s h

  pub in_bank : misfit a k s n ≡ false → (a + k + n ≤ 64) × (s ≤ a + k)
  unfolding misfit pick
  in_bank h = by (ltb 64 (a + k + n)) refl h
    where
      by : (b : Bool) → ltb 64 (a + k + n) ≡ b → pick b true (ltb (a + k) s) ≡ false → (a + k + n ≤ 64) × (s ≤ a + k)
      by true e g = let z : ◌≡◌ {A = ℕ} 0 1 = cc in absurd (omega arith)
      by false e g = (ltb-false 64 (a + k + n) e, ltb-false (a + k) s g)
