-- Measures that are equal part by part. Assumes nothing.
use mathlib.Core.Path.{◌≡◌, ap, ◌∙◌}
use Prim.Native.Nat.{ℕ}
use Rattle.pattern.specs.declared.reading.Sum.{Sum}

topped : (s w m n : ℕ) → m ≡ n → ◌≡◌ {A = Sum} (record { size = s; width = w; tags = m }) (record { size = s; width = w; tags = n })
topped s w m n e = ap (λ (k : ℕ). record { size = s; width = w; tags = k }) e

pub alike : {a b c a' b' c' : ℕ} → a ≡ a' → b ≡ b' → c ≡ c' → ◌≡◌ {A = Sum} (record { size = a; width = b; tags = c }) (record { size = a'; width = b'; tags = c' })
alike {a} {b} {c} {a'} {b'} p q r = ap (λ (k : ℕ). record { size = k; width = b; tags = c }) p ∙ ap (λ (k : ℕ). record { size = a'; width = k; tags = c }) q ∙ topped a' b' _ _ r
