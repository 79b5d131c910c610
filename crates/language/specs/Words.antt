-- The language of a pattern as document 004 defines it (definitions 3 to 7, and 11: tags are aliases of the empty word). Assumes nothing.
use Rattle.std.specs.Prelude.{◌≡◌, ◌⊎◌, List, [], ◌∷◌, ◌++◌, ℕ, zero, suc, ◌≤◌}
use Rattle.net.specs.Rec.{bit}
use Rattle.pattern.specs.Pat.{Pat, Empty, Byte, Any, Set, Tag, Seq, Alt, Star, Plus, Opt}

-- a set of words
abbrev pub Words : Type 1
Words = List ℕ → Type 0

abbrev pub UnitWord : Words
UnitWord w = w ≡ []

-- the words of one byte that f holds of
abbrev pub Bytes : (ℕ → Type 0) → Words
Bytes f w = (b : ℕ) × (w ≡ b ∷ []) × f b

abbrev pub Sum : Words → Words → Words
Sum K L w = K w ⊎ L w

abbrev pub Product : Words → Words → Words
Product K L w = (u : List ℕ) × (v : List ℕ) × (w ≡ u ++ v) × K u × L v

abbrev pub Power : ℕ → Words → Words
Power zero L w = UnitWord w
Power (suc n) L w = Product L (Power n L) w

abbrev pub Iterate : Words → Words
Iterate L w = (n : ℕ) × Power n L w

abbrev pub language : Pat → Words
language Empty w = UnitWord w
language (Byte b) w = Bytes (λ c. c ≡ b) w
language Any w = Bytes (λ c. c ≤ 255) w
language (Set s) w = Bytes (λ c. bit s c ≡ 1) w
language (Tag t) w = UnitWord w
language (Seq p q) w = Product (language p) (language q) w
language (Alt p q) w = Sum (language p) (language q) w
language (Star p) w = Iterate (language p) w
language (Plus p) w = Product (language p) (Iterate (language p)) w
language (Opt p) w = Sum (language p) UnitWord w
