-- What is said of lists in several crates. Assumes nothing: these are definitions.
use Rattle.std.specs.Prelude.{◌≡◌, List, [], ◌∷◌, ◌++◌, ℕ, ◌+◌, ◌<◌, length}
use Rattle.std.proofs.lemmas.List.Edits.{sets}

-- what f gives of each, one after the other
abbrev pub each : {A B : Type 0} → (A → List B) → List A → List B
each f [] = []
each f (x ∷ xs) = f x ++ each f xs

-- each element has it
abbrev pub Every : {A : Type 0} → (A → Type 0) → List A → Type 0
Every P [] = Unit {0}
Every P (x ∷ xs) = P x × Every P xs

-- a list of bytes
abbrev pub Bytes : List ℕ → Type 0
Bytes s = Every (λ (b : ℕ). b < 256) s

-- a buffer that was `before` is `after` once ws stands in it from place o on, and `next` is the place past ws
pub record Wrote (before after : List ℕ) (o next : ℕ) (ws : List ℕ) : Type 0 where
  pub held : after ≡ sets before o ws
  pub on : next ≡ o + length ws
