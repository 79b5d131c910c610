-- Document 01, "Pattern text": the language of a pattern with tags erased. Assumes nothing.
use Rattle.std.specs.Prelude.{◌≡◌, List, [], ◌∷◌, ◌++◌, ℕ, ◌≤◌}
use Rattle.net.specs.Rec.{bit}
use Rattle.pattern.specs.Pat.{Pat, Empty, Byte, Any, Set, Tag, Seq, Alt, Star, Plus, Opt}

-- In p w: the word w is in the language of p. Alternatives are the sum, sequences the product, `*` the iteration of 004.
-- A proof of it says how w is read: which alternative, how many rounds, and which part of w each piece takes.
pub data In : Pat → List ℕ → Type 0 where
  nothing : In Empty []
  byte : {b : ℕ} → In (Byte b) (b ∷ [])
  any : {b : ℕ} → b ≤ 255 → In Any (b ∷ [])
  one_of : {s : List ℕ} {b : ℕ} → bit s b ≡ 1 → In (Set s) (b ∷ [])
  marked : {t : ℕ} → In (Tag t) []
  both : {p q : Pat} {v w : List ℕ} → In p v → In q w → In (Seq p q) (v ++ w)
  left : {p q : Pat} {w : List ℕ} → In p w → In (Alt p q) w
  right : {p q : Pat} {w : List ℕ} → In q w → In (Alt p q) w
  over : {p : Pat} → In (Star p) []
  round : {p : Pat} {v w : List ℕ} → In p v → In (Star p) w → In (Star p) (v ++ w)
  rounds : {p : Pat} {v w : List ℕ} → In p v → In (Star p) w → In (Plus p) (v ++ w)
  with : {p : Pat} {w : List ℕ} → In p w → In (Opt p) w
  without : {p : Pat} → In (Opt p) []
