-- Lists whose elements all have something, and lists of bytes. Assumes nothing.
use mathlib.Core.Path.{◌≡◌}
use mathlib.Core.Bool.{Bool, true, ◌&&◌}
use mathlib.Core.List.{List, [], ◌∷◌, ◌++◌, map}
use Prim.Native.Nat.{ℕ, zero, suc, ◌<◌}
use native.Mathlib.Omega.{arith}
use lib.ListN.{length, get_or, drop}
use lib.Dec.{ltb}
use borrow.Author.Tests.{ltb-true}
use Rattle.ground.specs.Lists.{Every, Bytes}
use Rattle.ground.specs.Pick.{look}
use Rattle.ground.proofs.Tests.{both_yes}

module _ {A : Type 0} (P : A → Type 0) where
  -- at a place of the list
  pub every_at : (l : List A) → Every P l → (d : A) (i : ℕ) → i < length l → P (get_or l i d)
  every_at [] e d i h = absurd (omega arith)
  every_at (x ∷ l) e d zero h = e.0
  every_at (x ∷ l) e d (suc i) h = every_at l e.1 d i (omega arith)

  -- from every place of the list
  pub every_from : (l : List A) (d : A) → ((i : ℕ) → i < length l → P (get_or l i d)) → Every P l
  every_from [] d f = tt
  every_from (x ∷ l) d f = (f zero (omega arith), every_from l d (λ i h. f (suc i) (omega arith)))

pub every_map : {A B : Type 0} (P : B → Type 0) (f : A → B) (l : List A) → Every (λ (x : A). P (f x)) l → Every P (map f l)
every_map P f [] e = tt
every_map P f (x ∷ l) e = (e.0, every_map P f l e.1)

pub every_weak : {A : Type 0} (P Q : A → Type 0) → ((x : A) → P x → Q x) → (l : List A) → Every P l → Every Q l
every_weak P Q f [] e = tt
every_weak P Q f (x ∷ l) e = (f x e.0, every_weak P Q f l e.1)

-- a list is of bytes if at every place there is one
pub all_bytes : (w : List ℕ) → ((i : ℕ) → get_or w i 0 < 256) → Bytes w
all_bytes [] h = tt
all_bytes (b ∷ w) h = (h 0, all_bytes w (λ i. h (suc i)))

pub bytes_at : (s : List ℕ) → Bytes s → (i : ℕ) → get_or s i 0 < 256
bytes_at [] e i = omega arith
bytes_at (x ∷ s) e zero = e.0
bytes_at (x ∷ s) e (suc i) = bytes_at s e.1 i

pub every_append : {A : Type 0} (P : A → Type 0) (l m : List A) → Every P l → Every P m → Every P (l ++ m)
every_append P [] m e f = f
every_append P (x ∷ l) m e f = (e.0, every_append P l m e.1 f)

-- bytes of the parts of a list
pub bytes_front : (v w : List ℕ) → Bytes (v ++ w) → Bytes v
bytes_front [] w b = tt
bytes_front (c ∷ v) w b = (b.0, bytes_front v w b.1)

pub bytes_back : (v w : List ℕ) → Bytes (v ++ w) → Bytes w
bytes_back [] w b = b
bytes_back (c ∷ v) w b = bytes_back v w b.1

pub bytes_both : (v w : List ℕ) → Bytes v → Bytes w → Bytes (v ++ w)
bytes_both v w a b = every_append (λ (c : ℕ). c < 256) v w a b

pub bytes_more : (w : List ℕ) (b : ℕ) → Bytes w → b < 256 → Bytes (w ++ (b ∷ []))
bytes_more w b h k = bytes_both w (b ∷ []) h (k, tt)

pub byte_at : (s : List ℕ) (i : ℕ) → Bytes s → i < length s → look s i < 256
byte_at s i b h = every_at (λ (c : ℕ). c < 256) s b 256 i h

pub bytes_from : (i : ℕ) (s : List ℕ) → Bytes s → Bytes (drop i s)
bytes_from zero s b = b
bytes_from (suc i) [] b = tt
bytes_from (suc i) (c ∷ s) b = bytes_from i s b.1

-- bytes, by a test
abbrev pub small : List ℕ → Bool
small [] = true
small (c ∷ w) = ltb c 256 && small w

pub bytes_of : (w : List ℕ) → small w ≡ true → Bytes w
bytes_of [] e = tt
bytes_of (c ∷ w) e = let b = both_yes (ltb c 256) (small w) e in (ltb-true c 256 b.0, bytes_of w b.1)
