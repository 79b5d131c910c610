-- The part of a text from one place up to another. Assumes nothing.
use Prim.Native.Nat.{ℕ, ◌+◌, ◌≤◌, ◌<◌}
use mathlib.Core.Path.{◌≡◌, refl, sym, ap, subst, ◌∙◌}
use mathlib.Core.List.{List, [], ◌∷◌, ◌++◌, append_assoc}
use native.Mathlib.Omega.{arith}
use native.Mathlib.Numerals.{add-one}
use lib.ListN.{length, take, drop, length-append, length-drop}
use lib.Seq.{drop-cons, take_at}
use Rattle.ground.specs.Pick.{look}
use Rattle.ground.proofs.Lists.{follows}
use Rattle.pattern.proofs.Laws.{byte_of}

-- the bytes from i up to e are w
pub record Part (s : List ℕ) (i e : ℕ) (w : List ℕ) : Type 0 where
  pub parts : drop i s ≡ w ++ drop e s

pub no_bytes : (s : List ℕ) (i : ℕ) → Part s i i []
no_bytes s i = record { parts = refl }

pub one_byte : (s : List ℕ) (i : ℕ) → i < length s → Part s i (i + 1) (look s i ∷ [])
one_byte s i h = record { parts = rw add-one (drop-cons s i 256 h) }

pub join : (s : List ℕ) (i e f : ℕ) (v w : List ℕ) → Part s i e v → Part s e f w → Part s i f (v ++ w)
join s i e f v w a b = record { parts = a.parts ∙ ap (λ l. v ++ l) b.parts ∙ sym (append_assoc v w (drop f s)) }

pub two_bytes : (s : List ℕ) (i : ℕ) → i < length s → i + 1 < length s → Part s i (i + 2) (look s i ∷ look s (i + 1) ∷ [])
two_bytes s i h g = subst (λ (k : ℕ). Part s i k (look s i ∷ look s (i + 1) ∷ [])) (omega arith) (join s i (i + 1) (i + 1 + 1) _ _ (one_byte s i h) (one_byte s (i + 1) g))

-- a known byte at i, before a part
pub this_byte : (s : List ℕ) (i c : ℕ) → c < 256 → look s i ≡ c → Part s i (i + 1) (c ∷ [])
this_byte s i c small h = subst (λ (x : ℕ). Part s i (i + 1) (x ∷ [])) h (one_byte s i (byte_of s i c small h))

pub byte_then : (s : List ℕ) (i e c : ℕ) (w : List ℕ) → c < 256 → look s i ≡ c → Part s (i + 1) e w → Part s i e (c ∷ w)
byte_then s i e c w small h p = join s i (i + 1) e (c ∷ []) w (this_byte s i c small h) p

-- and after a part
pub then_byte : (s : List ℕ) (i e c : ℕ) (w : List ℕ) → c < 256 → Part s i e w → look s e ≡ c → Part s i (e + 1) (w ++ c ∷ [])
then_byte s i e c w small x h = join s i e (e + 1) w (c ∷ []) x (this_byte s e c small h)

-- the bytes at i are w and then more
pub part_of : (s : List ℕ) (i e : ℕ) (w r : List ℕ) → drop i s ≡ w ++ r → e ≡ i + length w → Part s i e w
part_of s i e w r h n = record { parts = h ∙ ap (λ l. w ++ l) (sym (ap (λ k. drop k s) n ∙ follows s w r i h)) }

-- the length of a part from the start, and the part as a front of the text
pub part_length : (s : List ℕ) (q : ℕ) (w : List ℕ) → q ≤ length s → Part s 0 q w → length w ≡ q
part_length s q w h p = let a = ap length p.parts in let b = length-append w (drop q s) in let c = length-drop q s in omega arith

pub part_front : (s : List ℕ) (q : ℕ) (w : List ℕ) → q ≤ length s → Part s 0 q w → take q s ≡ w
part_front s q w h p = ap (take q) p.parts ∙ take_at w (drop q s) q (part_length s q w h p)
