-- Document 01: a record matches exactly if it is in the language of the pattern with tags erased, by document 004's definitions. Assumes nothing.
use mathlib.Core.Path.{◌≡◌, refl}
use mathlib.Core.Logic.{inl, inr, ◌↔◌}
use mathlib.Core.List.{List}
use Prim.Native.Nat.{ℕ, zero, suc}
use Rattle.net.specs.Rec.{end, rec}
use Rattle.paths.specs.Ways.{Move, Way, eaten, Accepts}
use Rattle.pattern.specs.Pat.{Pat, Empty, Byte, Any, Set, Tag, Seq, Alt, Star, Plus, Opt, automaton}
use Rattle.language.specs.Language.{In, nothing, byte, any, one_of, marked, both, left, right, over, round, rounds, with, without}
use Rattle.language.specs.Words.{Power, Iterate, language}
use Rattle.language.proofs.Matches.{matches, accepts_in}

denotes_star : {p : Pat} → ((v : List ℕ) → In p v → language p v) → {w : List ℕ} → In (Star p) w → Iterate (language p) w
denotes_star f over = (0, refl)
denotes_star f (round {v = v} {w = w} x y) = let r = denotes_star f y in (suc r.0, (v, w, refl, f v x, r.1))

pub denotes : (p : Pat) {w : List ℕ} → In p w → language p w
denotes Empty nothing = refl
denotes (Byte b) byte = (b, refl, refl)
denotes Any (any {b = b} h) = (b, refl, h)
denotes (Set s) (one_of {b = b} h) = (b, refl, h)
denotes (Tag t) marked = refl
denotes (Seq p q) (both {v = v} {w = w} x y) = (v, w, refl, denotes p x, denotes q y)
denotes (Alt p q) (left x) = inl (denotes p x)
denotes (Alt p q) (right y) = inr (denotes q y)
denotes (Star p) d = denotes_star (λ v x. denotes p x) d
denotes (Plus p) (rounds {v = v} {w = w} x y) = (v, w, refl, denotes p x, denotes_star (λ v x. denotes p x) y)
denotes (Opt p) (with x) = inl (denotes p x)
denotes (Opt p) without = inr refl

denoted_star : {p : Pat} → ((v : List ℕ) → language p v → In p v) → (n : ℕ) {w : List ℕ} → Power n (language p) w → In (Star p) w
denoted_star f zero e = rw e over
denoted_star f (suc n) r = rw r.2 (round (f r.0 r.3) (denoted_star f n r.4))

pub denoted : (p : Pat) {w : List ℕ} → language p w → In p w
denoted Empty e = rw e nothing
denoted (Byte b) r = rw (r.1, r.2) byte
denoted Any r = rw r.1 (any r.2)
denoted (Set s) r = rw r.1 (one_of r.2)
denoted (Tag t) e = rw e marked
denoted (Seq p q) r = rw r.2 (both (denoted p r.3) (denoted q r.4))
denoted (Alt p q) (inl x) = left (denoted p x)
denoted (Alt p q) (inr y) = right (denoted q y)
denoted (Star p) r = denoted_star (λ v x. denoted p x) r.0 r.1
denoted (Plus p) r = rw r.2 (rounds (denoted p r.3) (denoted_star (λ v x. denoted p x) r.4.0 r.4.1))
denoted (Opt p) (inl x) = with (denoted p x)
denoted (Opt p) (inr e) = rw e without

-- THE LANGUAGE: by any path, loops and all; and by an admissible path
pub match_language : (p : Pat) (w : List ℕ)
    → ((ms : List Move) × (last : ℕ) × Way (automaton p) 0 ms last × (eaten ms ≡ w) × (rec (automaton p) last ≡ end 0)) ↔ language p w
match_language p w = (λ c. denotes p ((matches p w).0 c), λ d. (matches p w).1 (denoted p d))

pub accepts_language : (p : Pat) (w : List ℕ) → ((ms : List Move) × Accepts (automaton p) w ms 0) ↔ language p w
accepts_language p w = (λ c. denotes p ((accepts_in p w).0 c), λ d. (accepts_in p w).1 (denoted p d))
