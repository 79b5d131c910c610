-- Runs of stores into a buffer. Assumes nothing.
use mathlib.Core.Path.{◌≡◌, refl, sym, ap, ◌∙◌}
use mathlib.Core.List.{List, [], ◌∷◌, ◌++◌}
use Prim.Native.Nat.{ℕ, suc, ◌+◌, ◌≤◌}
use native.Mathlib.Omega.{arith}
use native.Mathlib.Nat.{add-zero, add-suc, suc-add}
use native.Mathlib.Numerals.{add-one, add-two, add-three}
use lib.ListN.{length, set, take, drop, length-append}
use lib.Seq.{sets, length-sets, take-set-le, drop-set-lt}
use Rattle.ground.specs.Lists.{Wrote}

-- one run of stores after the other is one run
pub sets_append : {A : Type 0} (a b l : List A) (o : ℕ) → sets (sets l o a) (o + length a) b ≡ sets l o (a ++ b)
sets_append [] b l o = ap (λ k. sets l k b) (add-zero o)
sets_append (x ∷ a) b l o =
    ap (λ k. sets (sets (set l o x) (suc o) a) k b) (add-suc o (length a) ∙ sym (suc-add o (length a)))
    ∙ sets_append a b (set l o x) (suc o)

-- what stands before the run stays, and so does what stands after it
pub sets_before : {A : Type 0} (ws l : List A) (o n : ℕ) → n ≤ o → take n (sets l o ws) ≡ take n l
sets_before [] l o n h = refl
sets_before (w ∷ ws) l o n h = sets_before ws (set l o w) (suc o) n (omega arith) ∙ take-set-le n l o w h

pub sets_after : {A : Type 0} (ws l : List A) (o n : ℕ) → o + length ws ≤ n → drop n (sets l o ws) ≡ drop n l
sets_after [] l o n h = refl
sets_after (w ∷ ws) l o n h = sets_after ws (set l o w) (suc o) n (omega arith) ∙ drop-set-lt n l o w (omega arith)

pub wrote_none : (l : List ℕ) (o : ℕ) → Wrote l l o o []
wrote_none l o = record { held = refl; on = sym (add-zero o) }

pub wrote_then : {a b c : List ℕ} {o o' o'' : ℕ} (v w : List ℕ) → Wrote a b o o' v → Wrote b c o' o'' w → Wrote a c o o'' (v ++ w)
wrote_then {a} {o = o} {o'} v w x y = record {
  held = y.held ∙ ap (λ l. sets l o' w) x.held ∙ ap (λ k. sets (sets a o v) k w) x.on ∙ sets_append v w a o;
  on = let e = x.on in let g = y.on in let z = length-append v w in omega arith;
}

pub wrote_length : {a b : List ℕ} {o o' : ℕ} (ws : List ℕ) → Wrote a b o o' ws → length b ≡ length a
wrote_length {a} {o = o} ws x = ap length x.held ∙ length-sets a o ws

-- two, three and four stores in a row
pub wrote_2 : (l : List ℕ) (o a b : ℕ) → Wrote l (set (set l o a) (o + 1) b) o (o + 2) (a ∷ b ∷ [])
wrote_2 l o a b = record { held = rw add-one; on = refl }

pub wrote_3 : (l : List ℕ) (o a b c : ℕ) → Wrote l (set (set (set l o a) (o + 1) b) (o + 2) c) o (o + 3) (a ∷ b ∷ c ∷ [])
wrote_3 l o a b c = record { held = rw (add-one, add-two); on = refl }

pub wrote_4 : (l : List ℕ) (o a b c d : ℕ) → Wrote l (set (set (set (set l o a) (o + 1) b) (o + 2) c) (o + 3) d) o (o + 4) (a ∷ b ∷ c ∷ d ∷ [])
wrote_4 l o a b c d = record { held = rw (add-one, add-two, add-three); on = refl }
