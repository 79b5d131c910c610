-- Facts about lists, spans and tests that several of the laws need. Assumes nothing.
use mathlib.Core.Path.{◌≡◌, refl, sym, ap, ap₂}
use mathlib.Core.Logic.{◌⊎◌, inl, inr}
use mathlib.Core.Bool.{Bool, true, false, cond}
use mathlib.Core.List.Memᴰ
use mathlib.Core.List.{List, [], ◌∷◌, Memᴰ}
use Prim.Native.Nat.{ℕ, zero, suc, ◌+◌, ◌<◌}
use native.Mathlib.Omega.{arith}
use lib.ListN.{length, get_or, replicate}
use Rattle.ground.proofs.Tests.{both_yes}
use Rattle.paths.specs.Equal.{same_list}
use Rattle.paths.specs.Limits.{bytes, Input}
use Rattle.ground.specs.Lists.{Bytes}
use Rattle.explore.specs.Lists.{span, position}

-- ---- lists compared

pub list_eq : {A : Type 0} (f : A → A → Bool) → ((x y : A) → f x y ≡ true → x ≡ y) → (l k : List A) → same_list f l k ≡ true → l ≡ k
list_eq f h [] [] e = refl
list_eq f h [] (y ∷ k) e = let z : ◌≡◌ {A = ℕ} 0 1 = cc in absurd (omega arith)
list_eq f h (x ∷ l) [] e = let z : ◌≡◌ {A = ℕ} 0 1 = cc in absurd (omega arith)
list_eq f h (x ∷ l) (y ∷ k) e = let a = both_yes (f x y) (same_list f l k) e in ap₂ (λ x l. x ∷ l) (h x y a.0) (list_eq f h l k a.1)

-- ---- what is in a list of equal ones, and the place of an element

pub replicate_in : {A : Type 0} {a x : A} (n : ℕ) → Memᴰ x (replicate n a) → x ≡ a
replicate_in zero m = absurd (elim m [ ])
replicate_in (suc n) (Memᴰ.head e) = e
replicate_in (suc n) (Memᴰ.tail m) = replicate_in n m

module _ {S : Type 0} (eq : S → S → Bool) (test : (s t : S) → (eq s t ≡ true → s ≡ t) × (s ≡ t → eq s t ≡ true)) where
  pub position_at : (d s : S) {l : List S} → Memᴰ s l → (position eq s l < length l) × (get_or l (position eq s l) d ≡ s)
  position_at d s (Memᴰ.head {x = t} {xs = l} e) = rw ((test s t).1 e) (omega arith, sym e)
  position_at d s (Memᴰ.tail {x = t} {xs = l} m) = by (position_at d s m) (eq s t) refl
    where
      by : (position eq s l < length l) × (get_or l (position eq s l) d ≡ s) → (c : Bool) → eq s t ≡ c
          → (cond c 0 (suc (position eq s l)) < suc (length l)) × (get_or (t ∷ l) (cond c 0 (suc (position eq s l))) d ≡ s)
      by r true e = (omega arith, sym ((test s t).0 e))
      by r false e = (omega (arith, r.0), r.1)

  pub position_zero : (d s : S) (l : List S) → 0 < length l → get_or l 0 d ≡ s → position eq s l ≡ 0
  position_zero d s [] h e = absurd (omega arith)
  position_zero d s (t ∷ l) h e = rw ((test s t).1 (sym e))

-- ---- spans and bytes

pub span_bytes : (k n : ℕ) → span k n ≡ bytes k n
unfolding span bytes
span_bytes k zero = refl
span_bytes k (suc n) = ap (λ l. k ∷ l) (span_bytes (k + 1) n)

pub input_of : (w : List ℕ) → Bytes w → Input w
input_of [] h b m = absurd (elim m [ ])
input_of (c ∷ w) h b m = by (λ k. input_of w h.1 b k) (Memᴰ.cases_cons m)
  where
    by : (Memᴰ b w → b < 256) → (b ≡ c) ⊎ Memᴰ b w → b < 256
    by ih (inl e) = rw e h.0
    by ih (inr k) = ih k

pub of_input : (w : List ℕ) → Input w → Bytes w
of_input [] h = tt
of_input (b ∷ w) h = (h b (Memᴰ.head refl), of_input w (λ c m. h c (Memᴰ.tail m)))
