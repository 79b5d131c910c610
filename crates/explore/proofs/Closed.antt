-- Once each situation found has been gone through: every byte leads to one of them, and they are all that document 01 numbers. Assumes nothing.
use mathlib.Core.Path.{◌≡◌, refl, sym, ap, ◌∙◌, subst}
use mathlib.Core.Logic.{◌⊎◌, inl, inr}
use mathlib.Core.Bool.{true, false, ◌||◌}
use mathlib.Core.List.{List, [], ◌∷◌, ◌++◌, append-nil, Memᴰ}
use Prim.Native.Nat.{ℕ, zero, suc, ◌+◌, ◌-◌, ◌≤◌, ◌<◌}
use native.Mathlib.Omega.{arith}
use lib.ListN.{length, get_or, take, length-append, drop_of_length-le}
use Rattle.net.specs.Rec.{Net}
use Rattle.ground.specs.Lists.{each}
use Rattle.paths.specs.Registers.{next, situation}
use Rattle.paths.specs.Equal.{same_situation}
use Rattle.paths.specs.Numbering.{among, once, nexts, numbered, explored}
use Rattle.paths.specs.Limits.{Sit, bytes, all, first}
use Rattle.paths.proofs.Member.{Bool-cases}
use Rattle.ground.proofs.Members.{Prefix, get_or_mem}
use Rattle.paths.proofs.Builder.{situation_test, found_first, found_all}
use Rattle.paths.proofs.Limits.{closed_next}
use Rattle.explore.specs.Lists.{span}
use Rattle.explore.proofs.Bits.{or_true}

mem_among : {s : Sit} {l : List Sit} → Memᴰ s l → among same_situation s l ≡ true
mem_among {s} (Memᴰ.head {x = x} e) = rw ((situation_test s x).1 e)
mem_among {s} (Memᴰ.tail {x = x} {xs = xs} m) = rw (mem_among m) (or_true (same_situation s x))

pub found_at : (s : Sit) (l : List Sit) → among same_situation s l ≡ true → (k : ℕ) × ((k < length l) × (get_or l k [] ≡ s))
found_at s [] e = absurd (let z : ◌≡◌ {A = ℕ} 0 1 = cc in omega arith)
found_at s (t ∷ l) e = by (found_at s l) (Bool-cases (same_situation s t)) e
  where
    by : (among same_situation s l ≡ true → (k : ℕ) × ((k < length l) × (get_or l k [] ≡ s))) → (same_situation s t ≡ true) ⊎ (same_situation s t ≡ false) → (same_situation s t || among same_situation s l) ≡ true → (k : ℕ) × ((k < suc (length l)) × (get_or (t ∷ l) k [] ≡ s))
    by ih (inl p) q = (0, (omega arith, sym ((situation_test s t).0 p)))
    by ih (inr p) q = let r = ih (rw p at q) in (suc r.0, (omega (arith, r.1.0), r.1.1))

antisym : {l k : List Sit} → Prefix l k → Prefix k l → l ≡ k
antisym {l} {k} p q = sym (append-nil l) ∙ ap (λ v. l ++ v) (sym (none p.more z)) ∙ p.whole
  where
    z : length p.more ≡ 0
    z = omega (arith, ap length p.whole, ap length q.whole, length-append l p.more, length-append k q.more)

    none : (m : List Sit) → length m ≡ 0 → m ≡ []
    none [] e = refl
    none (x ∷ m) e = absurd (omega arith)

pub span_bytes : (k n : ℕ) → span k n ≡ bytes k n
unfolding span bytes
span_bytes k zero = refl
span_bytes k (suc n) = ap (λ l. k ∷ l) (span_bytes (k + 1) n)

module _ (A : Net) (n : ℕ) (whole : length (first A n) ≡ n) where
  -- every byte leads to one of them
  pub closed : (i b : ℕ) → i < n → b < 256 → among same_situation (next A b (get_or (first A n) i [])) (first A n) ≡ true
  closed i b c d = mem_among (closed_next A n (omega arith) d (get_or_mem (first A n) i [] (omega arith)))

  first_still : (m : ℕ) → first A (n + m) ≡ first A n
  unfolding explored
  first_still zero = let z : n + 0 ≡ n = omega arith in ap (first A) z
  first_still (suc m) =
      let z : n + suc m ≡ suc (n + m) = omega arith in
      let l : length (first A (n + m)) ≤ n + m = omega (arith, ap length (first_still m)) in
      ap (first A) z
      ∙ ap (λ v. once same_situation (first A (n + m)) (each (nexts same_situation (bytes 0 256) (next A)) (take 1 v))) (drop_of_length-le (first A (n + m)) {i = n + m} l)
      ∙ first_still m

  -- and they are document 01's situations
  pub numbered_first : (N : ℕ) → n ≤ N → numbered same_situation (span 0 256) (situation A) N ≡ first A n
  numbered_first N b =
      let e : n + (N - n) ≡ N = omega arith in
      ap (λ v. numbered same_situation v (situation A) N) (span_bytes 0 256)
      ∙ antisym (found_all A (bytes 0 256) n (omega arith) N)
      (subst (λ v. Prefix v (all A N)) (ap (first A) (sym e) ∙ first_still (N - n)) (found_first A (bytes 0 256) N))
