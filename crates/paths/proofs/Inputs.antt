-- The inputs of at most n bytes are listed shorter first, then by byte values. Assumes nothing.
use mathlib.Core.Path.{◌≡◌, refl, sym, ap, ◌∙◌, subst}
use mathlib.Core.Logic.{◌⊎◌, inl, inr}
use mathlib.Core.List.Memᴰ
use mathlib.Core.List.{List, [], ◌∷◌, ◌++◌, map, Memᴰ}
use Prim.Native.Nat.{ℕ, zero, suc, ◌+◌, ◌≤◌, ◌<◌}
use native.Mathlib.Omega.{arith}
use lib.ListN.{length, length-append}
use Rattle.paths.specs.Numbering.{words, upto}
use Rattle.paths.specs.Limits.{bytes, ByValues, lower, same, Before, shorter, by_values}
use Rattle.ground.proofs.Members.{each_cases, Ordered, ordered_append, ordered_each}

-- ---- bytes rise

bytes_from : (k n : ℕ) {b : ℕ} → Memᴰ b (bytes k n) → k ≤ b
unfolding bytes
bytes_from k zero m = absurd (elim m [ ])
bytes_from k (suc n) (Memᴰ.head e) = omega arith
bytes_from k (suc n) (Memᴰ.tail m) = omega (arith, bytes_from (k + 1) n m)

bytes_rise : (k n : ℕ) → Ordered (λ b c. b < c) (bytes k n)
unfolding bytes
bytes_rise k zero = tt
bytes_rise k (suc n) = (λ c m. omega (arith, bytes_from (k + 1) n m), bytes_rise (k + 1) n)

-- ---- by values

values_on : {v w : List ℕ} → ByValues v w → (x y : List ℕ) → ByValues (v ++ x) (w ++ y)
values_on (lower h) x y = lower h
values_on (same d) x y = same (values_on d x y)

values_last : (v : List ℕ) {b c : ℕ} → b < c → ByValues (v ++ (b ∷ [])) (v ++ (c ∷ []))
values_last [] h = lower h
values_last (a ∷ v) h = same (values_last v h)

map_ordered : {X Y : Type 0} (R : X → X → Type 0) (Q : Y → Y → Type 0) (f : X → Y) → ((s t : X) → R s t → Q (f s) (f t)) → (l : List X) → Ordered R l → Ordered Q (map f l)
map_ordered R Q f h [] o = tt
map_ordered R Q f h (s ∷ l) o = (λ t m. let c = Memᴰ.of_map f l m in subst (λ v. Q (f s) v) c.2 (h s c.0 (o.0 c.0 c.1)), map_ordered R Q f h l o.1)

words_length : (B : List ℕ) (n : ℕ) {w : List ℕ} → Memᴰ w (words B n) → length w ≡ n
unfolding words
words_length B zero m = ap length (Memᴰ.eq_of_singleton m)
words_length B (suc n) m =
    let c = each_cases (λ w. map (λ b. w ++ (b ∷ [])) B) (words B n) m in
    let d = Memᴰ.of_map (λ b. c.0 ++ (b ∷ [])) B c.2 in
    let i = words_length B n c.1 in
    omega (arith, ap length d.2, length-append c.0 (d.0 ∷ []))

module _ (B : List ℕ) (rise : Ordered (λ b c. b < c) B) where
  words_ordered : (n : ℕ) → Ordered ByValues (words B n)
  unfolding words
  words_ordered zero = (λ t m. absurd (elim m [ ]), tt)
  words_ordered (suc n) =
      ordered_each ByValues ByValues (λ w. map (λ b. w ++ (b ∷ [])) B) (words B n) (words_ordered n)
      (λ w. map_ordered (λ b c. b < c) ByValues (λ b. w ++ (b ∷ [])) (λ b c h. values_last w h) B rise)
      (λ s t d a b m k. let c = Memᴰ.of_map (λ b. s ++ (b ∷ [])) B m in let e = Memᴰ.of_map (λ b. t ++ (b ∷ [])) B k in rw (← c.2, ← e.2) (values_on d (c.0 ∷ []) (e.0 ∷ [])))

  weaken : (n : ℕ) (l : List (List ℕ)) → ((w : List ℕ) → Memᴰ w l → length w ≡ n) → Ordered ByValues l → Ordered Before l
  weaken n [] h o = tt
  weaken n (s ∷ l) h o =
      (λ t m. by_values (h s (Memᴰ.head refl) ∙ sym (h t (Memᴰ.tail m))) (o.0 t m), weaken n l (λ w m. h w (Memᴰ.tail m)) o.1)

  upto_length : (n : ℕ) {w : List ℕ} → Memᴰ w (upto B n) → length w ≤ n
  unfolding upto
  upto_length zero m = let e = words_length B zero m in omega arith
  upto_length (suc n) {w} m = by (λ k. upto_length n k) (Memᴰ.append_cases (upto B n) m)
    where
      by : (Memᴰ w (upto B n) → length w ≤ n) → Memᴰ w (upto B n) ⊎ Memᴰ w (words B (suc n)) → length w ≤ suc n
      by ih (inl k) = omega (arith, ih k)
      by ih (inr k) = let e = words_length B (suc n) k in omega arith

  upto_ordered : (n : ℕ) → Ordered Before (upto B n)
  unfolding upto
  upto_ordered zero = weaken zero (words B zero) (λ w m. words_length B zero m) (words_ordered zero)
  upto_ordered (suc n) =
      ordered_append Before (upto B n) (words B (suc n)) (upto_ordered n) (weaken (suc n) (words B (suc n)) (λ w m. words_length B (suc n) m) (words_ordered (suc n)))
      (λ s t m k. shorter (omega (arith, upto_length n m, words_length B (suc n) k)))

-- THE ORDER OF INPUTS
pub inputs_ordered : (n : ℕ) → Ordered Before (upto (bytes 0 256) n)
inputs_ordered n = upto_ordered (bytes 0 256) (bytes_rise 0 256) n
