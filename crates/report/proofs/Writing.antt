-- Texts written one after the other, and the digits of a number. Assumes nothing.
use mathlib.Core.Path.{◌≡◌, refl, sym, ap, ◌∙◌, subst}
use mathlib.Core.List.{List, [], ◌∷◌, ◌++◌, append-nil, append_assoc}
use Prim.Native.Nat.{ℕ, zero, suc, ◌+◌, ◌-◌, ◌/◌, ◌%◌, ◌≤◌, ◌<◌}
use native.Mathlib.Omega.{arith}
use native.Mathlib.Decide.{dec_lt}
use native.Mathlib.Numerals.{add-one}
use lib.ListN.{length, take, drop, get_or, length-append, length-take, length-drop}
use lib.Seq.{take-suc, drop-drop}
use borrow.Author.Tests.{lt-ltb, le-ltb}
use borrow.Rule.Slice.PartMut.{put_mid}
use Rattle.std.proofs.lemmas.Slice.{take-put_mid, drop-put_mid}
use lib.IntN.{ℤ}
use Rattle.ground.specs.Pick.{pick}
use Rattle.ground.specs.Lists.{each}
use Rattle.ground.proofs.Lists.{each_append}
use Rattle.report.specs.Lines.{spaced}
use Rattle.report.specs.Text.{digits, Wrote}

pub wrote_none : (l : List ℕ) (at : ℕ) → Wrote l l at at []
wrote_none l at = record { size = refl; next = omega arith; before = sym (append-nil (take at l)); beyond = refl }

pub wrote_then : {a b c : List ℕ} {at m r : ℕ} {t u : List ℕ} → Wrote a b at m t → Wrote b c m r u → Wrote a c at r (t ++ u)
wrote_then {a} {b} {c} {at} {m} {r} {t} {u} x y =
    record {
      size = y.size ∙ x.size;
      next = let n = x.next in let k = y.next in let l = length-append t u in omega arith;
      before = y.before ∙ ap (λ (s : List ℕ). s ++ u) x.before ∙ append_assoc (take at a) t u;
      beyond =
          y.beyond
          ∙ ap (λ (n : ℕ). drop n b) y.next
          ∙ sym (drop-drop (length u) m b)
          ∙ ap (drop (length u)) x.beyond
          ∙ drop-drop (length u) m a
          ∙ ap (λ (n : ℕ). drop n a) (sym y.next);
    }

pub digits_small : (k n : ℕ) → n < 10 → digits (suc k) n ≡ (n + 48) ∷ []
unfolding digits pick
digits_small k n h = simp (lt-ltb n 10 h)

pub digits_more : (k n : ℕ) → 10 ≤ n → digits (suc k) n ≡ digits k (n / 10) ++ ((n % 10 + 48) ∷ [])
unfolding digits pick
digits_more k n h = simp (le-ltb n 10 h)

few_step : (k n : ℕ) → length (digits k (n / 10)) ≤ k → Dec (n < 10) → length (digits (suc k) n) ≤ suc k
few_step k n f (yes h) = rw (digits_small k n h) (omega arith)
few_step k n f (no h) =
    let m : 10 ≤ n = omega arith in
    let l = length-append (digits k (n / 10)) ((n % 10 + 48) ∷ []) in
    rw (digits_more k n m) (omega arith)

pub digits_few : (k n : ℕ) → length (digits k n) ≤ k
unfolding digits
digits_few zero n = omega arith
digits_few (suc k) n = few_step k n (digits_few k (n / 10)) (dec_lt n 10)

-- ---- the three returns of a number's writer

pub put_none : (l : List ℕ) (at n k : ℕ) → k ≡ 0 → Wrote l l at at (digits k n)
unfolding digits
put_none l at n k e = rw e (wrote_none l at)

pub put_small : {a b : List ℕ} {at r : ℕ} (n k : ℕ) → (k ≡ 0 → ⊥) → n < 10 → Wrote a b at r ((n + 48) ∷ []) → Wrote a b at r (digits k n)
put_small n zero z h w = absurd (z refl)
put_small n (suc k) z h w = rw (digits_small k n h) w

pub put_more : {a b c : List ℕ} {at m r : ℕ} (n k : ℕ) → (k ≡ 0 → ⊥) → 10 ≤ n → Wrote a b at m (digits (k - 1) (n / 10)) → Wrote b c m r ((n % 10 + 48) ∷ [])
    → Wrote a c at r (digits k n)
put_more n zero z h x y = absurd (z refl)
put_more {a} {b} {c} {at} {m} {r} n (suc k) z h x y =
    let e : suc k - 1 ≡ k = omega arith in
    rw (digits_more k n h) (wrote_then (subst (λ (j : ℕ). Wrote a b at m (digits j (n / 10))) e x) y)

-- ---- a text

pub wrote_text : (l text new : List ℕ) (at : ℕ) → at + length text ≤ length l → new ≡ text → Wrote l (put_mid at (at + length text - at) l new) at (at + length text) text
wrote_text l text new at h e =
    let k : length new ≡ length text = ap length e in
    let p : at ≤ length l = omega arith in
    record {
      size = simp (length-append, length-take, length-drop) (omega arith);
      next = refl;
      before = take-put_mid at (at + length text - at) l new (at + length text) (omega arith) p ∙ ap (λ t. take at l ++ t) e;
      beyond = drop-put_mid at (at + length text - at) l new (at + length text) (omega arith) p (omega arith);
    }

-- ---- one position more

pub spaced_more : {a b c : List ℕ} {at m r : ℕ} (places : List ℤ) (i : ℕ) (d : ℤ) → i < length places → Wrote a b at m (each spaced (take i places))
    → Wrote b c m r (spaced (get_or places i d)) → Wrote a c at r (each spaced (take (i + 1) places))
spaced_more {a} {b} {c} {at} {m} {r} places i d h x y =
    let t : take (i + 1) places ≡ take i places ++ (get_or places i d ∷ []) = rw add-one (take-suc places i d h) in
    rw (t, each_append) (subst (λ (u : List ℕ). Wrote a c at r (each spaced (take i places) ++ u)) (sym (append-nil (spaced (get_or places i d)))) (wrote_then x y))
