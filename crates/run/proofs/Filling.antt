-- The eight places, field by field. Assumes nothing.
use Prim.Native.Nat.{ℕ, zero, suc, ◌+◌, ◌<◌, ◌≤◌}
use native.Mathlib.Omega.{arith}
use native.Mathlib.Decide.{ℕ_discrete}
use mathlib.Core.Path.{◌≡◌, refl, sym, ap, ap₂, ◌∙◌, subst}
use mathlib.Core.Logic.{◌⊎◌, inl, inr}
use mathlib.Core.Bool.{Bool}
use mathlib.Core.List.{List, [], ◌∷◌, map}
use lib.ListN.{length, get_or, take, drop, length-take, length-drop}
use lib.Seq.{get_or-take, get_or-drop, ext_get_or}
use lib.IntN.{ℤ, pos}
use denote.Param.Members.{Mut, Called}
use Rattle.std.specs.Array.{IsFromFnResultFrom}
use borrow.Author.Tests.{eq-eqb, ne_eqb, lt-ltb, le-ltb}
use Rattle.ground.specs.Pick.{pick}
use Rattle.card.specs.Run.{Bank, reg, absent, place_at}
use Rattle.run.specs.Carry.{field_at, Eight}

map_at : (f : ℕ → ℤ) (l : List ℕ) (j : ℕ) → j < length l → get_or (map f l) j (pos 0) ≡ f (get_or l j 0)
map_at f [] j h = absurd (omega arith)
map_at f (x ∷ l) zero h = refl
map_at f (x ∷ l) (suc j) h = map_at f l j (omega arith)

pub map_length : (f : ℕ → ℤ) (l : List ℕ) → length (map f l) ≡ length l
map_length f [] = refl
map_length f (x ∷ l) = ap suc (map_length f l)

-- what calls of one function at 0, 1, .. gave, if a call leaves it as it was
pub each_from_fn : {F : Type 0} {g : Mut F (ℕ × Unit {0}) ℤ} {f : F} (h : ℕ → ℤ) → ((t : ℕ) (y : ℤ) (q : F) → Called g f (t, tt) y q → (q ≡ f) × (y ≡ h t))
    → (ys : List ℤ) (i n : ℕ) → IsFromFnResultFrom g f ys i n → (t : ℕ) → i ≤ t → t < i + n → get_or ys t (pos 0) ≡ h t
each_from_fn h call ys i zero w t a b = absurd (omega arith)
each_from_fn {F} {g} {f} h call ys i (suc n) (q, y, e, k, more) t a b = by (call i y q k) (ℕ_discrete t i) (λ z. each_from_fn h call ys (i + 1) n z t)
  where
    by : (q ≡ f) × (y ≡ h i) → Dec (t ≡ i) → (IsFromFnResultFrom g f ys (i + 1) n → i + 1 ≤ t → t < i + 1 + n → get_or ys t (pos 0) ≡ h t) → get_or ys t (pos 0) ≡ h t
    by c (yes d) m = ap (λ (j : ℕ). get_or ys j (pos 0)) d ∙ e.1 (pos 0) ∙ c.1 ∙ ap h (sym d)
    by c (no d) m = m (subst (λ (x : F). IsFromFnResultFrom g x ys (i + 1) n) c.0 more) (omega arith) (omega arith)

pub told_all : (s : List ℕ) (at : ℕ) (bank : Bank) (out : List ℤ) → at + 8 ≤ length s → length out ≡ 8
    → ((t : ℕ) → 0 ≤ t → t < 8 → get_or out t (pos 0) ≡ field_at bank (get_or s (at + t) 0)) → out ≡ map (field_at bank) (take 8 (drop at s))
told_all s at bank out room long told =
    ext_get_or (pos 0) out (map (field_at bank) (take 8 (drop at s))) (long ∙ sym (map_length (field_at bank) (take 8 (drop at s)) ∙ eight))
    (λ j i.
    let k : j < 8 = omega arith in
    told j (omega arith) k
    ∙ ap (field_at bank) (sym (get_or-take 8 (drop at s) j 0 k ∙ get_or-drop at s j 0))
    ∙ sym (map_at (field_at bank) (take 8 (drop at s)) j (omega (arith, eight))))
  where
    eight : length (take 8 (drop at s)) ≡ 8
    eight = simp (length-take, length-drop) (omega arith)

-- ---- fields that are absent or a register

same_field : (bank : Bank) (f : ℕ) → (f ≡ 255) ⊎ (f < 64) → field_at bank f ≡ place_at bank f
unfolding pick
same_field bank f (inl e) =
    ap (λ (b : Bool). pick b (reg bank f) absent) (le-ltb f 64 (omega arith))
    ∙ sym (ap (λ (b : Bool). pick b absent (reg bank f)) (eq-eqb f 255 e))
same_field bank f (inr l) =
    ap (λ (b : Bool). pick b (reg bank f) absent) (lt-ltb f 64 l)
    ∙ sym (ap (λ (b : Bool). pick b absent (reg bank f)) (ne_eqb f 255 (λ e. omega arith)))

same_fields : (bank : Bank) (l : List ℕ) → ((t : ℕ) → t < length l → (get_or l t 0 ≡ 255) ⊎ (get_or l t 0 < 64))
    → map (field_at bank) l ≡ map (place_at bank) l
same_fields bank [] h = refl
same_fields bank (f ∷ l) h =
    ap₂ (λ (x : ℤ) (m : List ℤ). x ∷ m) (same_field bank f (h 0 (omega arith))) (same_fields bank l (λ t i. h (suc t) (omega arith)))

-- the eight fields of a situation
pub told_fields : {s : List ℕ} {at : ℕ} (bank : Bank) {out : List ℤ} → Eight s at → out ≡ map (field_at bank) (take 8 (drop at s)) → out ≡ map (place_at bank) (take 8 (drop at s))
told_fields {s} {at} bank e o =
    o ∙ same_fields bank (take 8 (drop at s))
    (λ t h.
    let k : t < 8 = (let n = length-take 8 (drop at s) in omega arith) in
    subst (λ (x : ℕ). (x ≡ 255) ⊎ (x < 64)) (sym (get_or-take 8 (drop at s) t 0 k ∙ get_or-drop at s t 0)) (e.fields t k))
