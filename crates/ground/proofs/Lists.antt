-- Laws of lists that several crates ask for and the library has not. Assumes nothing.
use mathlib.Core.Path.{◌≡◌, refl, sym, ap, ◌∙◌}
use mathlib.Core.List.{List, [], ◌∷◌, ◌++◌, map, append_assoc}
use Prim.Native.Nat.{ℕ, zero, suc, ◌+◌, ◌-◌, ◌<◌, ◌≤◌}
use native.Mathlib.Omega.{arith}
use native.Mathlib.Numerals.{add-one}
use native.Mathlib.Nat.{add-zero, sub_self}
use lib.ListN.{length, get_or, take, drop, set, length-map, length-drop}
use lib.Seq.{drop-cons, take-add, take-suc, get_or-drop, drop-drop, take_at, drop_at}
use Rattle.ground.specs.Lists.{each}

-- ---- `map`

pub map_append : {A B : Type 0} (f : A → B) (l k : List A) → map f (l ++ k) ≡ map f l ++ map f k
map_append f [] k = refl
map_append f (x ∷ l) k = ap (λ v. f x ∷ v) (map_append f l k)

pub map_set : {A B : Type 0} (f : A → B) (l : List A) (i : ℕ) (a : A) → map f (set l i a) ≡ set (map f l) i (f a)
map_set f [] i a = refl
map_set f (x ∷ l) zero a = refl
map_set f (x ∷ l) (suc i) a = ap (λ v. f x ∷ v) (map_set f l i a)

pub get_or_map : {A B : Type 0} (f : A → B) (l : List A) (i : ℕ) (d : A) (e : B) → i < length l → get_or (map f l) i e ≡ f (get_or l i d)
get_or_map f [] i d e h = absurd (omega arith)
get_or_map f (x ∷ l) zero d e h = refl
get_or_map f (x ∷ l) (suc i) d e h = get_or_map f l i d e (omega arith)

-- the length of a list, from that of its image
pub unmapped : {A B : Type 0} (f : A → B) (l : List A) (n : ℕ) → length (map f l) ≡ n → length l ≡ n
unmapped f l n e = sym (length-map l f) ∙ e

-- ---- `each`

pub each_append : {A B : Type 0} (f : A → List B) (l k : List A) → each f (l ++ k) ≡ each f l ++ each f k
each_append f [] k = refl
each_append f (x ∷ l) k = ap (λ r. f x ++ r) (each_append f l k) ∙ sym (append_assoc (f x) (each f l) (each f k))

-- ---- segments

module _ {A : Type 0} where
  -- the first of what is left at a place, at the code's i + 1
  pub peel : (s : List A) (i : ℕ) (d : A) → i < length s → drop i s ≡ get_or s i d ∷ drop (i + 1) s
  peel s i d h = drop-cons s i d h ∙ ap (λ (n : ℕ). get_or s i d ∷ drop n s) (sym (add-one i))

  -- the same with the next place under another name
  pub peel_to : (s : List A) (i b : ℕ) (d : A) → b ≡ i + 1 → i < length s → drop i s ≡ get_or s i d ∷ drop b s
  peel_to s i b d e h = peel s i d h ∙ ap (λ (n : ℕ). get_or s i d ∷ drop n s) (sym e)

  -- a segment of n + m elements is one of n and then one of m
  pub segment_add : (s : List A) (at n m : ℕ) → take (n + m) (drop at s) ≡ take n (drop at s) ++ take m (drop (at + n) s)
  segment_add s at n m = take-add n m (drop at s) ∙ ap (λ l. take n (drop at s) ++ take m l) (drop-drop n at s)

  -- what follows a beginning that is known
  pub follows : (s b c : List A) (at : ℕ) → drop at s ≡ b ++ c → drop (at + length b) s ≡ c
  follows s b c at e = sym (drop-drop (length b) at s) ∙ ap (drop (length b)) e ∙ drop_at b c (length b) refl

  -- and the beginning is the segment
  pub begins : (s b c : List A) (at : ℕ) → drop at s ≡ b ++ c → take (length b) (drop at s) ≡ b
  begins s b c at e = ap (take (length b)) e ∙ take_at b c (length b) refl

-- no element
pub take_none : {A : Type 0} (n : ℕ) (l : List A) → take (n - n) l ≡ []
take_none n l = ap (λ k. take k l) (sub_self n)

-- the part from a up to i, and the element at i
pub part_more : {A : Type 0} (s : List A) (d : A) (a i : ℕ) → a ≤ i → i < length s → take (i + 1 - a) (drop a s) ≡ take (i - a) (drop a s) ++ get_or s i d ∷ []
part_more s d a i h l =
    let n : i + 1 - a ≡ suc (i - a) = omega arith in
    let e = length-drop a s in
    let m : a + (i - a) ≡ i = omega arith in
    ap (λ k. take k (drop a s)) n ∙ take-suc (drop a s) (i - a) d (omega arith) ∙ ap (λ x. take (i - a) (drop a s) ++ x ∷ []) (get_or-drop a s (i - a) d ∙ ap (λ k. get_or s k d) m)

-- ---- what stands at a place of a list, told by the list that begins there

module _ (s : List ℕ) (at : ℕ) {b : List ℕ} (e : drop at s ≡ b) where
  pub byte_here : (k : ℕ) → get_or s (at + k) 0 ≡ get_or b k 0
  byte_here k = sym (get_or-drop at s k 0) ∙ ap (λ (l : List ℕ). get_or l k 0) e

  pub first_here : get_or s at 0 ≡ get_or b 0 0
  first_here = ap (λ (n : ℕ). get_or s n 0) (sym (add-zero at)) ∙ byte_here 0

  pub left_here : length s - at ≡ length b
  left_here = sym (length-drop at s) ∙ ap length e

  pub later_here : (n : ℕ) → drop (at + n) s ≡ drop n b
  later_here n = sym (drop-drop n at s) ∙ ap (drop n) e

-- the list from a place on, by its first bytes
module _ (s : List ℕ) where
  pub one_there : (at : ℕ) → at + 1 ≤ length s → drop at s ≡ get_or s at 0 ∷ drop (at + 1) s
  one_there at l = drop-cons s at 0 (omega arith) ∙ ap (λ (n : ℕ). get_or s at 0 ∷ drop n s) (sym (add-one at))

  pub two_there : (at : ℕ) → at + 2 ≤ length s → drop at s ≡ get_or s at 0 ∷ get_or s (at + 1) 0 ∷ drop (at + 2) s
  two_there at l =
      one_there at (omega arith)
      ∙ ap (λ (x : List ℕ). get_or s at 0 ∷ x) (one_there (at + 1) (omega arith)
      ∙ ap (λ (n : ℕ). get_or s (at + 1) 0 ∷ drop n s) (let e : at + 1 + 1 ≡ at + 2 = omega arith in e))

  pub three_there : (at : ℕ) → at + 3 ≤ length s → drop at s ≡ get_or s at 0 ∷ get_or s (at + 1) 0 ∷ get_or s (at + 2) 0 ∷ drop (at + 3) s
  three_there at l =
      two_there at (omega arith)
      ∙ ap (λ (x : List ℕ). get_or s at 0 ∷ get_or s (at + 1) 0 ∷ x) (one_there (at + 2) (omega arith)
      ∙ ap (λ (n : ℕ). get_or s (at + 2) 0 ∷ drop n s) (let e : at + 2 + 1 ≡ at + 3 = omega arith in e))

  pub four_there : (at : ℕ) → at + 4 ≤ length s
      → drop at s ≡ get_or s at 0 ∷ get_or s (at + 1) 0 ∷ get_or s (at + 2) 0 ∷ get_or s (at + 3) 0 ∷ drop (at + 4) s
  four_there at l =
      three_there at (omega arith)
      ∙ ap (λ (x : List ℕ). get_or s at 0 ∷ get_or s (at + 1) 0 ∷ get_or s (at + 2) 0 ∷ x) (one_there (at + 3) (omega arith)
      ∙ ap (λ (n : ℕ). get_or s (at + 3) 0 ∷ drop n s) (let e : at + 3 + 1 ≡ at + 4 = omega arith in e))
