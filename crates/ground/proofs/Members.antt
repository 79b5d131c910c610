-- Members of lists, one list that is the beginning of another, and lists in order. Assumes nothing.
use mathlib.Core.Path.{◌≡◌, refl, sym, ap, ap₂, ◌∙◌, subst}
use mathlib.Core.Logic.{◌⊎◌, inl, inr}
use mathlib.Core.List.Memᴰ
use mathlib.Core.List.{List, [], ◌∷◌, ◌++◌, map, append-nil, append_assoc, Memᴰ}
use Prim.Native.Nat.{ℕ, zero, suc, ◌≤◌, ◌<◌}
use native.Mathlib.Omega.{arith}
use lib.ListN.{length, get_or, take, drop, take-append-drop, length-append, get_or-append}
use lib.Seq.{take-append-le}
use Rattle.ground.specs.Lists.{each}
use Rattle.ground.proofs.Lists.{each_append, map_append}

-- ---- members of `each` and `map`

pub each_each : {A B C : Type 0} (g : B → List C) (f : A → List B) (l : List A) → each g (each f l) ≡ each (λ x. each g (f x)) l
each_each g f [] = refl
each_each g f (x ∷ l) = each_append g (f x) (each f l) ∙ ap (λ r. each g (f x) ++ r) (each_each g f l)

pub each_cases : {A B : Type 0} (g : A → List B) (l : List A) {y : B} → Memᴰ y (each g l) → (x : A) × Memᴰ x l × Memᴰ y (g x)
each_cases g [] m = absurd (elim m [ ])
each_cases {A} g (x ∷ l) {y} m = by (λ k. each_cases g l k) (Memᴰ.append_cases (g x) m)
  where
    by : (Memᴰ y (each g l) → (z : A) × Memᴰ z l × Memᴰ y (g z)) → Memᴰ y (g x) ⊎ Memᴰ y (each g l) → (z : A) × Memᴰ z (x ∷ l) × Memᴰ y (g z)
    by ih (inl k) = (x, Memᴰ.head refl, k)
    by ih (inr k) = let r = ih k in (r.0, Memᴰ.tail r.1, r.2)

pub each_has : {A B : Type 0} (g : A → List B) {x : A} {l : List A} {y : B} → Memᴰ x l → Memᴰ y (g x) → Memᴰ y (each g l)
each_has g (Memᴰ.head {xs = xs} e) k = Memᴰ.append_left (each g xs) (rw e at k)
each_has g (Memᴰ.tail {x = x} m) k = Memᴰ.append_right (g x) (each_has g m k)

pub map_has : {A B : Type 0} (f : A → B) {x : A} {l : List A} → Memᴰ x l → Memᴰ (f x) (map f l)
map_has f (Memᴰ.head e) = Memᴰ.head (ap f e)
map_has f (Memᴰ.tail m) = Memᴰ.tail (map_has f m)

pub get_or_mem : {A : Type 0} (l : List A) (i : ℕ) (d : A) → i < length l → Memᴰ (get_or l i d) l
get_or_mem [] i d h = absurd (omega arith)
get_or_mem (x ∷ l) zero d h = Memᴰ.head refl
get_or_mem (x ∷ l) (suc i) d h = Memᴰ.tail (get_or_mem l i d (omega arith))

pub mem_get_or : {A : Type 0} (d : A) {x : A} {l : List A} → Memᴰ x l → (i : ℕ) × ((i < length l) × (get_or l i d ≡ x))
mem_get_or d (Memᴰ.head e) = (0, (omega arith, sym e))
mem_get_or d (Memᴰ.tail m) = let r = mem_get_or d m in (suc r.0, (omega (arith, r.1.0), r.1.1))

pub mem_split : {A : Type 0} {x : A} {l : List A} → Memᴰ x l → (pre : List A) × ((post : List A) × (l ≡ pre ++ x ∷ post))
mem_split (Memᴰ.head {xs = xs} e) = ([], (xs, ap (λ y. y ∷ xs) (sym e)))
mem_split (Memᴰ.tail {x = y} m) = let r = mem_split m in (y ∷ r.0, (r.1.0, ap (λ k. y ∷ k) r.1.1))

-- ---- one list is the beginning of another

pub record Prefix {A : Type 0} (l k : List A) : Type 0 where
  pub more : List A
  pub whole : l ++ more ≡ k

module _ {A : Type 0} where
  pub ≼_self : (l : List A) → Prefix l l
  ≼_self l = record { more = []; whole = append-nil l }

  pub ≼_trans : {l k j : List A} → Prefix l k → Prefix k j → Prefix l j
  ≼_trans {l = l} a b = record { more = a.more ++ b.more; whole = sym (append_assoc l a.more b.more) ∙ ap (λ v. v ++ b.more) a.whole ∙ b.whole }

  pub take_≼ : (n : ℕ) (l : List A) → Prefix (take n l) l
  take_≼ n l = record { more = drop n l; whole = take-append-drop n l }

  -- what is taken of a beginning that is long enough is taken of the whole
  pub take_prefix : (n : ℕ) {l k : List A} → Prefix l k → n ≤ length l → take n k ≡ take n l
  take_prefix n {l} a h = ap (λ v. take n v) (sym a.whole) ∙ take-append-le n l a.more h

  pub ≼_mem : {s : A} {l k : List A} → Prefix l k → Memᴰ s l → Memᴰ s k
  ≼_mem a m = rw a.whole at (Memᴰ.append_left a.more m)

  pub ≼_length : {l k : List A} → Prefix l k → length l ≤ length k
  ≼_length {l} a = omega (arith, ap length a.whole, length-append l a.more)

  pub ≼_at : {l k : List A} (d : A) → Prefix l k → (i : ℕ) → i < length l → get_or k i d ≡ get_or l i d
  ≼_at {l} d a i h = ap (λ v. get_or v i d) (sym a.whole) ∙ get_or-append l a.more d i h

pub each_≼ : {A B : Type 0} (g : A → List B) {l k : List A} → Prefix l k → Prefix (each g l) (each g k)
each_≼ g {l} a = record { more = each g a.more; whole = sym (each_append g l a.more) ∙ ap (λ v. each g v) a.whole }

pub map_≼ : {A B : Type 0} (f : A → B) {l k : List A} → Prefix l k → Prefix (map f l) (map f k)
map_≼ f {l} a = record { more = map f a.more; whole = sym (map_append f l a.more) ∙ ap (λ v. map f v) a.whole }

-- ---- lists in order

module _ {B : Type 0} (R : B → B → Type 0) where
  abbrev pub Ordered : List B → Type 0
  Ordered [] = Unit {0}
  Ordered (s ∷ l) = ((t : B) → Memᴰ t l → R s t) × Ordered l

  pub ordered_append : (l k : List B) → Ordered l → Ordered k → ((s t : B) → Memᴰ s l → Memᴰ t k → R s t) → Ordered (l ++ k)
  ordered_append [] k o q c = q
  ordered_append (s ∷ l) k o q c = (λ t m. by t (Memᴰ.append_cases l m), ordered_append l k o.1 q (λ a b m j. c a b (Memᴰ.tail m) j))
    where
      by : (t : B) → Memᴰ t l ⊎ Memᴰ t k → R s t
      by t (inl m) = o.0 t m
      by t (inr m) = c s t (Memᴰ.head refl) m

  -- whatever stands before in order
  pub ordered_cross : (l k : List B) → Ordered (l ++ k) → (s t : B) → Memᴰ s l → Memᴰ t k → R s t
  ordered_cross [] k o s t m n = absurd (elim m [ ])
  ordered_cross (x ∷ l) k o s t m n = by (λ j. ordered_cross l k o.1 s t j n) (Memᴰ.cases_cons m)
    where
      by : (Memᴰ s l → R s t) → (s ≡ x) ⊎ Memᴰ s l → R s t
      by ih (inl e) = rw e (o.0 t (Memᴰ.append_right l n))
      by ih (inr j) = ih j

  pub ordered_skip : (l : List B) (s : B) (k : List B) → Ordered (l ++ s ∷ k) → Ordered (l ++ k)
  ordered_skip [] s k o = o.1
  ordered_skip (x ∷ l) s k o = (λ t m. o.0 t (more t (Memᴰ.append_cases l m)), ordered_skip l s k o.1)
    where
      more : (t : B) → Memᴰ t l ⊎ Memᴰ t k → Memᴰ t (l ++ s ∷ k)
      more t (inl m) = Memᴰ.append_left (s ∷ k) m
      more t (inr m) = Memᴰ.append_right l (Memᴰ.tail m)

pub ordered_each : {B C : Type 0} (R : B → B → Type 0) (Q : C → C → Type 0) (g : B → List C) (l : List B) → Ordered R l → ((s : B) → Ordered Q (g s))
    → ((s t : B) → R s t → (a b : C) → Memᴰ a (g s) → Memᴰ b (g t) → Q a b) → Ordered Q (each g l)
ordered_each R Q g [] o h c = tt
ordered_each {B} {C} R Q g (s ∷ l) o h c = ordered_append Q (g s) (each g l) (h s) (ordered_each R Q g l o.1 h c) cross
  where
    cross : (a b : C) → Memᴰ a (g s) → Memᴰ b (each g l) → Q a b
    cross a b m k = let r = each_cases g l k in c s r.0 (o.0 r.0 r.1) a b m r.2

-- two lists in a strict order with the same members are one list
pub one_order : {B : Type 0} (R : B → B → Type 0) → ((s t : B) → R s t → R t s → ⊥) → (l k : List B) → Ordered R l → Ordered R k
    → ((t : B) → Memᴰ t l → Memᴰ t k) → ((t : B) → Memᴰ t k → Memᴰ t l) → l ≡ k
one_order R asym [] [] o q f g = refl
one_order R asym [] (y ∷ k) o q f g = absurd (elim (g y (Memᴰ.head refl)) [ ])
one_order R asym (x ∷ l) [] o q f g = absurd (elim (f x (Memᴰ.head refl)) [ ])
one_order {B} R asym (x ∷ l) (y ∷ k) o q f g = by (λ e a b. one_order R asym l k o.1 q.1 a b) (Memᴰ.cases_cons (f x (Memᴰ.head refl))) (Memᴰ.cases_cons (g y (Memᴰ.head refl)))
  where
    both : (y ≡ x → ((t : B) → Memᴰ t l → Memᴰ t k) → ((t : B) → Memᴰ t k → Memᴰ t l) → l ≡ k) → x ≡ y → x ∷ l ≡ y ∷ k
    both ih e = ap₂ (λ h r. h ∷ r) e (ih (sym e) (λ t m. left t m (Memᴰ.cases_cons (f t (Memᴰ.tail m)))) (λ t m. right t m (Memᴰ.cases_cons (g t (Memᴰ.tail m)))))
      where
        left : (t : B) → Memᴰ t l → (t ≡ y) ⊎ Memᴰ t k → Memᴰ t k
        left t m (inr n) = n
        left t m (inl p) = let r : R x x = subst (λ v. R x v) (p ∙ sym e) (o.0 t m) in absurd (asym x x r r)

        right : (t : B) → Memᴰ t k → (t ≡ x) ⊎ Memᴰ t l → Memᴰ t l
        right t m (inr n) = n
        right t m (inl p) = let r : R y y = subst (λ v. R y v) (p ∙ e) (q.0 t m) in absurd (asym y y r r)

    by : (y ≡ x → ((t : B) → Memᴰ t l → Memᴰ t k) → ((t : B) → Memᴰ t k → Memᴰ t l) → l ≡ k) → (x ≡ y) ⊎ Memᴰ x k → (y ≡ x) ⊎ Memᴰ y l → x ∷ l ≡ y ∷ k
    by ih (inl e) n = both ih e
    by ih (inr m) (inl e) = both ih (sym e)
    by ih (inr m) (inr n) = absurd (asym x y (o.0 y n) (q.0 x m))
