-- Two lists with places have the same register numbers exactly if records, order, absences and sharing are the same. Assumes nothing.
use mathlib.Core.Path.{◌≡◌, refl, sym, ap, ap₂, ◌∙◌, subst}
use mathlib.Core.Logic.{◌⊎◌, inl, inr, ◌↔◌}
use mathlib.Core.Bool.{Bool, true, false, cond}
use mathlib.Core.List.Memᴰ
use mathlib.Core.List.{List, [], ◌∷◌, Memᴰ, nil≢cons, cons≢nil, head-eq_of_cons-eq, tail-eq_of_cons-eq}
use mathlib.Core.Option.{Option, none, some, some-injective}
use Prim.Native.Nat.{ℕ, zero, suc, ◌+◌}
use native.Mathlib.Omega.{arith}
use lib.ListN.{length, get_or}
use lib.Seq.{ext_get_or}
use Rattle.paths.specs.Search.{Thread, ons}
use Rattle.paths.specs.Registers.{Tags, Key, holds, held_by, index, registers, renamed, rename, number}
use Rattle.paths.specs.Equal.{same_tag, place_at, Alike}
use Rattle.paths.proofs.Numbers.{Apart, number_rename}
use Rattle.paths.proofs.Next.{apart_index}
use Rattle.paths.proofs.Builder.{tag_eq, tag_refl}

-- ---- the place at a position, renamed and held

abbrev over : (ℕ → ℕ) → Option ℕ → Option ℕ
over f none = none
over f (some p) = some (f p)

tags_renamed : (σ : ℕ → ℕ → ℕ) (u : ℕ) (τ : Tags) (t : ℕ) → get_or (renamed σ u τ) t none ≡ over (σ (u + t)) (get_or τ t none)
tags_renamed σ u [] t = refl
tags_renamed σ u (none ∷ τ) zero = refl
tags_renamed σ u (some p ∷ τ) zero = let e : u ≡ u + 0 = omega arith in ap (λ v. some (σ v p)) e
tags_renamed σ u (none ∷ τ) (suc t) = let e : suc u + t ≡ u + suc t = omega arith in tags_renamed σ (suc u) τ t ∙ ap (λ v. over (σ v) (get_or τ t none)) e
tags_renamed σ u (some p ∷ τ) (suc t) = let e : suc u + t ≡ u + suc t = omega arith in tags_renamed σ (suc u) τ t ∙ ap (λ v. over (σ v) (get_or τ t none)) e

place_renamed : (σ : ℕ → ℕ → ℕ) (l : List (Thread Tags)) (i t : ℕ) → place_at (rename σ l) i t ≡ over (σ t) (place_at l i t)
place_renamed σ [] i t = refl
place_renamed σ (s ∷ l) zero t = let e : 0 + t ≡ t = omega arith in tags_renamed σ 0 s.had t ∙ ap (λ v. over (σ v) (get_or s.had t none)) e
place_renamed σ (s ∷ l) (suc i) t = place_renamed σ l i t

ons_renamed : (σ : ℕ → ℕ → ℕ) (l : List (Thread Tags)) → ons (rename σ l) ≡ ons l
ons_renamed σ [] = refl
ons_renamed σ (s ∷ l) = ap (λ r. s.on ∷ r) (ons_renamed σ l)

tag_held : (u : ℕ) (τ : Tags) (t p : ℕ) → get_or τ t none ≡ some p → Memᴰ (u + t, p) (holds u τ)
tag_held u [] t p e = let z : ◌≡◌ {A = ℕ} 0 1 = cc in absurd (omega arith)
tag_held u (none ∷ τ) zero p e = let z : ◌≡◌ {A = ℕ} 0 1 = cc in absurd (omega arith)
tag_held u (some q ∷ τ) zero p e = let z : u + 0 ≡ u = omega arith in Memᴰ.head (ap₂ (λ a b. (a, b)) z (sym (some-injective q p e)))
tag_held u (none ∷ τ) (suc t) p e = let z : suc u + t ≡ u + suc t = omega arith in subst (λ v. Memᴰ (v, p) (holds (suc u) τ)) z (tag_held (suc u) τ t p e)
tag_held u (some q ∷ τ) (suc t) p e = let z : suc u + t ≡ u + suc t = omega arith in Memᴰ.tail (subst (λ v. Memᴰ (v, p) (holds (suc u) τ)) z (tag_held (suc u) τ t p e))

place_held : (l : List (Thread Tags)) (i t p : ℕ) → place_at l i t ≡ some p → Memᴰ (t, p) (held_by l)
place_held [] i t p e = let z : ◌≡◌ {A = ℕ} 0 1 = cc in absurd (omega arith)
place_held (s ∷ l) zero t p e = let z : 0 + t ≡ t = omega arith in Memᴰ.append_left (held_by l) (subst (λ v. Memᴰ (v, p) (holds 0 s.had)) z (tag_held 0 s.had t p e))
place_held (s ∷ l) (suc i) t p e = Memᴰ.append_right (holds 0 s.had) (place_held l i t p e)

held_tag : (u : ℕ) (τ : Tags) {k : Key} → Memᴰ k (holds u τ) → (t : ℕ) × ((k.0 ≡ u + t) × (get_or τ t none ≡ some k.1))
held_tag u [] m = absurd (elim m [ ])
held_tag u (none ∷ τ) m = let r = held_tag (suc u) τ m in (suc r.0, (omega (arith, r.1.0), r.1.1))
held_tag u (some q ∷ τ) {k} m = by (λ n. held_tag (suc u) τ n) (Memᴰ.cases_cons m)
  where
    by : (Memᴰ k (holds (suc u) τ) → (t : ℕ) × ((k.0 ≡ suc u + t) × (get_or τ t none ≡ some k.1))) → (k ≡ (u, q)) ⊎ Memᴰ k (holds (suc u) τ)
        → (t : ℕ) × ((k.0 ≡ u + t) × (get_or (some q ∷ τ) t none ≡ some k.1))
    by ih (inl e) = let z : u ≡ u + 0 = omega arith in (0, (ap (λ v. v.0) e ∙ z, ap (λ v. some v.1) (sym e)))
    by ih (inr n) = let r = ih n in (suc r.0, (omega (arith, r.1.0), r.1.1))

held_place : (l : List (Thread Tags)) {k : Key} → Memᴰ k (held_by l) → (i : ℕ) × (place_at l i k.0 ≡ some k.1)
held_place [] m = absurd (elim m [ ])
held_place (s ∷ l) {k} m = by (λ n. held_place l n) (Memᴰ.append_cases (holds 0 s.had) m)
  where
    by : (Memᴰ k (held_by l) → (i : ℕ) × (place_at l i k.0 ≡ some k.1)) → Memᴰ k (holds 0 s.had) ⊎ Memᴰ k (held_by l) → (i : ℕ) × (place_at (s ∷ l) i k.0 ≡ some k.1)
    by ih (inl n) = let r = held_tag 0 s.had n in let z : k.0 ≡ r.0 = omega (arith, r.1.0) in (0, subst (λ v. get_or s.had v none ≡ some k.1) (sym z) r.1.1)
    by ih (inr n) = let r = ih n in (suc r.0, r.1)

-- ---- equal numbers, equal sharing

over_none : (f : ℕ → ℕ) (o : Option ℕ) → over f o ≡ none → o ≡ none
over_none f none e = refl
over_none f (some p) e = let z : ◌≡◌ {A = ℕ} 0 1 = cc in absurd (omega arith)

module _ (l : List (Thread Tags)) where
  ι : ℕ → ℕ → ℕ
  ι t p = index (t, p) (registers l)

  -- the numbers of one tag tell its places apart
  same_number : (i j t : ℕ) (o q : Option ℕ) → place_at l i t ≡ o → place_at l j t ≡ q → over (ι t) o ≡ over (ι t) q → o ≡ q
  unfolding ι
  same_number i j t none none x y e = refl
  same_number i j t none (some q) x y e = let z : ◌≡◌ {A = ℕ} 0 1 = cc in absurd (omega arith)
  same_number i j t (some p) none x y e = let z : ◌≡◌ {A = ℕ} 0 1 = cc in absurd (omega arith)
  same_number i j t (some p) (some q) x y e =
      ap (λ k. some k.1) (apart_index l (t, p) (t, q) (place_held l i t p x) (place_held l j t q y) (ap (λ v. (t, v)) (some-injective (ι t p) (ι t q) e)))

  number_place : (i t : ℕ) → place_at (number l) i t ≡ over (ι t) (place_at l i t)
  unfolding number ι
  number_place i t = place_renamed (λ t p. index (t, p) (registers l)) l i t

  number_ons : ons (number l) ≡ ons l
  unfolding number
  number_ons = ons_renamed (λ t p. index (t, p) (registers l)) l

module _ (l k : List (Thread Tags)) (e : number l ≡ number k) where
  there : (i t : ℕ) → over (ι l t) (place_at l i t) ≡ over (ι k t) (place_at k i t)
  there i t = sym (number_place l i t) ∙ ap (λ v. place_at v i t) e ∙ number_place k i t

  absent_too : (i t : ℕ) → place_at l i t ≡ none → place_at k i t ≡ none
  absent_too i t h = over_none (ι k t) (place_at k i t) (sym (there i t) ∙ ap (λ o. over (ι l t) o) h)

  shared_too : (i j t : ℕ) → place_at l i t ≡ place_at l j t → place_at k i t ≡ place_at k j t
  shared_too i j t h = same_number k i j t (place_at k i t) (place_at k j t) refl refl (sym (there i t) ∙ ap (λ o. over (ι l t) o) h ∙ there j t)

number_alike : (l k : List (Thread Tags)) → number l ≡ number k → Alike l k
number_alike l k e =
    record {
      records = sym (number_ons l) ∙ ap ons e ∙ number_ons k;
      absent = λ i t. (absent_too l k e i t, absent_too k l (sym e) i t);
      sharing = λ i j t. (shared_too l k e i j t, shared_too k l (sym e) i j t);
    }

-- ---- equal sharing, equal numbers

abbrev the : Option ℕ → ℕ
the none = 0
the (some p) = p

-- the place of k where l holds p for tag t
abbrev partner : ℕ → ℕ → List (Thread Tags) → List (Thread Tags) → ℕ
partner t p [] k = 0
partner t p (s ∷ l) [] = 0
partner t p (s ∷ l) (u ∷ k) = cond (same_tag (get_or s.had t none) (some p)) (the (get_or u.had t none)) (partner t p l k)

abbrev Partner : ℕ → ℕ → List (Thread Tags) → List (Thread Tags) → ℕ → Type 0
Partner t p l k q = (j : ℕ) × ((place_at l j t ≡ some p) × (place_at k j t ≡ some q))

partner_there : (t p : ℕ) (l k : List (Thread Tags)) → ons l ≡ ons k → ((i : ℕ) → place_at k i t ≡ none → place_at l i t ≡ none)
    → (i : ℕ) → place_at l i t ≡ some p → Partner t p l k (partner t p l k)
partner_there t p [] k r h i e = let z : ◌≡◌ {A = ℕ} 0 1 = cc in absurd (omega arith)
partner_there t p (s ∷ l) [] r h i e = absurd (cons≢nil r)
partner_there t p (s ∷ l) (u ∷ k) r h i e =
    by (λ j f. partner_there t p l k (tail-eq_of_cons-eq r) (λ i g. h (suc i) g) j f) (same_tag (get_or s.had t none) (some p)) refl
  where
    value : get_or s.had t none ≡ some p → (o : Option ℕ) → get_or u.had t none ≡ o → o ≡ some (the o)
    value f none g = let q = h 0 g in let z : ◌≡◌ {A = ℕ} 0 1 = cc in absurd (omega arith)
    value f (some q) g = refl

    next : ((j : ℕ) → place_at l j t ≡ some p → Partner t p l k (partner t p l k)) → same_tag (get_or s.had t none) (some p) ≡ false → (i : ℕ) → place_at (s ∷ l) i t ≡ some p
        → Partner t p (s ∷ l) (u ∷ k) (partner t p l k)
    next ih f zero e = let g : same_tag (get_or s.had t none) (some p) ≡ true = rw e (tag_refl (some p)) in let z : ◌≡◌ {A = ℕ} 0 1 = cc in absurd (omega arith)
    next ih f (suc i) e = let c = ih i e in (suc c.0, c.1)

    by : ((j : ℕ) → place_at l j t ≡ some p → Partner t p l k (partner t p l k)) → (c : Bool) → same_tag (get_or s.had t none) (some p) ≡ c
        → Partner t p (s ∷ l) (u ∷ k) (cond c (the (get_or u.had t none)) (partner t p l k))
    by ih true f = let g = tag_eq (get_or s.had t none) (some p) f in (0, (g, value g (get_or u.had t none) refl))
    by ih false f = next ih f i e

-- all eight tags
abbrev pub Eight : List (Thread Tags) → Type 0
Eight l = (s : Thread Tags) → Memᴰ s l → length s.had ≡ 8

length_ons : (l : List (Thread Tags)) → length (ons l) ≡ length l
length_ons [] = refl
length_ons (s ∷ l) = ap suc (length_ons l)

length_renamed : (σ : ℕ → ℕ → ℕ) (u : ℕ) (τ : Tags) → length (renamed σ u τ) ≡ length τ
length_renamed σ u [] = refl
length_renamed σ u (none ∷ τ) = ap suc (length_renamed σ (suc u) τ)
length_renamed σ u (some p ∷ τ) = ap suc (length_renamed σ (suc u) τ)

-- a list is its records and its places
by_places : (l k : List (Thread Tags)) → Eight l → Eight k → ons l ≡ ons k → ((i t : ℕ) → place_at l i t ≡ place_at k i t) → l ≡ k
by_places [] [] x y r h = refl
by_places [] (u ∷ k) x y r h = absurd (nil≢cons r)
by_places (s ∷ l) [] x y r h = absurd (cons≢nil r)
by_places (s ∷ l) (u ∷ k) x y r h =
    let a = x s (Memᴰ.head refl) in
    let b = y u (Memᴰ.head refl) in
    ap₂ (λ v m. v ∷ m)
    (ap₂ (λ n τ. record { on = n; had = τ }) (head-eq_of_cons-eq r) (ext_get_or none s.had u.had (a ∙ sym b) (λ t g. h 0 t)))
    (by_places l k (λ v m. x v (Memᴰ.tail m)) (λ v m. y v (Memᴰ.tail m)) (tail-eq_of_cons-eq r) (λ i t. h (suc i) t))

pub eight_renamed : (σ : ℕ → ℕ → ℕ) (l : List (Thread Tags)) → Eight l → Eight (rename σ l)
eight_renamed σ [] x s m = absurd (elim m [ ])
eight_renamed σ (u ∷ l) x s m = by (λ n. eight_renamed σ l (λ v j. x v (Memᴰ.tail j)) s n) (Memᴰ.cases_cons m)
  where
    by : (Memᴰ s (rename σ l) → length s.had ≡ 8) → (s ≡ record { on = u.on; had = renamed σ 0 u.had }) ⊎ Memᴰ s (rename σ l) → length s.had ≡ 8
    by ih (inl e) = ap (λ v. length v.had) e ∙ length_renamed σ 0 u.had ∙ x u (Memᴰ.head refl)
    by ih (inr n) = ih n

module _ (l k : List (Thread Tags)) (a : Alike l k) where
  σ : ℕ → ℕ → ℕ
  σ t p = partner t p l k

  found : (i t p : ℕ) → place_at l i t ≡ some p → Partner t p l k (σ t p)
  unfolding σ
  found i t p e = partner_there t p l k a.records (λ i. (a.absent i t).1) i e

  same_place : (i t : ℕ) (o : Option ℕ) → place_at l i t ≡ o → over (σ t) o ≡ place_at k i t
  same_place i t none e = sym ((a.absent i t).0 e)
  same_place i t (some p) e = let c = found i t p e in sym c.1.1 ∙ (a.sharing c.0 i t).0 (c.1.0 ∙ sym e)

  apart : Apart σ (held_by l)
  apart x y m n e =
      let c = held_place l m in
      let d = held_place l n in
      let f = found c.0 x.0 x.1 c.1 in
      let g = found d.0 y.0 y.1 d.1 in
      let t : x.0 ≡ y.0 = ap (λ v. v.0) e in
      let q : place_at k f.0 y.0 ≡ place_at k g.0 y.0 = subst (λ v. place_at k f.0 v ≡ some (σ x.0 x.1)) t f.1.1 ∙ ap (λ v. some v.1) e ∙ sym g.1.1 in
      let s = sym (subst (λ v. place_at l f.0 v ≡ some x.1) t f.1.0) ∙ (a.sharing f.0 g.0 y.0).1 q ∙ g.1.0 in
      ap₂ (λ u v. (u, v)) t (some-injective x.1 y.1 s)

  pub alike_number : Eight l → Eight k → number l ≡ number k
  alike_number x y =
      sym (number_rename σ l apart)
      ∙ ap number (by_places (rename σ l) k (eight_renamed σ l x) y (ons_renamed σ l ∙ a.records) (λ i t. place_renamed σ l i t ∙ same_place i t (place_at l i t) refl))

-- THE SAME SITUATION
pub same_numbers : (l k : List (Thread Tags)) → Eight l → Eight k → (number l ≡ number k) ↔ Alike l k
same_numbers l k x y = (number_alike l k, λ a. alike_number l k a x y)
