-- The first of each key, of a list. One base for three uses: the search keeps the first thread on each record, the numbering each situation
-- where it first appears, the registers each (tag, place) where it first appears. Assumes nothing.
use mathlib.Core.Path.{◌≡◌, refl, sym, ap, ◌∙◌, subst}
use mathlib.Core.Logic.{◌⊎◌, inl, inr}
use mathlib.Core.List.{List, [], ◌∷◌, ◌++◌, foldl, foldl-append, append-nil, Memᴰ}
use Prim.Native.Nat.{ℕ, zero, suc, ◌<◌}
use native.Mathlib.Omega.{arith}
use lib.ListN.{length, get_or}
use lib.Seq.{append_snoc}
use Rattle.ground.specs.Lists.{each}
use Rattle.ground.proofs.Lists.{each_append}
use Rattle.ground.proofs.Members.{get_or_mem, Prefix, ≼_self, ≼_trans, Ordered, ordered_cross, ordered_skip}

-- Each of S has a key; `Has y l` says that one of l has the key y; `put` adds one whose key is new.
pub record Keyed {S K : Type 0} (key : S → K) (Has : K → List S → Type 0) (put : List S → S → List S) : Type 0 where
  pub none : {y : K} → ¬ Has y []
  pub split : {y : K} {s : S} {l : List S} → Has y (s ∷ l) → (y ≡ key s) ⊎ Has y l
  pub here : {y : K} {s : S} {l : List S} → y ≡ key s → Has y (s ∷ l)
  pub there : {y : K} {s : S} {l : List S} → Has y l → Has y (s ∷ l)
  pub decide : (s : S) (O : List S) → Has (key s) O ⊎ (¬ Has (key s) O)
  pub known : (O : List S) (s : S) → Has (key s) O → put O s ≡ O
  pub new : (O : List S) (s : S) → (¬ Has (key s) O) → put O s ≡ O ++ (s ∷ [])

module _ {S K : Type 0} {key : S → K} {Has : K → List S → Type 0} {put : List S → S → List S} (κ : Keyed key Has put) where
  -- ---- keys of a list

  pub has_left : {y : K} (l k : List S) → Has y l → Has y (l ++ k)
  has_left [] k h = absurd (κ.none h)
  has_left {y} (s ∷ l) k h = by (λ j. has_left l k j) (κ.split h)
    where
      by : (Has y l → Has y (l ++ k)) → (y ≡ key s) ⊎ Has y l → Has y (s ∷ l ++ k)
      by ih (inl e) = κ.here e
      by ih (inr j) = κ.there (ih j)

  pub has_right : {y : K} (l k : List S) → Has y k → Has y (l ++ k)
  has_right [] k h = h
  has_right (s ∷ l) k h = κ.there (has_right l k h)

  pub has_cases : {y : K} (l k : List S) → Has y (l ++ k) → Has y l ⊎ Has y k
  has_cases [] k h = inr h
  has_cases {y} (s ∷ l) k h = by (λ j. has_cases l k j) (κ.split h)
    where
      more : Has y l ⊎ Has y k → Has y (s ∷ l) ⊎ Has y k
      more (inl j) = inl (κ.there j)
      more (inr j) = inr j

      by : (Has y (l ++ k) → Has y l ⊎ Has y k) → (y ≡ key s) ⊎ Has y (l ++ k) → Has y (s ∷ l) ⊎ Has y k
      by ih (inl e) = inl (κ.here e)
      by ih (inr j) = more (ih j)

  pub has_one : {y : K} {s : S} → Has y (s ∷ []) → y ≡ key s
  has_one {y} {s} h = by (κ.split h)
    where
      by : (y ≡ key s) ⊎ Has y [] → y ≡ key s
      by (inl e) = e
      by (inr j) = absurd (κ.none j)

  pub has_of : {s : S} {l : List S} → Memᴰ s l → Has (key s) l
  has_of (mathlib.Core.List.Memᴰ.head e) = κ.here (ap key e)
  has_of (mathlib.Core.List.Memᴰ.tail m) = κ.there (has_of m)

  -- ---- what l adds to O: what is found already adds nothing, what is found stays, all of l is found, and nothing else

  pub gather_append : (O l k : List S) → foldl put O (l ++ k) ≡ foldl put (foldl put O l) k
  gather_append O l k = foldl-append put O l k

  pub gather_known : (l O : List S) → ((y : K) → Has y l → Has y O) → foldl put O l ≡ O
  gather_known [] O h = refl
  gather_known (s ∷ l) O h = ap (λ o. foldl put o l) (κ.known O s (h (key s) (κ.here refl))) ∙ gather_known l O (λ y m. h y (κ.there m))

  pub put_≼ : (O : List S) (s : S) → Prefix O (put O s)
  put_≼ O s = by (κ.decide s O)
    where
      by : Has (key s) O ⊎ (¬ Has (key s) O) → Prefix O (put O s)
      by (inl h) = rw (κ.known O s h) (≼_self O)
      by (inr h) = record { more = s ∷ []; whole = sym (κ.new O s h) }

  pub gather_≼ : (l O : List S) → Prefix O (foldl put O l)
  gather_≼ [] O = ≼_self O
  gather_≼ (s ∷ l) O = ≼_trans (put_≼ O s) (gather_≼ l (put O s))

  pub gather_mono : (O : List S) {l k : List S} → Prefix l k → Prefix (foldl put O l) (foldl put O k)
  gather_mono O {l} {k} a =
      let b = gather_≼ a.more (foldl put O l) in
      record { more = b.more; whole = b.whole ∙ sym (gather_append O l a.more) ∙ ap (λ v. foldl put O v) a.whole }

  pub gather_keeps : (l O : List S) {y : K} → Has y O → Has y (foldl put O l)
  gather_keeps l O h = let a = gather_≼ l O in rw a.whole at (has_left O a.more h)

  pub put_has : (O : List S) (s : S) → Has (key s) (put O s)
  put_has O s = by (κ.decide s O)
    where
      by : Has (key s) O ⊎ (¬ Has (key s) O) → Has (key s) (put O s)
      by (inl h) = rw (κ.known O s h) h
      by (inr h) = rw (κ.new O s h) (has_right O (s ∷ []) (κ.here refl))

  pub gather_has : (l O : List S) {y : K} → Has y l → Has y (foldl put O l)
  gather_has [] O h = absurd (κ.none h)
  gather_has (s ∷ l) O {y} h = by (λ k. gather_has l (put O s) k) (κ.split h)
    where
      by : (Has y l → Has y (foldl put (put O s) l)) → (y ≡ key s) ⊎ Has y l → Has y (foldl put (put O s) l)
      by ih (inl e) = rw e (gather_keeps l (put O s) (put_has O s))
      by ih (inr k) = ih k

  pub put_in : (O : List S) (s : S) {t : S} → Memᴰ t (put O s) → Memᴰ t O ⊎ (t ≡ s)
  put_in O s {t} m = by (κ.decide s O)
    where
      snoc : Memᴰ t O ⊎ Memᴰ t (s ∷ []) → Memᴰ t O ⊎ (t ≡ s)
      snoc (inl k) = inl k
      snoc (inr k) = inr (mathlib.Core.List.Memᴰ.eq_of_singleton k)

      by : Has (key s) O ⊎ (¬ Has (key s) O) → Memᴰ t O ⊎ (t ≡ s)
      by (inl h) = inl (rw (κ.known O s h) at m)
      by (inr h) = snoc (mathlib.Core.List.Memᴰ.append_cases O (rw (κ.new O s h) at m))

  pub gather_in : (l O : List S) {t : S} → Memᴰ t (foldl put O l) → Memᴰ t O ⊎ Memᴰ t l
  gather_in [] O m = inl m
  gather_in (s ∷ l) O {t} m = by (gather_in l (put O s) m)
    where
      first : Memᴰ t O ⊎ (t ≡ s) → Memᴰ t O ⊎ Memᴰ t (s ∷ l)
      first (inl k) = inl k
      first (inr e) = inr (mathlib.Core.List.Memᴰ.head e)

      by : Memᴰ t (put O s) ⊎ Memᴰ t l → Memᴰ t O ⊎ Memᴰ t (s ∷ l)
      by (inl k) = first (put_in O s k)
      by (inr k) = inr (mathlib.Core.List.Memᴰ.tail k)

  -- ---- no key twice

  abbrev pub Sole : List S → Type 0
  Sole [] = Unit {0}
  Sole (s ∷ l) = (¬ Has (key s) l) × Sole l

  sole_snoc : (l : List S) (s : S) → Sole l → (¬ Has (key s) l) → Sole (l ++ (s ∷ []))
  sole_snoc [] s o h = (λ m. κ.none m, tt)
  sole_snoc (x ∷ l) s o h = (λ m. by (has_cases l (s ∷ []) m), sole_snoc l s o.1 (λ m. h (κ.there m)))
    where
      by : Has (key x) l ⊎ Has (key x) (s ∷ []) → ⊥
      by (inl m) = o.0 m
      by (inr m) = h (κ.here (sym (has_one m)))

  pub gather_sole : (l O : List S) → Sole O → Sole (foldl put O l)
  gather_sole [] O o = o
  gather_sole (s ∷ l) O o = gather_sole l (put O s) (by (κ.decide s O))
    where
      by : Has (key s) O ⊎ (¬ Has (key s) O) → Sole (put O s)
      by (inl m) = rw (κ.known O s m) o
      by (inr m) = rw (κ.new O s m) (sole_snoc O s o m)

  -- so its place is told by its key
  pub sole_at : (d : S) (l : List S) → Sole l → (i j : ℕ) → i < length l → j < length l → key (get_or l i d) ≡ key (get_or l j d) → i ≡ j
  sole_at d [] o i j h k e = absurd (omega arith)
  sole_at d (s ∷ l) o zero zero h k e = refl
  sole_at d (s ∷ l) o zero (suc j) h k e = absurd (o.0 (subst (λ y. Has y l) (sym e) (has_of (get_or_mem l j d (omega arith)))))
  sole_at d (s ∷ l) o (suc i) zero h k e = absurd (o.0 (subst (λ y. Has y l) e (has_of (get_or_mem l i d (omega arith)))))
  sole_at d (s ∷ l) o (suc i) (suc j) h k e = ap suc (sole_at d l o.1 i j (omega arith) (omega arith) e)

  -- ---- only the first of each key matters, to what comes of each

  -- what g makes of s has the keys of what it makes of any other with the same key
  abbrev pub Level : (S → List S) → Type 0
  Level g = (s t : S) → key s ≡ key t → (y : K) → Has y (g s) → Has y (g t)

  in_some : (g : S → List S) → Level g → (l : List S) (s : S) → Has (key s) l → {y : K} → Has y (g s) → Has y (each g l)
  in_some g h [] s m n = absurd (κ.none m)
  in_some g h (t ∷ l) s m {y} n = by (λ j. in_some g h l s j n) (κ.split m)
    where
      by : (Has (key s) l → Has y (each g l)) → (key s ≡ key t) ⊎ Has (key s) l → Has y (g t ++ each g l)
      by ih (inl e) = has_left (g t) (each g l) (h s t e y n)
      by ih (inr j) = has_right (g t) (each g l) (ih j)

  one_more : (g : S → List S) → Level g → (O₀ O : List S) (s : S) → foldl put O₀ (each g (put O s)) ≡ foldl put (foldl put O₀ (each g O)) (g s)
  one_more g h O₀ O s = by (κ.decide s O)
    where
      by : Has (key s) O ⊎ (¬ Has (key s) O) → foldl put O₀ (each g (put O s)) ≡ foldl put (foldl put O₀ (each g O)) (g s)
      by (inl m) =
          ap (λ o. foldl put O₀ (each g o)) (κ.known O s m)
          ∙ sym (gather_known (g s) (foldl put O₀ (each g O)) (λ y n. gather_has (each g O) O₀ (in_some g h O s m n)))
      by (inr m) =
          ap (λ o. foldl put O₀ (each g o)) (κ.new O s m)
          ∙ ap (λ l. foldl put O₀ l) (each_append g O (s ∷ []) ∙ ap (λ l. each g O ++ l) (append-nil (g s)))
          ∙ gather_append O₀ (each g O) (g s)

  pub optimal_from : (g : S → List S) → Level g → (O₀ l O : List S) → foldl put O₀ (each g (foldl put O l)) ≡ foldl put (foldl put O₀ (each g O)) (each g l)
  optimal_from g h O₀ [] O = refl
  optimal_from g h O₀ (s ∷ l) O =
      optimal_from g h O₀ l (put O s)
      ∙ ap (λ o. foldl put o (each g l)) (one_more g h O₀ O s)
      ∙ sym (gather_append (foldl put O₀ (each g O)) (g s) (each g l))

  -- ---- in a list in order, what is found is the first with its key

  module _ (R : S → S → Type 0) where
    -- t is the first of l with its key
    abbrev pub First : List S → S → Type 0
    First l t = (u : S) → Memᴰ u l → key u ≡ key t → (u ≡ t) ⊎ R t u

    pub gather_ordered : (l O : List S) → Ordered R (O ++ l) → Ordered R (foldl put O l)
    gather_ordered [] O o = rw append-nil at o
    gather_ordered (s ∷ l) O o = gather_ordered l (put O s) (by (κ.decide s O))
      where
        by : Has (key s) O ⊎ (¬ Has (key s) O) → Ordered R (put O s ++ l)
        by (inl m) = rw (κ.known O s m) (ordered_skip R O s l o)
        by (inr m) = rw (κ.new O s m, append_snoc) o

    -- what is found is of O, or has a key that O has not
    gather_new : (l O : List S) {t : S} → Memᴰ t (foldl put O l) → Memᴰ t O ⊎ (¬ Has (key t) O)
    gather_new [] O m = inl m
    gather_new (s ∷ l) O {t} m = by (κ.decide s O) (gather_new l (put O s) m)
      where
        snoc : (¬ Has (key s) O) → Memᴰ t O ⊎ Memᴰ t (s ∷ []) → Memᴰ t O ⊎ (¬ Has (key t) O)
        snoc h (inl n) = inl n
        snoc h (inr n) = inr (λ j. h (rw (ap key (mathlib.Core.List.Memᴰ.eq_of_singleton n)) at j))

        by : Has (key s) O ⊎ (¬ Has (key s) O) → Memᴰ t (put O s) ⊎ (¬ Has (key t) (put O s)) → Memᴰ t O ⊎ (¬ Has (key t) O)
        by (inl h) (inl n) = inl (rw (κ.known O s h) at n)
        by (inl h) (inr n) = inr (rw (κ.known O s h) at n)
        by (inr h) (inl n) = snoc h (mathlib.Core.List.Memᴰ.append_cases O (rw (κ.new O s h) at n))
        by (inr h) (inr n) = inr (λ j. n (rw (κ.new O s h) (has_left O (s ∷ []) j)))

    -- of what is found each is the first, in O and l together
    pub gather_first : (l O : List S) → Ordered R (O ++ l) → ((t : S) → Memᴰ t O → First O t) → (t : S) → Memᴰ t (foldl put O l) → First (O ++ l) t
    gather_first [] O o h t m = rw append-nil (h t m)
    gather_first (s ∷ l) O o h t m = by (λ Q p g n. gather_first l Q p g t n) (κ.decide s O)
      where
        -- s is known already
        again : Has (key s) O → First (O ++ l) t → Memᴰ t O ⊎ (¬ Has (key t) O) → First (O ++ s ∷ l) t
        again k f w u n e = split (mathlib.Core.List.Memᴰ.append_cases O n)
          where
            here : u ≡ s → Memᴰ t O ⊎ (¬ Has (key t) O) → (u ≡ t) ⊎ R t u
            here p (inl j) = inr (rw p (ordered_cross R O (s ∷ l) o t s j (mathlib.Core.List.Memᴰ.head refl)))
            here p (inr j) = absurd (j (subst (λ v. Has v O) (sym (sym e ∙ ap key p)) k))

            tail : (u ≡ s) ⊎ Memᴰ u l → (u ≡ t) ⊎ R t u
            tail (inl p) = here p w
            tail (inr j) = f u (mathlib.Core.List.Memᴰ.append_right O j) e

            split : Memᴰ u O ⊎ Memᴰ u (s ∷ l) → (u ≡ t) ⊎ R t u
            split (inl j) = f u (mathlib.Core.List.Memᴰ.append_left l j) e
            split (inr j) = tail (mathlib.Core.List.Memᴰ.cases_cons j)

        -- s is new
        ends : (¬ Has (key s) O) → (v : S) → Memᴰ v (O ++ (s ∷ [])) → First (O ++ (s ∷ [])) v
        ends k v n u j e = two (mathlib.Core.List.Memᴰ.append_cases O n) (mathlib.Core.List.Memᴰ.append_cases O j)
          where
            two : Memᴰ v O ⊎ Memᴰ v (s ∷ []) → Memᴰ u O ⊎ Memᴰ u (s ∷ []) → (u ≡ v) ⊎ R v u
            two (inl a) (inl b) = h v a u b e
            two (inl a) (inr b) = absurd (k (subst (λ x. Has x O) (sym e ∙ ap key (mathlib.Core.List.Memᴰ.eq_of_singleton b)) (has_of a)))
            two (inr a) (inl b) = absurd (k (subst (λ x. Has x O) (e ∙ ap key (mathlib.Core.List.Memᴰ.eq_of_singleton a)) (has_of b)))
            two (inr a) (inr b) = inl (mathlib.Core.List.Memᴰ.eq_of_singleton b ∙ sym (mathlib.Core.List.Memᴰ.eq_of_singleton a))

        by : ((Q : List S) → Ordered R (Q ++ l) → ((v : S) → Memᴰ v Q → First Q v) → Memᴰ t (foldl put Q l) → First (Q ++ l) t)
            → Has (key s) O ⊎ (¬ Has (key s) O) → First (O ++ s ∷ l) t
        by ih (inl k) =
            let m' : Memᴰ t (foldl put O l) = subst (λ v. Memᴰ t (foldl put v l)) (κ.known O s k) m in
            again k (ih O (ordered_skip R O s l o) h m') (gather_new l O m')
        by ih (inr k) =
            let m' : Memᴰ t (foldl put (O ++ (s ∷ [])) l) = subst (λ v. Memᴰ t (foldl put v l)) (κ.new O s k) m in
            subst (λ v. First v t) (append_snoc O s l) (ih (O ++ (s ∷ [])) (rw append_snoc o) (ends k) m')
