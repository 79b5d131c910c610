-- The builder meets the situations in the order of their first inputs. Assumes nothing.
use mathlib.Core.Path.{◌≡◌, refl, sym, ap, ◌∙◌, subst}
use mathlib.Core.Logic.{◌⊎◌, inl, inr}
use mathlib.Core.Bool.{Bool, true, false, ◌||◌}
use mathlib.Core.List.Memᴰ
use mathlib.Core.List.{List, [], ◌∷◌, ◌++◌, map, append-nil, Memᴰ}
use Prim.Native.Nat.{ℕ, zero, suc, ◌+◌, ◌-◌, ◌≤◌}
use native.Mathlib.Numerals.{add-one}
use native.Mathlib.Omega.{arith}
use native.Mathlib.Decide.{dec_le}
use lib.ListN.{length, take, drop, drop_of_length-le}
use lib.Seq.{take-add, take_all, append_snoc}
use Rattle.ground.specs.Lists.{each}
use Rattle.paths.specs.Numbering.{words, upto, among, put, once, numbered, nexts, explored}
use Rattle.paths.proofs.Member.{Bool-cases, choose_true, choose_false}
pub use Rattle.ground.proofs.Members.{Prefix}
use Rattle.ground.proofs.Lists.{each_append, map_append}
use Rattle.ground.proofs.Members.{map_has, each_cases, each_has, ≼_self, ≼_trans, take_≼, each_≼, map_≼, take_prefix}
use Rattle.paths.proofs.Firsts.{Keyed, gather_append, gather_≼, gather_mono, gather_has, gather_in, gather_sole, Sole, optimal_from}

-- ---- inputs

upto_suc : (B : List ℕ) (n : ℕ) → upto B (suc n) ≡ [] ∷ each (λ w. map (λ b. w ++ (b ∷ [])) B) (upto B n)
unfolding upto words
upto_suc B zero = refl
upto_suc B (suc n) =
    ap (λ l. l ++ words B (suc (suc n))) (upto_suc B n)
    ∙ ap (λ l. [] ∷ l) (sym (each_append (λ w. map (λ b. w ++ (b ∷ [])) B) (upto B n) (words B (suc n))))

module _ {S : Type 0} (eq : S → S → Bool) (eq_right : (s t : S) → (eq s t ≡ true → s ≡ t) × (s ≡ t → eq s t ≡ true)) where
  among→mem : (s : S) (l : List S) → among eq s l ≡ true → Memᴰ s l
  among→mem s [] e = let z : ◌≡◌ {A = ℕ} 0 1 = cc in absurd (omega arith)
  among→mem s (t ∷ l) e = by (λ f. among→mem s l f) (eq s t) refl e
    where
      by : (among eq s l ≡ true → Memᴰ s l) → (c : Bool) → eq s t ≡ c → c || among eq s l ≡ true → Memᴰ s (t ∷ l)
      by ih true p q = Memᴰ.head ((eq_right s t).0 p)
      by ih false p q = Memᴰ.tail (ih q)

  mem→among : {s : S} {l : List S} → Memᴰ s l → among eq s l ≡ true
  mem→among {s} (Memᴰ.head {x = x} e) = rw ((eq_right s x).1 e)
  mem→among {s} (Memᴰ.tail {x = x} {xs = xs} m) = by (eq s x) (mem→among m)
    where
      by : (c : Bool) → among eq s xs ≡ true → c || among eq s xs ≡ true
      by true e = refl
      by false e = e

  not_among : (s : S) (l : List S) → (¬ Memᴰ s l) → among eq s l ≡ false
  not_among s l h = by (among eq s l) refl
    where
      by : (c : Bool) → among eq s l ≡ c → c ≡ false
      by true e = absurd (h (among→mem s l e))
      by false e = refl

  -- each state where it first appears
  pub by_state : Keyed {S = S} (λ s. s) (λ s l. Memᴰ s l) (put eq)
  by_state =
      record {
        none = λ m. elim m [ ];
        split = λ m. Memᴰ.cases_cons m;
        here = λ e. Memᴰ.head e;
        there = λ m. Memᴰ.tail m;
        decide = λ s O. by s O (Bool-cases (among eq s O));
        known = λ O s m. choose_true O (λ _. O ++ (s ∷ [])) (mem→among m);
        new = λ O s h. choose_false O (λ _. O ++ (s ∷ [])) (not_among s O h);
      }
    where
      by : (s : S) (O : List S) → (among eq s O ≡ true) ⊎ (among eq s O ≡ false) → Memᴰ s O ⊎ (¬ Memᴰ s O)
      by s O (inl e) = inl (among→mem s O e)
      by s O (inr e) = inr (λ m. let f = mem→among m in let z : ◌≡◌ {A = ℕ} 0 1 = cc in omega arith)

  -- ---- the numbering, and the exploring

  module _ (B : List ℕ) (next : ℕ → S → S) (sit : List ℕ → S) (sit_next : (w : List ℕ) (b : ℕ) → sit (w ++ (b ∷ [])) ≡ next b (sit w)) where
    abbrev g : S → List S
    g s = nexts eq B next s

    on_word : (w : List ℕ) (C : List ℕ) → map sit (map (λ b. w ++ (b ∷ [])) C) ≡ map (λ b. next b (sit w)) C
    on_word w [] = refl
    on_word w (b ∷ C) = rw (sit_next w b, on_word w C)

    on_words : (l : List (List ℕ)) → map sit (each (λ w. map (λ b. w ++ (b ∷ [])) B) l) ≡ each g (map sit l)
    on_words [] = refl
    on_words (w ∷ l) = map_append sit (map (λ b. w ++ (b ∷ [])) B) (each (λ w. map (λ b. w ++ (b ∷ [])) B) l) ∙ rw (on_word w B, on_words l)

    pub numbered_suc : (n : ℕ) → numbered eq B sit (suc n) ≡ once eq (sit [] ∷ []) (each g (numbered eq B sit n))
    unfolding numbered
    numbered_suc n =
        ap (λ l. once eq [] (map sit l)) (upto_suc B n)
        ∙ ap (λ l. once eq (sit [] ∷ []) l) (on_words (upto B n))
        ∙ sym (optimal_from by_state g (λ s t e y m. rw e at m) (sit [] ∷ []) (map sit (upto B n)) [])

    -- the first i states have been gone through; so have i + 1 after one more
    one_further : (i : ℕ) (F : List S) → F ≡ once eq (sit [] ∷ []) (each g (take i F))
        → once eq F (each g (take 1 (drop i F))) ≡ once eq (sit [] ∷ []) (each g (take (suc i) F))
    one_further i F e =
        ap (λ o. once eq o (each g (take 1 (drop i F)))) e
        ∙ sym (gather_append by_state (sit [] ∷ []) (each g (take i F)) (each g (take 1 (drop i F))))
        ∙ ap (λ l. once eq (sit [] ∷ []) l) (sym (each_append g (take i F) (take 1 (drop i F))) ∙ ap (λ l. each g l) (sym (take-add i 1 F) ∙ ap (λ n. take n F) (add-one i)))

    still : (i : ℕ) (F : List S) → Dec (suc i ≤ length F) → take (suc i) (once eq F (each g (take 1 (drop i F)))) ≡ take (suc i) F
    still i F (yes h) = take_prefix (suc i) (gather_≼ by_state (each g (take 1 (drop i F))) F) h
    still i F (no h) = ap (λ l. take (suc i) (once eq F (each g (take 1 l)))) (drop_of_length-le F {i = i} (omega arith))

    through : (i : ℕ) → explored eq B next (sit []) i ≡ once eq (sit [] ∷ []) (each g (take i (explored eq B next (sit []) i)))
    unfolding explored
    through zero = refl
    through (suc i) =
        one_further i (explored eq B next (sit []) i) (through i)
        ∙ ap (λ l. once eq (sit [] ∷ []) (each g l)) (sym (still i (explored eq B next (sit []) i) (dec_le (suc i) (length (explored eq B next (sit []) i)))))

    -- THE EXPLORING: what has been found so far is numbered as document 01 has it
    pub explored_first : (i : ℕ) → Prefix (explored eq B next (sit []) i) (numbered eq B sit i)
    unfolding explored numbered upto words
    explored_first zero = record { more = []; whole = refl }
    explored_first (suc i) =
        subst (λ l. Prefix l (numbered eq B sit (suc i))) (sym (one_further i F (through i)))
        (subst (λ l. Prefix (once eq (sit [] ∷ []) (each g (take (suc i) F))) l) (sym (numbered_suc i))
        (gather_mono by_state (sit [] ∷ []) (each_≼ g (≼_trans (take_≼ (suc i) F) (explored_first i)))))
      where
        F : List S
        F = explored eq B next (sit []) i

    -- once all states found have been gone through there are no others
    pub explored_all : (i : ℕ) → length (explored eq B next (sit []) i) ≤ i → (n : ℕ) → Prefix (numbered eq B sit n) (explored eq B next (sit []) i)
    unfolding numbered upto words
    explored_all i h zero = subst (λ l. Prefix (sit [] ∷ []) l) (sym (through i)) (gather_≼ by_state (each g (take i (explored eq B next (sit []) i))) (sit [] ∷ []))
    explored_all i h (suc n) =
        subst (λ l. Prefix l F) (sym (numbered_suc n))
        (subst (λ l. Prefix (once eq (sit [] ∷ []) (each g (numbered eq B sit n))) l) (sym (through i ∙ ap (λ l. once eq (sit [] ∷ []) (each g l)) (take_all i F h)))
        (gather_mono by_state (sit [] ∷ []) (each_≼ g (explored_all i h n))))
      where
        F : List S
        F = explored eq B next (sit []) i

    -- ---- longer inputs, and more gone through, only add

    upto_≼ : (n m : ℕ) → Prefix (upto B n) (upto B (m + n))
    unfolding upto
    upto_≼ n zero = let e : n ≡ zero + n = omega arith in subst (λ v. Prefix (upto B n) (upto B v)) e (≼_self (upto B n))
    upto_≼ n (suc m) =
        let e : suc (m + n) ≡ suc m + n = omega arith in
        subst (λ v. Prefix (upto B n) (upto B v)) e (≼_trans (upto_≼ n m) (record { more = words B (suc (m + n)); whole = refl }))

    pub numbered_≼ : (n m : ℕ) → n ≤ m → Prefix (numbered eq B sit n) (numbered eq B sit m)
    unfolding numbered
    numbered_≼ n m h =
        let e : m - n + n ≡ m = omega arith in
        gather_mono by_state [] (map_≼ sit (subst (λ v. Prefix (upto B n) (upto B v)) e (upto_≼ n (m - n))))

    explored_more : (n m : ℕ) → Prefix (explored eq B next (sit []) n) (explored eq B next (sit []) (m + n))
    unfolding explored
    explored_more n zero = let e : n ≡ zero + n = omega arith in subst (λ v. Prefix (explored eq B next (sit []) n) (explored eq B next (sit []) v)) e (≼_self (explored eq B next (sit []) n))
    explored_more n (suc m) =
        let e : suc (m + n) ≡ suc m + n = omega arith in
        let F = explored eq B next (sit []) (m + n) in
        subst (λ v. Prefix (explored eq B next (sit []) n) (explored eq B next (sit []) v)) e
        (≼_trans (explored_more n m) (gather_≼ by_state (each g (take 1 (drop (m + n) F))) F))

    pub explored_≼ : (n m : ℕ) → n ≤ m → Prefix (explored eq B next (sit []) n) (explored eq B next (sit []) m)
    explored_≼ n m h =
        let e : m - n + n ≡ m = omega arith in
        subst (λ v. Prefix (explored eq B next (sit []) n) (explored eq B next (sit []) v)) e (explored_more n (m - n))

    -- once all states found have been gone through, a byte leads from each to one of them
    pub explored_next : (i : ℕ) → length (explored eq B next (sit []) i) ≤ i → {s : S} {b : ℕ} → Memᴰ s (explored eq B next (sit []) i) → Memᴰ b B
        → Memᴰ (next b s) (explored eq B next (sit []) i)
    explored_next i h {s} {b} m n =
        subst (λ l. Memᴰ (next b s) l) (sym (through i ∙ ap (λ l. once eq (sit [] ∷ []) (each g l)) (take_all i (explored eq B next (sit []) i) h)))
        (gather_has by_state (each g (explored eq B next (sit []) i)) (sit [] ∷ []) (each_has g m (map_has (λ b. next b s) n)))

    -- ---- the states of all inputs of at most n bytes are numbered, each once

    words_has : (w : List ℕ) → ((b : ℕ) → Memᴰ b w → Memᴰ b B) → (v : List ℕ) (n : ℕ) → Memᴰ v (words B n) → Memᴰ (v ++ w) (words B (n + length w))
    unfolding words
    words_has [] h v n m = let e : n ≡ n + 0 = omega arith in subst (λ k. Memᴰ (v ++ []) (words B k)) e (rw append-nil m)
    words_has (b ∷ w) h v n m =
        let e : suc n + length w ≡ n + suc (length w) = omega arith in
        subst (λ k. Memᴰ (v ++ b ∷ w) (words B k)) e
        (rw append_snoc at (words_has w (λ c k. h c (Memᴰ.tail k)) (v ++ (b ∷ [])) (suc n)
        (each_has (λ w. map (λ b. w ++ (b ∷ [])) B) m (map_has (λ b. v ++ (b ∷ [])) (h b (Memᴰ.head refl))))))

    words_upto : (n : ℕ) {w : List ℕ} → Memᴰ w (words B n) → Memᴰ w (upto B n)
    unfolding upto
    words_upto zero m = m
    words_upto (suc n) m = Memᴰ.append_right (upto B n) m

    pub upto_has : (w : List ℕ) → ((b : ℕ) → Memᴰ b w → Memᴰ b B) → Memᴰ w (upto B (length w))
    unfolding words
    upto_has w h =
        let e : 0 + length w ≡ length w = omega arith in
        words_upto (length w) (subst (λ k. Memᴰ w (words B k)) e (words_has w h [] 0 (Memᴰ.head refl)))

    pub numbered_has : (w : List ℕ) → ((b : ℕ) → Memᴰ b w → Memᴰ b B) → Memᴰ (sit w) (numbered eq B sit (length w))
    unfolding numbered
    numbered_has w h = gather_has by_state (map sit (upto B (length w))) [] (map_has sit (upto_has w h))

    pub numbered_sole : (n : ℕ) → Sole by_state (numbered eq B sit n)
    unfolding numbered
    numbered_sole n = gather_sole by_state (map sit (upto B n)) [] tt

    -- and are those of some input
    words_of : (n : ℕ) {w : List ℕ} → Memᴰ w (words B n) → (b : ℕ) → Memᴰ b w → Memᴰ b B
    unfolding words
    words_of zero m b k = absurd (elim (rw (Memᴰ.eq_of_singleton m) at k) [ ])
    words_of (suc n) {w} m b k =
        let c = each_cases (λ w. map (λ b. w ++ (b ∷ [])) B) (words B n) m in
        let d = Memᴰ.of_map (λ b. c.0 ++ (b ∷ [])) B c.2 in
        by c.0 d.0 d.1 (λ j. words_of n c.1 b j) (Memᴰ.append_cases c.0 (subst (λ v. Memᴰ b v) (sym d.2) k))
      where
        by : (v : List ℕ) (a : ℕ) → Memᴰ a B → (Memᴰ b v → Memᴰ b B) → Memᴰ b v ⊎ Memᴰ b (a ∷ []) → Memᴰ b B
        by v a i ih (inl j) = ih j
        by v a i ih (inr j) = Memᴰ.cast (Memᴰ.eq_of_singleton j) i

    pub upto_of : (n : ℕ) {w : List ℕ} → Memᴰ w (upto B n) → (b : ℕ) → Memᴰ b w → Memᴰ b B
    unfolding upto
    upto_of zero m = words_of zero m
    upto_of (suc n) {w} m = by (λ k. upto_of n k) (Memᴰ.append_cases (upto B n) m)
      where
        by : (Memᴰ w (upto B n) → (b : ℕ) → Memᴰ b w → Memᴰ b B) → Memᴰ w (upto B n) ⊎ Memᴰ w (words B (suc n)) → (b : ℕ) → Memᴰ b w → Memᴰ b B
        by ih (inl k) = ih k
        by ih (inr k) = words_of (suc n) k

    pub numbered_of : (n : ℕ) {s : S} → Memᴰ s (numbered eq B sit n) → (w : List ℕ) × ((b : ℕ) → Memᴰ b w → Memᴰ b B) × (sit w ≡ s)
    unfolding numbered
    numbered_of n {s} m = by (gather_in by_state (map sit (upto B n)) [] m)
      where
        by : Memᴰ s [] ⊎ Memᴰ s (map sit (upto B n)) → (w : List ℕ) × ((b : ℕ) → Memᴰ b w → Memᴰ b B) × (sit w ≡ s)
        by (inl k) = absurd (elim k [ ])
        by (inr k) = let c = Memᴰ.of_map sit (upto B n) k in (c.0, upto_of n c.1, c.2)
