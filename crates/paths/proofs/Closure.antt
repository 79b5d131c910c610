-- The search with one set of marks finds, for each record, the first of all paths to it, in order. Assumes nothing.
use mathlib.Core.Path.{◌≡◌, refl, sym, ap, ◌∙◌}
use mathlib.Core.Logic.{◌⊎◌, inl, inr}
use mathlib.Core.List.Memᴰ
use mathlib.Core.List.{List, [], ◌∷◌, ◌++◌, foldl, Memᴰ}
use Prim.Native.Nat.{ℕ, zero, suc, ◌<◌}
use Rattle.ground.specs.Lists.{each}
use Rattle.paths.specs.Search.{Thread, ons, add, firsts, paths, visit}
use Rattle.paths.proofs.Firsts.{Keyed, gather_append, gather_known, gather_keeps, gather_has, gather_in}
use Rattle.paths.proofs.Member.{choose_true, choose_false, mem→has, not→hasnt, mem_or_not, ◌⊆◌, in_left, in_right, in_cases, in_each, mem_ons, equal_or_not, Enough, never, deeper, enough}

module _ {X : Type 0} where
  -- ---- `firsts`: the first thread on each record

  pub by_record : Keyed {S = Thread X} (λ s. s.on) (λ y l. Memᴰ y (ons l)) add
  by_record =
      record {
        none = λ m. elim m [ ];
        split = λ m. Memᴰ.cases_cons m;
        here = λ e. Memᴰ.head e;
        there = λ m. Memᴰ.tail m;
        decide = λ s O. mem_or_not s.on (ons O);
        known = λ O s m. choose_true O (λ _. O ++ (s ∷ [])) (mem→has m);
        new = λ O s h. choose_false O (λ _. O ++ (s ∷ [])) (not→hasnt h);
      }

  pub add_known : (O : List (Thread X)) (s : Thread X) → Memᴰ s.on (ons O) → add O s ≡ O
  add_known O s m = by_record.known O s m

  pub add_new : (O : List (Thread X)) (s : Thread X) → (¬ Memᴰ s.on (ons O)) → add O s ≡ O ++ (s ∷ [])
  add_new O s h = by_record.new O s h

  pub firsts_append : (O l k : List (Thread X)) → firsts O (l ++ k) ≡ firsts (firsts O l) k
  firsts_append O l k = gather_append by_record O l k

  pub firsts_known : (l O : List (Thread X)) → ons l ⊆ ons O → firsts O l ≡ O
  firsts_known l O h = gather_known by_record l O h

  pub firsts_keeps : (l O : List (Thread X)) → ons O ⊆ ons (firsts O l)
  firsts_keeps l O y m = gather_keeps by_record l O m

  pub firsts_has : (l O : List (Thread X)) → ons l ⊆ ons (firsts O l)
  firsts_has l O y m = gather_has by_record l O m

  pub firsts_in : (l O : List (Thread X)) {t : Thread X} → Memᴰ t (firsts O l) → Memᴰ t O ⊎ Memᴰ t l
  firsts_in l O m = gather_in by_record l O m

-- ---- the search
-- `nexts r` are the records that one quiet step leads to from r, whatever the thread has gathered. Below N only has it any.

module _ (nexts : ℕ → List ℕ) {X : Type 0} where
  -- What has been found, while the records of S are under way: all of S, and what a record found and not under way leads to.
  pub record Closed (S : List ℕ) (O : List (Thread X)) : Type 0 where
    pub stack : S ⊆ ons O
    pub done : (x : ℕ) → Memᴰ x (ons O) → (¬ Memᴰ x S) → nexts x ⊆ ons O

  -- What it is to have visited the threads ss one after the other, from O to O', where l are all paths from them.
  pub record Done (S : List ℕ) (O ss l O' : List (Thread X)) : Type 0 where
    pub found : O' ≡ firsts O l
    pub closed : Closed S O'
    pub there : ons ss ⊆ ons O'

  grown : {S : List ℕ} {O ss l O' : List (Thread X)} → Done S O ss l O' → ons O ⊆ ons O'
  grown {O = O} {l = l} d y m = rw d.found (firsts_keeps l O y m)

module _ {X : Type 0} (out : Thread X → List (Thread X)) (nexts : ℕ → List ℕ) (shape : (s : Thread X) → ons (out s) ≡ nexts s.on) where
  -- with a found record on top of the stack, still so
  push : (S : List ℕ) (O : List (Thread X)) (r : ℕ) → Memᴰ r (ons O) → Closed nexts S O → Closed nexts (r ∷ S) O
  push S O r m c = record { stack = λ y k. up y (Memᴰ.cases_cons k); done = λ x k h. c.done x k (λ j. h (Memᴰ.tail j)) }
    where
      up : (y : ℕ) → (y ≡ r) ⊎ Memᴰ y S → Memᴰ y (ons O)
      up y (inl e) = Memᴰ.cast e m
      up y (inr k) = c.stack y k

  -- From a record found already no path that avoids the stack leads to a new one.
  abbrev Old : ℕ → Type 0
  Old n = (S : List ℕ) (O : List (Thread X)) (s : Thread X) → Closed nexts S O → Memᴰ s.on (ons O) → ons (paths out n S s) ⊆ ons O

  old_step : (n : ℕ) → Old n → Old (suc n)
  unfolding paths
  old_step n ih S O s c m y k = by (mem_or_not s.on S)
    where
      rest : List (Thread X)
      rest = each (paths out n (s.on ∷ S)) (out s)

      below : (¬ Memᴰ s.on S) → (y ≡ s.on) ⊎ Memᴰ y (ons rest) → Memᴰ y (ons O)
      below h (inl e) = Memᴰ.cast e m
      below h (inr j) =
          let t = in_each (paths out n (s.on ∷ S)) (out s) j in
          ih (s.on ∷ S) O t.0 (push S O s.on m c) (c.done s.on m h t.0.on (rw (shape s) at (mem_ons t.1))) y t.2

      by : Memᴰ s.on S ⊎ (¬ Memᴰ s.on S) → Memᴰ y (ons O)
      by (inl h) = absurd (elim (rw (mem→has h) at k) [ ])
      by (inr h) = below h (Memᴰ.cases_cons (rw (not→hasnt h) at k))

  old : (n : ℕ) → Old n
  unfolding paths
  old zero S O s c m y k = absurd (elim k [ ])
  old (suc n) S O s c m y k = old_step n (old n) S O s c m y k

  -- ---- the main lemma, by induction on the fuel

  module _ (N : ℕ) (inner : (r y : ℕ) → Memᴰ y (nexts r) → r < N) where
    abbrev One : ℕ → Type 0
    One n = (S : List ℕ) (O : List (Thread X)) (s : Thread X) → Enough N n S → Closed nexts S O → Done nexts S O (s ∷ []) (paths out n S s) (visit out n O s)

    many : (n : ℕ) → One n → (S : List ℕ) (ss O : List (Thread X)) → ((y : ℕ) → Memᴰ y (ons ss) → Enough N n S) → Closed nexts S O
        → Done nexts S O ss (each (paths out n S) ss) (foldl (visit out n) O ss)
    many n one S [] O e c = record { found = refl; closed = c; there = λ y m. absurd (elim m [ ]) }
    many n one S (s ∷ ss) O e c = join (one S O s (e s.on (Memᴰ.head refl)) c) (λ c'. many n one S ss (visit out n O s) (λ y m. e y (Memᴰ.tail m)) c')
      where
        rest : List (Thread X)
        rest = each (paths out n S) ss

        O₁ : List (Thread X)
        O₁ = visit out n O s

        O₂ : List (Thread X)
        O₂ = foldl (visit out n) O₁ ss

        join : Done nexts S O (s ∷ []) (paths out n S s) O₁ → (Closed nexts S O₁ → Done nexts S O₁ ss rest O₂) → Done nexts S O (s ∷ ss) (paths out n S s ++ rest) O₂
        join d k =
            let d₂ = k d.closed in
            record {
              found = d₂.found ∙ ap (λ o. firsts o rest) d.found ∙ sym (firsts_append O (paths out n S s) rest);
              closed = d₂.closed;
              there = λ y m. in_two d d₂ y (Memᴰ.cases_cons m);
            }
          where
            in_two : Done nexts S O (s ∷ []) (paths out n S s) O₁ → Done nexts S O₁ ss rest O₂ → (y : ℕ) → (y ≡ s.on) ⊎ Memᴰ y (ons ss) → Memᴰ y (ons O₂)
            in_two d d₂ y (inl e) = grown nexts d₂ y (d.there y (Memᴰ.head e))
            in_two d d₂ y (inr m) = d₂.there y m

    one_known : (n : ℕ) (S : List ℕ) (O : List (Thread X)) (s : Thread X) → Closed nexts S O → Memᴰ s.on (ons O)
        → Done nexts S O (s ∷ []) (paths out (suc n) S s) O
    one_known n S O s c m =
        record {
          found = sym (firsts_known (paths out (suc n) S s) O (old (suc n) S O s c m));
          closed = c;
          there = λ y k. by y (Memᴰ.cases_cons k);
        }
      where
        by : (y : ℕ) → (y ≡ s.on) ⊎ Memᴰ y [] → Memᴰ y (ons O)
        by y (inl e) = Memᴰ.cast e m
        by y (inr k) = absurd (elim k [ ])

    -- s is new: it goes on the stack
    start : (S : List ℕ) (O : List (Thread X)) (s : Thread X) → Closed nexts S O → Closed nexts (s.on ∷ S) (O ++ (s ∷ []))
    start S O s c = record { stack = λ y m. up y (Memᴰ.cases_cons m); done = λ x m h y k. still x h (in_cases O (s ∷ []) m) y k }
      where
        up : (y : ℕ) → (y ≡ s.on) ⊎ Memᴰ y S → Memᴰ y (ons (O ++ (s ∷ [])))
        up y (inl e) = in_right O (s ∷ []) (Memᴰ.head e)
        up y (inr m) = in_left O (s ∷ []) (c.stack y m)

        still : (x : ℕ) → (¬ Memᴰ x (s.on ∷ S)) → Memᴰ x (ons O) ⊎ Memᴰ x (s.on ∷ []) → nexts x ⊆ ons (O ++ (s ∷ []))
        still x h (inl m) y k = in_left O (s ∷ []) (c.done x m (λ j. h (Memᴰ.tail j)) y k)
        still x h (inr m) y k = absurd (h (only (Memᴰ.cases_cons m)))
          where
            only : (x ≡ s.on) ⊎ Memᴰ x [] → Memᴰ x (s.on ∷ S)
            only (inl e) = Memᴰ.head e
            only (inr j) = absurd (elim j [ ])

    -- s is finished: it goes off the stack
    finish : (S : List ℕ) (O : List (Thread X)) (s : Thread X) → Closed nexts (s.on ∷ S) O → ons (out s) ⊆ ons O → Closed nexts S O
    finish S O s c all = record { stack = λ y m. c.stack y (Memᴰ.tail m); done = λ x m h. by x m h (equal_or_not x s.on) }
      where
        by : (x : ℕ) → Memᴰ x (ons O) → (¬ Memᴰ x S) → (x ≡ s.on) ⊎ (¬ (x ≡ s.on)) → nexts x ⊆ ons O
        by x m h (inl e) y k = all y (rw (shape s) (rw e at k))
        by x m h (inr e) y k = c.done x m (λ j. off (Memᴰ.cases_cons j)) y k
          where
            off : (x ≡ s.on) ⊎ Memᴰ x S → ⊥
            off (inl p) = e p
            off (inr j) = h j

    one_new : (n : ℕ) → One n → (S : List ℕ) (O : List (Thread X)) (s : Thread X) → Enough N (suc n) S → Closed nexts S O → (¬ Memᴰ s.on (ons O))
        → Done nexts S O (s ∷ []) (s ∷ each (paths out n (s.on ∷ S)) (out s)) (foldl (visit out n) (O ++ (s ∷ [])) (out s))
    one_new n one S O s e c h =
        let d = many n one (s.on ∷ S) (out s) (O ++ (s ∷ [])) more (start S O s c) in
        record {
          found = d.found ∙ ap (λ o. firsts o (each (paths out n (s.on ∷ S)) (out s))) (sym (add_new O s h));
          closed = finish S _ s d.closed d.there;
          there = λ y m. grown nexts d y (in_right O (s ∷ []) m);
        }
      where
        more : (y : ℕ) → Memᴰ y (ons (out s)) → Enough N n (s.on ∷ S)
        more y m = deeper (λ k. h (c.stack s.on k)) (inner s.on y (rw (shape s) at m)) e

    one_step : (n : ℕ) → One n → One (suc n)
    unfolding paths visit
    one_step n one S O s e c = by (mem_or_not s.on (ons O))
      where
        by : Memᴰ s.on (ons O) ⊎ (¬ Memᴰ s.on (ons O)) → Done nexts S O (s ∷ []) (paths out (suc n) S s) (visit out (suc n) O s)
        by (inl h) = rw (mem→has h) (one_known n S O s c h)
        by (inr h) = rw (not→hasnt h, not→hasnt (λ k. h (c.stack s.on k))) (one_new n one S O s e c h)

    pub one : (n : ℕ) → One n
    one zero S O s e c = absurd (never e)
    one (suc n) S O s e c = one_step n (one n) S O s e c

    -- ---- the theorem: over a list of starting threads, in order

    nothing_yet : Closed nexts {X = X} [] []
    nothing_yet = record { stack = λ y m. m; done = λ x m h y k. absurd (elim m [ ]) }

    pub search_finds : (ss : List (Thread X)) → Done nexts [] [] ss (each (paths out (suc N) []) ss) (foldl (visit out (suc N)) [] ss)
    search_finds ss = many (suc N) (one (suc N)) [] ss [] (λ y m. enough N) nothing_yet
