-- Membership, its test, and lists of distinct numbers. Assumes nothing.
use mathlib.Core.Path.{◌≡◌, refl, sym, ap, ◌∙◌}
use mathlib.Core.Logic.{◌⊎◌, inl, inr}
use mathlib.Core.Bool.{Bool, true, false, ◌||◌}
use mathlib.Core.List.Memᴰ
use mathlib.Core.List.{List, [], ◌∷◌, ◌++◌, Memᴰ}
use Prim.Native.Nat.{ℕ, zero, suc, ◌+◌, ◌≤◌, ◌<◌, suc-le-suc, zero-le}
use native.Mathlib.Omega.{arith}
use lib.Dec.{T, eqb, eqb→eq, eqb_refl}
use lib.ListN.{length}
use Rattle.ground.specs.Lists.{each}
use Rattle.paths.specs.Search.{choose, has, Thread, ons}

pub Bool-cases : (b : Bool) → (b ≡ true) ⊎ (b ≡ false)
Bool-cases true = inl refl
Bool-cases false = inr refl

pub T_of : {b : Bool} → b ≡ true → T b
T_of e = rw e tt

pub of_T : (b : Bool) → T b → b ≡ true
of_T true t = refl
of_T false t = absurd t

pub choose_true : {A : Type 0} {b : Bool} (x : A) (f : Unit {0} → A) → b ≡ true → choose b x f ≡ x
choose_true x f e = rw e

pub choose_false : {A : Type 0} {b : Bool} (x : A) (f : Unit {0} → A) → b ≡ false → choose b x f ≡ f tt
choose_false x f e = rw e

-- ---- the test

or_cases : (a b : Bool) → T (a || b) → T a ⊎ T b
or_cases true b t = inl tt
or_cases false b t = inr t

or_left : (a b : Bool) → T a → T (a || b)
or_left true b t = tt
or_left false b t = absurd t

or_right : (a b : Bool) → T b → T (a || b)
or_right true b t = tt
or_right false b t = t

has→mem' : (r : ℕ) (l : List ℕ) → T (has r l) → Memᴰ r l
has→mem' r [] t = absurd t
has→mem' r (x ∷ xs) t = step (λ t'. has→mem' r xs t') (or_cases (eqb r x) (has r xs) t)
  where
    step : (T (has r xs) → Memᴰ r xs) → T (eqb r x) ⊎ T (has r xs) → Memᴰ r (x ∷ xs)
    step ih (inl e) = Memᴰ.head (eqb→eq r x e)
    step ih (inr h) = Memᴰ.tail (ih h)

mem→has' : (r : ℕ) {l : List ℕ} → Memᴰ r l → T (has r l)
mem→has' r (Memᴰ.head {x = x} {xs = xs} e) = or_left (eqb r x) (has r xs) (rw (← e) (eqb_refl r))
mem→has' r (Memᴰ.tail {x = x} {xs = xs} m) = or_right (eqb r x) (has r xs) (mem→has' r m)

pub has→mem : {r : ℕ} {l : List ℕ} → has r l ≡ true → Memᴰ r l
has→mem {r} {l} e = has→mem' r l (T_of e)

pub mem→has : {r : ℕ} {l : List ℕ} → Memᴰ r l → has r l ≡ true
mem→has {r} {l} m = of_T (has r l) (mem→has' r m)

pub hasnt→not : {r : ℕ} {l : List ℕ} → has r l ≡ false → ¬ Memᴰ r l
hasnt→not {r} {l} e m = rw e at (mem→has' r m)

pub not→hasnt : {r : ℕ} {l : List ℕ} → ¬ Memᴰ r l → has r l ≡ false
not→hasnt {r} {l} h = by (Bool-cases (has r l))
  where
    by : (has r l ≡ true) ⊎ (has r l ≡ false) → has r l ≡ false
    by (inl e) = absurd (h (has→mem e))
    by (inr e) = e

pub mem_or_not : (r : ℕ) (l : List ℕ) → Memᴰ r l ⊎ (¬ Memᴰ r l)
mem_or_not r l = by (Bool-cases (has r l))
  where
    by : (has r l ≡ true) ⊎ (has r l ≡ false) → Memᴰ r l ⊎ (¬ Memᴰ r l)
    by (inl e) = inl (has→mem e)
    by (inr e) = inr (hasnt→not e)

-- ---- a set of numbers that holds another

abbrev pub ◌⊆◌ : List ℕ → List ℕ → Type 0
◌⊆◌ l k = (y : ℕ) → Memᴰ y l → Memᴰ y k

infix 4 ◌⊆◌
module _ {X : Type 0} where
  pub ons_append : (l k : List (Thread X)) → ons (l ++ k) ≡ ons l ++ ons k
  ons_append [] k = refl
  ons_append (s ∷ l) k = ap (λ r. s.on ∷ r) (ons_append l k)

  pub in_left : {y : ℕ} (l k : List (Thread X)) → Memᴰ y (ons l) → Memᴰ y (ons (l ++ k))
  in_left l k m = rw (ons_append l k) (Memᴰ.append_left (ons k) m)

  pub in_right : {y : ℕ} (l k : List (Thread X)) → Memᴰ y (ons k) → Memᴰ y (ons (l ++ k))
  in_right l k m = rw (ons_append l k) (Memᴰ.append_right (ons l) m)

  pub in_cases : {y : ℕ} (l k : List (Thread X)) → Memᴰ y (ons (l ++ k)) → Memᴰ y (ons l) ⊎ Memᴰ y (ons k)
  in_cases l k m = Memᴰ.append_cases (ons l) (rw (ons_append l k) at m)

  -- a record of `each f l` is one of `f t`, for a t of l
  pub in_each : {A : Type 0} {y : ℕ} (f : A → List (Thread X)) (l : List A) → Memᴰ y (ons (each f l))
      → (t : A) × Memᴰ t l × Memᴰ y (ons (f t))
  in_each f [] m = absurd (elim m [ ])
  in_each {A} {y} f (x ∷ l) m = by (λ k. in_each f l k) (in_cases (f x) (each f l) m)
    where
      by : (Memᴰ y (ons (each f l)) → (t : A) × Memᴰ t l × Memᴰ y (ons (f t)))
          → Memᴰ y (ons (f x)) ⊎ Memᴰ y (ons (each f l)) → (t : A) × Memᴰ t (x ∷ l) × Memᴰ y (ons (f t))
      by ih (inl h) = (x, Memᴰ.head refl, h)
      by ih (inr h) = let r = ih h in (r.0, Memᴰ.tail r.1, r.2)

  pub mem_ons : {t : Thread X} {l : List (Thread X)} → Memᴰ t l → Memᴰ t.on (ons l)
  mem_ons (Memᴰ.head e) = Memᴰ.head (ap (λ s. s.on) e)
  mem_ons (Memᴰ.tail m) = Memᴰ.tail (mem_ons m)

  pub ons_mem : {y : ℕ} (l : List (Thread X)) → Memᴰ y (ons l) → (t : Thread X) × Memᴰ t l × (y ≡ t.on)
  ons_mem [] m = absurd (elim m [ ])
  ons_mem {y} (s ∷ l) m = by (λ k. ons_mem l k) (Memᴰ.cases_cons m)
    where
      by : (Memᴰ y (ons l) → (t : Thread X) × Memᴰ t l × (y ≡ t.on)) → (y ≡ s.on) ⊎ Memᴰ y (ons l) → (t : Thread X) × Memᴰ t (s ∷ l) × (y ≡ t.on)
      by ih (inl e) = (s, Memᴰ.head refl, e)
      by ih (inr k) = let r = ih k in (r.0, Memᴰ.tail r.1, r.2)

-- ---- distinct numbers below N are at most N

abbrev pub Distinct : List ℕ → Type 0
Distinct [] = Unit {0}
Distinct (x ∷ l) = (¬ Memᴰ x l) × Distinct l

-- l without x
without : ℕ → List ℕ → List ℕ
without x [] = []
without x (y ∷ l) = choose (eqb x y) (without x l) (λ _. y ∷ without x l)

module _ (x y : ℕ) (l : List ℕ) where
  at_same : eqb x y ≡ true → without x (y ∷ l) ≡ without x l
  unfolding without
  at_same e = rw e

  at_other : eqb x y ≡ false → without x (y ∷ l) ≡ y ∷ without x l
  unfolding without
  at_other e = rw e

eq_or_not : (x y : ℕ) → (eqb x y ≡ true) ⊎ (eqb x y ≡ false)
eq_or_not x y = Bool-cases (eqb x y)

same : {x y : ℕ} → eqb x y ≡ true → x ≡ y
same {x} {y} e = eqb→eq x y (T_of e)

other : {x y : ℕ} → eqb x y ≡ false → ¬ (x ≡ y)
other {x} {y} e p =
    let t : T (eqb x y) = rw (← p) (eqb_refl x) in
    absurd (rw e at t)

pub equal_or_not : (x y : ℕ) → (x ≡ y) ⊎ (¬ (x ≡ y))
equal_or_not x y = by (eq_or_not x y)
  where
    by : (eqb x y ≡ true) ⊎ (eqb x y ≡ false) → (x ≡ y) ⊎ (¬ (x ≡ y))
    by (inl e) = inl (same e)
    by (inr e) = inr (other e)

without_in : (x : ℕ) (l : List ℕ) {y : ℕ} → Memᴰ y (without x l) → Memᴰ y l × (¬ (x ≡ y))
unfolding without
without_in x [] m = absurd (elim m [ ])
without_in x (z ∷ l) {y} m = by (λ k. without_in x l k) (eq_or_not x z)
  where
    by : (Memᴰ y (without x l) → Memᴰ y l × (¬ (x ≡ y))) → (eqb x z ≡ true) ⊎ (eqb x z ≡ false) → Memᴰ y (z ∷ l) × (¬ (x ≡ y))
    by ih (inl e) = let r = ih (rw (at_same x z l e) at m) in (Memᴰ.tail r.0, r.1)
    by ih (inr e) = also (Memᴰ.cases_cons (rw (at_other x z l e) at m))
      where
        also : (y ≡ z) ⊎ Memᴰ y (without x l) → Memᴰ y (z ∷ l) × (¬ (x ≡ y))
        also (inl p) = (Memᴰ.head p, λ q. other e (q ∙ p))
        also (inr k) = let r = ih k in (Memᴰ.tail r.0, r.1)

without_distinct : (x : ℕ) (l : List ℕ) → Distinct l → Distinct (without x l)
unfolding without
without_distinct x [] d = tt
without_distinct x (z ∷ l) d = by (without_distinct x l d.1) (eq_or_not x z)
  where
    by : Distinct (without x l) → (eqb x z ≡ true) ⊎ (eqb x z ≡ false) → Distinct (without x (z ∷ l))
    by ih (inl e) = rw (at_same x z l e) ih
    by ih (inr e) = rw (at_other x z l e) ((λ m. d.0 (without_in x l m).0), ih)

without_none : (x : ℕ) (l : List ℕ) → (¬ Memᴰ x l) → without x l ≡ l
unfolding without
without_none x [] h = refl
without_none x (z ∷ l) h = by (without_none x l (λ m. h (Memᴰ.tail m))) (eq_or_not x z)
  where
    by : without x l ≡ l → (eqb x z ≡ true) ⊎ (eqb x z ≡ false) → without x (z ∷ l) ≡ z ∷ l
    by ih (inl e) = absurd (h (Memᴰ.head (same e)))
    by ih (inr e) = at_other x z l e ∙ ap (λ k. z ∷ k) ih

without_length : (x : ℕ) (l : List ℕ) → Distinct l → length l ≤ suc (length (without x l))
without_length x [] d = zero-le
without_length x (z ∷ l) d = by (without_length x l d.1) (eq_or_not x z)
  where
    by : length l ≤ suc (length (without x l)) → (eqb x z ≡ true) ⊎ (eqb x z ≡ false) → suc (length l) ≤ suc (length (without x (z ∷ l)))
    by ih (inl e) = rw (at_same x z l e, without_none x l (λ m. d.0 (Memᴰ.cast (sym (same e)) m))) (omega arith)
    by ih (inr e) = rw (at_other x z l e) (suc-le-suc ih)

pub few : (N : ℕ) (l : List ℕ) → Distinct l → ((y : ℕ) → Memᴰ y l → y < N) → length l ≤ N
few zero [] d b = zero-le
few zero (x ∷ l) d b = let h = b x (Memᴰ.head refl) in omega arith
few (suc N) l d b =
    let ih = few N (without N l) (without_distinct N l d) (λ y m. below y (without_in N l m)) in
    let k = without_length N l d in
    omega arith
  where
    below : (y : ℕ) → Memᴰ y l × (¬ (N ≡ y)) → y < N
    below y m = let h = b y m.0 in let n = m.1 in omega arith

-- ---- enough fuel: the stack is distinct records below N, and those that are not on it are fewer than n

pub record Enough (N n : ℕ) (S : List ℕ) : Type 0 where
  pub distinct : Distinct S
  pub below : (y : ℕ) → Memᴰ y S → y < N
  pub fuel : N < n + length S

pub never : {N : ℕ} {S : List ℕ} → Enough N 0 S → ⊥
never {N} {S} e = let h = few N S e.distinct e.below in let k = e.fuel in omega arith

pub deeper : {N n : ℕ} {S : List ℕ} {r : ℕ} → (¬ Memᴰ r S) → r < N → Enough N (suc n) S → Enough N n (r ∷ S)
deeper {N} {n} {S} {r} h b e =
    let f = e.fuel in
    record { distinct = (h, e.distinct); below = λ x k. lower x (Memᴰ.cases_cons k); fuel = omega arith }
  where
    lower : (x : ℕ) → (x ≡ r) ⊎ Memᴰ x S → x < N
    lower x (inl p) = rw p b
    lower x (inr k) = e.below x k

pub enough : (N : ℕ) → Enough N (suc N) []
enough N = record { distinct = tt; below = λ y m. absurd (elim m [ ]); fuel = omega arith }
