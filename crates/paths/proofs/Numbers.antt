-- Register numbers: other numbers for the places, each tag's apart, give the same situation. Assumes nothing.
use mathlib.Core.Path.{◌≡◌, refl, sym, ap, ap₂, ◌∙◌}
use mathlib.Core.Logic.{◌⊎◌, inl, inr}
use mathlib.Core.Bool.{Bool, true, false, ◌&&◌, cond}
use mathlib.Core.List.Memᴰ
use mathlib.Core.List.{List, [], ◌∷◌, ◌++◌, map, foldl, Memᴰ}
use mathlib.Core.Option.{none, some}
use Prim.Native.Nat.{ℕ, suc, ◌<◌}
use native.Mathlib.Omega.{arith}
use lib.Dec.{eqb, eqb→eq, eqb_refl}
use lib.ListN.{length, get_or}
use Rattle.paths.specs.Search.{Thread}
use Rattle.paths.specs.Registers.{Tags, Key, is, holds, held_by, index, known, note, registers, renamed, rename, number}
use Rattle.ground.proofs.Lists.{map_append}
use Rattle.paths.proofs.Firsts.{Keyed, put_in, gather_has, gather_in}
use Rattle.paths.proofs.Member.{Bool-cases, T_of, of_T}

-- ---- keys

and_true : (a b : Bool) → a && b ≡ true → (a ≡ true) × (b ≡ true)
and_true true b e = (refl, e)
and_true false b e = let z : ◌≡◌ {A = ℕ} 0 1 = cc in absurd (omega arith)

pub is→eq : (k j : Key) → is k j ≡ true → k ≡ j
is→eq k j e =
    let a = and_true (eqb k.0 j.0) (eqb k.1 j.1) e in
    ap₂ (λ t p. (t, p)) (eqb→eq k.0 j.0 (T_of a.0)) (eqb→eq k.1 j.1 (T_of a.1))

is_refl : (k : Key) → is k k ≡ true
is_refl k = rw (of_T (eqb k.0 k.0) (eqb_refl k.0), of_T (eqb k.1 k.1) (eqb_refl k.1))

pub eq→is : {k j : Key} → k ≡ j → is k j ≡ true
eq→is {k} {j} e = rw (← e) (is_refl k)

-- two tests agree where each follows from the other
agree : (a b : Bool) → (a ≡ true → b ≡ true) → (b ≡ true → a ≡ true) → a ≡ b
agree true b f g = sym (f refl)
agree false true f g = g refl
agree false false f g = refl

-- ---- a renaming, as a map of keys

abbrev pub hat : (ℕ → ℕ → ℕ) → Key → Key
hat σ k = (k.0, σ k.0 k.1)

-- it tells the keys of U apart
abbrev pub Apart : (ℕ → ℕ → ℕ) → List Key → Type 0
Apart σ U = (k j : Key) → Memᴰ k U → Memᴰ j U → hat σ k ≡ hat σ j → k ≡ j

holds_renamed : (σ : ℕ → ℕ → ℕ) (t : ℕ) (τ : Tags) → holds t (renamed σ t τ) ≡ map (hat σ) (holds t τ)
holds_renamed σ t [] = refl
holds_renamed σ t (none ∷ τ) = holds_renamed σ (suc t) τ
holds_renamed σ t (some p ∷ τ) = ap (λ r. (t, σ t p) ∷ r) (holds_renamed σ (suc t) τ)

pub held_renamed : (σ : ℕ → ℕ → ℕ) (l : List (Thread Tags)) → held_by (rename σ l) ≡ map (hat σ) (held_by l)
held_renamed σ [] = refl
held_renamed σ (s ∷ l) = rw (holds_renamed σ 0 s.had, held_renamed σ l) (sym (map_append (hat σ) (holds 0 s.had) (held_by l)))

-- ---- a renaming that tells the keys apart changes no register number

module _ (σ : ℕ → ℕ → ℕ) (U : List Key) (ap_U : Apart σ U) where
  is_hat : (k j : Key) → Memᴰ k U → Memᴰ j U → is (hat σ k) (hat σ j) ≡ is k j
  is_hat k j m n = agree (is (hat σ k) (hat σ j)) (is k j) (λ e. eq→is (ap_U k j m n (is→eq (hat σ k) (hat σ j) e))) (λ e. eq→is (ap (hat σ) (is→eq k j e)))

  index_hat : (k : Key) (ks : List Key) → Memᴰ k U → ((j : Key) → Memᴰ j ks → Memᴰ j U) → index (hat σ k) (map (hat σ) ks) ≡ index k ks
  index_hat k [] m h = refl
  index_hat k (j ∷ ks) m h = rw (is_hat k j m (h j (Memᴰ.head refl)), index_hat k ks m (λ i n. h i (Memᴰ.tail n)))

  known_hat : (k : Key) (ks : List Key) → Memᴰ k U → ((j : Key) → Memᴰ j ks → Memᴰ j U) → known (hat σ k) (map (hat σ) ks) ≡ known k ks
  known_hat k [] m h = refl
  known_hat k (j ∷ ks) m h = rw (is_hat k j m (h j (Memᴰ.head refl)), known_hat k ks m (λ i n. h i (Memᴰ.tail n)))

  note_hat : (ks : List Key) (k : Key) → Memᴰ k U → ((j : Key) → Memᴰ j ks → Memᴰ j U) → note (map (hat σ) ks) (hat σ k) ≡ map (hat σ) (note ks k)
  note_hat ks k m h = ap (λ c. cond c (map (hat σ) ks) (map (hat σ) ks ++ (hat σ k ∷ []))) (known_hat k ks m h) ∙ by (known k ks)
    where
      by : (c : Bool) → cond c (map (hat σ) ks) (map (hat σ) ks ++ (hat σ k ∷ [])) ≡ map (hat σ) (cond c ks (ks ++ (k ∷ [])))
      by true = refl
      by false = sym (map_append (hat σ) ks (k ∷ []))

-- ---- the registers are the keys held, each once, where it first appears

known→mem : (k : Key) (ks : List Key) → known k ks ≡ true → Memᴰ k ks
known→mem k [] e = let z : ◌≡◌ {A = ℕ} 0 1 = cc in absurd (omega arith)
known→mem k (j ∷ ks) e = by (λ f. known→mem k ks f) (is k j) refl e
  where
    by : (known k ks ≡ true → Memᴰ k ks) → (c : Bool) → is k j ≡ c → cond c true (known k ks) ≡ true → Memᴰ k (j ∷ ks)
    by ih true p q = Memᴰ.head (is→eq k j p)
    by ih false p q = Memᴰ.tail (ih q)

mem→known : {k : Key} {ks : List Key} → Memᴰ k ks → known k ks ≡ true
mem→known {k} (Memᴰ.head {x = j} e) = rw (eq→is e)
mem→known {k} (Memᴰ.tail {x = j} {xs = ks} m) = by (is k j) (mem→known m)
  where
    by : (c : Bool) → known k ks ≡ true → cond c true (known k ks) ≡ true
    by true e = refl
    by false e = e

pub by_key : Keyed {S = Key} (λ k. k) (λ k l. Memᴰ k l) note
by_key =
    record {
      none = λ m. elim m [ ];
      split = λ m. Memᴰ.cases_cons m;
      here = λ e. Memᴰ.head e;
      there = λ m. Memᴰ.tail m;
      decide = λ k ks. by k ks (Bool-cases (known k ks));
      known = λ ks k m. rw (mem→known m);
      new = λ ks k h. rest k ks h (Bool-cases (known k ks));
    }
  where
    by : (k : Key) (ks : List Key) → (known k ks ≡ true) ⊎ (known k ks ≡ false) → Memᴰ k ks ⊎ (¬ Memᴰ k ks)
    by k ks (inl e) = inl (known→mem k ks e)
    by k ks (inr e) = inr (λ m. let f = mem→known m in let z : ◌≡◌ {A = ℕ} 0 1 = cc in omega arith)

    rest : (k : Key) (ks : List Key) → (¬ Memᴰ k ks) → (known k ks ≡ true) ⊎ (known k ks ≡ false) → note ks k ≡ ks ++ (k ∷ [])
    rest k ks h (inl e) = absurd (h (known→mem k ks e))
    rest k ks h (inr e) = rw e

module _ (σ : ℕ → ℕ → ℕ) (U : List Key) (ap_U : Apart σ U) where
  notes_hat : (l ks : List Key) → ((j : Key) → Memᴰ j l → Memᴰ j U) → ((j : Key) → Memᴰ j ks → Memᴰ j U)
      → foldl note (map (hat σ) ks) (map (hat σ) l) ≡ map (hat σ) (foldl note ks l)
  notes_hat [] ks g h = refl
  notes_hat (k ∷ l) ks g h =
      ap (λ o. foldl note o (map (hat σ) l)) (note_hat σ U ap_U ks k (g k (Memᴰ.head refl)) h)
      ∙ notes_hat l (note ks k) (λ j m. g j (Memᴰ.tail m)) (λ j m. by j (put_in by_key ks k m))
    where
      by : (j : Key) → Memᴰ j ks ⊎ (j ≡ k) → Memᴰ j U
      by j (inl m) = h j m
      by j (inr e) = Memᴰ.cast e (g k (Memᴰ.head refl))

pub registers_hat : (σ : ℕ → ℕ → ℕ) (l : List (Thread Tags)) → Apart σ (held_by l) → registers (rename σ l) ≡ map (hat σ) (registers l)
unfolding registers
registers_hat σ l a = ap (λ ks. foldl note [] ks) (held_renamed σ l) ∙ notes_hat σ (held_by l) a (held_by l) [] (λ j m. m) (λ j m. absurd (elim m [ ]))

pub held_registers : (l : List (Thread Tags)) {j : Key} → Memᴰ j (held_by l) → Memᴰ j (registers l)
unfolding registers
held_registers l m = gather_has by_key (held_by l) [] m

pub registers_held : (l : List (Thread Tags)) {j : Key} → Memᴰ j (registers l) → Memᴰ j (held_by l)
unfolding registers
registers_held l {j} m = by (gather_in by_key (held_by l) [] m)
  where
    by : Memᴰ j [] ⊎ Memᴰ j (held_by l) → Memᴰ j (held_by l)
    by (inl n) = absurd (elim n [ ])
    by (inr n) = n

-- ---- renamings one after the other, and equal ones

renamed_renamed : (σ ς : ℕ → ℕ → ℕ) (t : ℕ) (τ : Tags) → renamed σ t (renamed ς t τ) ≡ renamed (λ t p. σ t (ς t p)) t τ
renamed_renamed σ ς t [] = refl
renamed_renamed σ ς t (none ∷ τ) = ap (λ r. none ∷ r) (renamed_renamed σ ς (suc t) τ)
renamed_renamed σ ς t (some p ∷ τ) = ap (λ r. some (σ t (ς t p)) ∷ r) (renamed_renamed σ ς (suc t) τ)

pub rename_rename : (σ ς : ℕ → ℕ → ℕ) (l : List (Thread Tags)) → rename σ (rename ς l) ≡ rename (λ t p. σ t (ς t p)) l
rename_rename σ ς [] = refl
rename_rename σ ς (s ∷ l) = rw (renamed_renamed σ ς 0 s.had, rename_rename σ ς l)

renamed_same : (σ ς : ℕ → ℕ → ℕ) (t : ℕ) (τ : Tags) → ((k : Key) → Memᴰ k (holds t τ) → σ k.0 k.1 ≡ ς k.0 k.1) → renamed σ t τ ≡ renamed ς t τ
renamed_same σ ς t [] h = refl
renamed_same σ ς t (none ∷ τ) h = ap (λ r. none ∷ r) (renamed_same σ ς (suc t) τ h)
renamed_same σ ς t (some p ∷ τ) h = rw (h (t, p) (Memᴰ.head refl), renamed_same σ ς (suc t) τ (λ k m. h k (Memᴰ.tail m)))

pub rename_same : (σ ς : ℕ → ℕ → ℕ) (l : List (Thread Tags)) → ((k : Key) → Memᴰ k (held_by l) → σ k.0 k.1 ≡ ς k.0 k.1) → rename σ l ≡ rename ς l
rename_same σ ς [] h = refl
rename_same σ ς (s ∷ l) h =
    rw (renamed_same σ ς 0 s.had (λ k m. h k (Memᴰ.append_left (held_by l) m)), rename_same σ ς l (λ k m. h k (Memᴰ.append_right (holds 0 s.had) m)))

renamed_self : (t : ℕ) (τ : Tags) → renamed (λ t p. p) t τ ≡ τ
renamed_self t [] = refl
renamed_self t (none ∷ τ) = ap (λ r. none ∷ r) (renamed_self (suc t) τ)
renamed_self t (some p ∷ τ) = ap (λ r. some p ∷ r) (renamed_self (suc t) τ)

pub rename_self : (l : List (Thread Tags)) → rename (λ t p. p) l ≡ l
rename_self [] = refl
rename_self (s ∷ l) = rw (renamed_self 0 s.had, rename_self l)

-- THE NUMBERING: other places, told apart for each tag, give the same numbers
pub number_rename : (σ : ℕ → ℕ → ℕ) (l : List (Thread Tags)) → Apart σ (held_by l) → number (rename σ l) ≡ number l
unfolding number
number_rename σ l a =
    rw (registers_hat σ l a, rename_rename)
    (rename_same (λ t p. index (t, σ t p) (map (hat σ) (registers l))) (λ t p. index (t, p) (registers l)) l
    (λ k m. index_hat σ (held_by l) a k (registers l) m (λ j n. registers_held l n)))

-- ---- from a register's number back to its place

index_at : (k : Key) (ks : List Key) → Memᴰ k ks → (index k ks < length ks) × (get_or ks (index k ks) (0, 0) ≡ k)
index_at k [] m = absurd (elim m [ ])
index_at k (j ∷ ks) m = by (λ n. index_at k ks n) (is k j) refl
  where
    later : (Memᴰ k ks → (index k ks < length ks) × (get_or ks (index k ks) (0, 0) ≡ k)) → is k j ≡ false → (k ≡ j) ⊎ Memᴰ k ks
        → (suc (index k ks) < suc (length ks)) × (get_or ks (index k ks) (0, 0) ≡ k)
    later ih p (inl e) = let q = eq→is e in let z : ◌≡◌ {A = ℕ} 0 1 = cc in absurd (omega arith)
    later ih p (inr n) = let r = ih n in let h = r.0 in (omega arith, r.1)

    by : (Memᴰ k ks → (index k ks < length ks) × (get_or ks (index k ks) (0, 0) ≡ k)) → (c : Bool) → is k j ≡ c
        → (cond c 0 (suc (index k ks)) < suc (length ks)) × (get_or (j ∷ ks) (cond c 0 (suc (index k ks))) (0, 0) ≡ k)
    by ih true p = (omega arith, sym (is→eq k j p))
    by ih false p = later ih p (Memᴰ.cases_cons m)

pub register_at : (l : List (Thread Tags)) (k : Key) → Memᴰ k (held_by l)
    → (index k (registers l) < length (registers l)) × (get_or (registers l) (index k (registers l)) (0, 0) ≡ k)
register_at l k m = index_at k (registers l) (held_registers l m)
