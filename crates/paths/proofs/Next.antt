-- The next situation follows from the last one and the byte alone. Assumes nothing.
use mathlib.Core.Path.{◌≡◌, refl, sym, ap, ap₂, ◌∙◌}
use mathlib.Core.Logic.{◌⊎◌, inl, inr}
use mathlib.Core.Bool.{Bool, true, false, cond}
use mathlib.Core.List.Memᴰ
use mathlib.Core.List.{List, [], ◌∷◌, ◌++◌, foldl, foldl-append, Memᴰ}
use mathlib.Core.Option.{none, some}
use Prim.Native.Nat.{ℕ, zero, suc, ◌≤◌, ◌<◌}
use native.Mathlib.Nat.{lt_irrefl}
use native.Mathlib.Omega.{arith}
use lib.Dec.{ltb, ltb→lt, lt→ltb}
use lib.ListN.{length, get_or, set, length-map}
use Rattle.net.specs.Rec.{Net, rec}
use Rattle.paths.specs.Ways.{Turn, first, second, mark, Move, eat, turn}
use Rattle.ground.specs.Lists.{each}
use Rattle.paths.specs.Search.{choose, has, Thread, ons, visit}
use Rattle.paths.specs.Situation.{quiet, bite, follow, on_quiet, on_byte, close}
use Rattle.paths.specs.Registers.{Tags, no_tags, tagged, stands, standing, step, begin, after, Key, holds, held_by, index, registers, renamed, rename, number, situation, next}
use Rattle.paths.proofs.Member.{Bool-cases, T_of, of_T}
use Rattle.paths.proofs.Faithful.{each_cases, each_has, follow_cases}
use Rattle.paths.proofs.Same.{lifts, lifts_close, lifts_byte}
use Rattle.paths.proofs.Numbers.{hat, Apart, held_renamed, registers_hat, rename_rename, rename_same, rename_self, number_rename, register_at}

-- ---- a property of what threads hold, kept by each move, is kept by the search

module _ {X : Type 0} (P : X → Type 0) where
  abbrev pub Each : List (Thread X) → Type 0
  Each l = (s : Thread X) → Memᴰ s l → P s.had

  each_append : (l k : List (Thread X)) → Each l → Each k → Each (l ++ k)
  each_append l k g h s m = by (Memᴰ.append_cases l m)
    where
      by : Memᴰ s l ⊎ Memᴰ s k → P s.had
      by (inl n) = g s n
      by (inr n) = h s n

  pub single : (s : Thread X) → P s.had → Each (s ∷ [])
  single s p t m = by (Memᴰ.cases_cons m)
    where
      by : (t ≡ s) ⊎ Memᴰ t [] → P t.had
      by (inl e) = rw e p
      by (inr n) = absurd (elim n [ ])

  each_fold : (v : List (Thread X) → Thread X → List (Thread X)) → ((O : List (Thread X)) (s : Thread X) → Each O → P s.had → Each (v O s))
      → (l O : List (Thread X)) → Each O → Each l → Each (foldl v O l)
  each_fold v h [] O o g = o
  each_fold v h (s ∷ l) O o g = each_fold v h l (v O s) (h O s o (g s (Memᴰ.head refl))) (λ t m. g t (Memᴰ.tail m))

  each_visit : (out : Thread X → List (Thread X)) → ((s : Thread X) → P s.had → Each (out s)) → (n : ℕ) (O : List (Thread X)) (s : Thread X) → Each O → P s.had → Each (visit out n O s)
  unfolding visit
  each_visit out h zero O s o p = o
  each_visit out h (suc n) O s o p = by (each_visit out h n) (has s.on (ons O))
    where
      by : ((O : List (Thread X)) (s : Thread X) → Each O → P s.had → Each (visit out n O s)) → (c : Bool) → Each (choose c O (λ _. foldl (visit out n) (O ++ (s ∷ [])) (out s)))
      by ih true = o
      by ih false = each_fold (visit out n) ih (out s) (O ++ (s ∷ [])) (each_append O (s ∷ []) o (single s p)) (h s p)

  module _ (f : Move → X → X) (keep : (m : Move) (x : X) → P x → P (f m x)) (A : Net) where
    each_follow : (x : X) (es : List (Move × ℕ)) → P x → Each (follow f x es)
    each_follow x es p t m = let c = follow_cases f x es m in rw c.2 (keep c.0.0 x p)

    pub each_close : (ss : List (Thread X)) → Each ss → Each (close f A ss)
    unfolding close on_quiet
    each_close ss g = each_fold (visit (on_quiet f A) (suc (length A)))
        (each_visit (on_quiet f A) (λ s p. each_follow s.had (quiet (rec A s.on)) p) (suc (length A))) ss [] (λ s m. absurd (elim m [ ])) g

    pub each_byte : (b : ℕ) (ss : List (Thread X)) → Each ss → Each (each (on_byte f A b) ss)
    unfolding on_byte
    each_byte b ss g t m = let c = each_cases (on_byte f A b) ss m in each_follow c.0.had (bite b (rec A c.0.on)) (g c.0 c.1) t c.2

  pub each_standing : (A : Net) (l : List (Thread X)) → Each l → Each (standing A l)
  each_standing A [] g = g
  each_standing A (s ∷ l) g = by (each_standing A l (λ t m. g t (Memᴰ.tail m))) (stands (rec A s.on))
    where
      cons : Each (standing A l) → (t : Thread X) → (t ≡ s) ⊎ Memᴰ t (standing A l) → P t.had
      cons ih t (inl e) = rw e (g s (Memᴰ.head refl))
      cons ih t (inr n) = ih t n

      by : Each (standing A l) → (c : Bool) → Each (cond c (s ∷ standing A l) (standing A l))
      by ih true t m = cons ih t (Memᴰ.cases_cons m)
      by ih false t m = ih t m

-- ---- what a step adds is the place of its byte

holds_set : (t : ℕ) (τ : Tags) (u v : ℕ) {k : Key} → Memᴰ k (holds t (set τ u (some v))) → (k.1 ≡ v) ⊎ Memᴰ k (holds t τ)
holds_set t [] u v m = inr m
holds_set t (none ∷ τ) zero v {k} m = by (Memᴰ.cases_cons m)
  where
    by : (k ≡ (t, v)) ⊎ Memᴰ k (holds (suc t) τ) → (k.1 ≡ v) ⊎ Memᴰ k (holds (suc t) τ)
    by (inl e) = inl (ap (λ x. x.1) e)
    by (inr n) = inr n
holds_set t (some p ∷ τ) zero v {k} m = by (Memᴰ.cases_cons m)
  where
    by : (k ≡ (t, v)) ⊎ Memᴰ k (holds (suc t) τ) → (k.1 ≡ v) ⊎ Memᴰ k ((t, p) ∷ holds (suc t) τ)
    by (inl e) = inl (ap (λ x. x.1) e)
    by (inr n) = inr (Memᴰ.tail n)
holds_set t (none ∷ τ) (suc u) v m = holds_set (suc t) τ u v m
holds_set t (some p ∷ τ) (suc u) v {k} m = by (λ n. holds_set (suc t) τ u v n) (Memᴰ.cases_cons m)
  where
    deep : (k.1 ≡ v) ⊎ Memᴰ k (holds (suc t) τ) → (k.1 ≡ v) ⊎ Memᴰ k ((t, p) ∷ holds (suc t) τ)
    deep (inl e) = inl e
    deep (inr n) = inr (Memᴰ.tail n)

    by : (Memᴰ k (holds (suc t) (set τ u (some v))) → (k.1 ≡ v) ⊎ Memᴰ k (holds (suc t) τ)) → (k ≡ (t, p)) ⊎ Memᴰ k (holds (suc t) (set τ u (some v)))
        → (k.1 ≡ v) ⊎ Memᴰ k ((t, p) ∷ holds (suc t) τ)
    by ih (inl e) = inr (Memᴰ.head e)
    by ih (inr n) = deep (ih n)

module _ (now : ℕ) (U : List Key) where
  abbrev Known : Tags → Type 0
  Known τ = (k : Key) → Memᴰ k (holds 0 τ) → (k.1 ≡ now) ⊎ Memᴰ k U

  keep_known : (m : Move) (τ : Tags) → Known τ → Known (tagged now m τ)
  keep_known (eat b) τ h k m = h k m
  keep_known (turn first) τ h k m = h k m
  keep_known (turn second) τ h k m = h k m
  keep_known (turn (mark t)) τ h k m = by (holds_set 0 τ t now m)
    where
      by : (k.1 ≡ now) ⊎ Memᴰ k (holds 0 τ) → (k.1 ≡ now) ⊎ Memᴰ k U
      by (inl e) = inl e
      by (inr n) = h k n

pub held_step : (A : Net) (now b : ℕ) (l : List (Thread Tags)) (k : Key) → Memᴰ k (held_by (step A now b l)) → (k.1 ≡ now) ⊎ Memᴰ k (held_by l)
unfolding step
held_step A now b l k m =
    let c = each_cases (λ s. holds 0 s.had) (step A now b l) m in
    each_standing (Known now (held_by l)) A _
    (each_close (Known now (held_by l)) (tagged now) (keep_known now (held_by l)) A _
    (each_byte (Known now (held_by l)) (tagged now) (keep_known now (held_by l)) A b l (λ s n j i. inr (each_has (λ s. holds 0 s.had) n i))))
    c.0 c.1 k c.2

-- ---- a step renamed is the step of the renamed list

module _ (σ : ℕ → ℕ → ℕ) where
  pub rename_lifts : (l : List (Thread Tags)) → rename σ l ≡ lifts (renamed σ 0) l
  rename_lifts [] = refl
  rename_lifts (s ∷ l) = ap (λ r. record { on = s.on; had = renamed σ 0 s.had } ∷ r) (rename_lifts l)

  standing_rename : (A : Net) (l : List (Thread Tags)) → standing A (rename σ l) ≡ rename σ (standing A l)
  standing_rename A [] = refl
  standing_rename A (s ∷ l) = rw (standing_rename A l) (by (stands (rec A s.on)))
    where
      s' : Thread Tags
      s' = record { on = s.on; had = renamed σ 0 s.had }

      by : (c : Bool) → cond c (s' ∷ rename σ (standing A l)) (rename σ (standing A l)) ≡ rename σ (cond c (s ∷ standing A l) (standing A l))
      by true = refl
      by false = refl

  module _ (R now : ℕ) (h : (t : ℕ) → σ t R ≡ now) where
    set_renamed : (t : ℕ) (τ : Tags) (u : ℕ) → set (renamed σ t τ) u (some now) ≡ renamed σ t (set τ u (some R))
    set_renamed t [] u = refl
    set_renamed t (none ∷ τ) zero = rw (h t)
    set_renamed t (some p ∷ τ) zero = rw (h t)
    set_renamed t (none ∷ τ) (suc u) = ap (λ r. none ∷ r) (set_renamed (suc t) τ u)
    set_renamed t (some p ∷ τ) (suc u) = ap (λ r. some (σ t p) ∷ r) (set_renamed (suc t) τ u)

    turn_renamed : (u : Turn) (τ : Tags) → tagged now (turn u) (renamed σ 0 τ) ≡ renamed σ 0 (tagged R (turn u) τ)
    turn_renamed first τ = refl
    turn_renamed second τ = refl
    turn_renamed (mark t) τ = set_renamed 0 τ t

    pub step_rename : (A : Net) (b : ℕ) (l : List (Thread Tags)) → step A now b (rename σ l) ≡ rename σ (step A R b l)
    unfolding step
    step_rename A b l =
        ap (λ v. standing A (close (tagged now) A (each (on_byte (tagged now) A b) v))) (rename_lifts l)
        ∙ ap (λ v. standing A (close (tagged now) A v)) (lifts_byte (renamed σ 0) (renamed σ 0) (tagged R) (tagged now) A b (λ τ. refl) l)
        ∙ ap (λ v. standing A v) (lifts_close (renamed σ 0) (tagged R) (tagged now) A turn_renamed (each (on_byte (tagged R) A b) l))
        ∙ ap (λ v. standing A v) (sym (rename_lifts (close (tagged R) A (each (on_byte (tagged R) A b) l))))
        ∙ standing_rename A (close (tagged R) A (each (on_byte (tagged R) A b) l))

-- ---- register numbers are told apart, and below their count

pub apart_index : (l : List (Thread Tags)) → Apart (λ t p. index (t, p) (registers l)) (held_by l)
apart_index l k j m n e = sym (register_at l k m).1 ∙ ap (λ i. get_or (registers l) i (0, 0)) (ap (λ v. v.1) e) ∙ (register_at l j n).1

pub as_many_registers : (l : List (Thread Tags)) → length (registers (number l)) ≡ length (registers l)
unfolding number
as_many_registers l = ap length (registers_hat (λ t p. index (t, p) (registers l)) l (apart_index l)) ∙ length-map (registers l) (hat (λ t p. index (t, p) (registers l)))

pub number_below : (l : List (Thread Tags)) (k : Key) → Memᴰ k (held_by (number l)) → k.1 < length (registers l)
unfolding number
number_below l k m =
    let c = Memᴰ.of_map (hat (λ t p. index (t, p) (registers l))) (held_by l) (rw (held_renamed (λ t p. index (t, p) (registers l)) l) at m) in
    let q = (register_at l c.0 c.1).0 in
    rw (← c.2) q

-- ---- THE NEXT SITUATION

module _ (A : Net) (now b : ℕ) (l : List (Thread Tags)) (past : (k : Key) → Memᴰ k (held_by l) → k.1 < now) where
  K : List Key
  K = registers l

  R : ℕ
  R = length K

  ι : ℕ → ℕ → ℕ
  ι t p = index (t, p) K

  -- the place in a register, and `now` in the new one
  ρ : ℕ → ℕ
  ρ i = cond (ltb i R) (get_or K i (0, 0)).1 now

  ρ_new : ρ R ≡ now
  unfolding ρ
  ρ_new = by (Bool-cases (ltb R R))
    where
      by : (ltb R R ≡ true) ⊎ (ltb R R ≡ false) → cond (ltb R R) (get_or K R (0, 0)).1 now ≡ now
      by (inl e) = absurd (lt_irrefl R (ltb→lt R R (T_of e)))
      by (inr e) = rw e

  ρ_old : (k : Key) → Memᴰ k (held_by l) → ρ (index k K) ≡ k.1
  unfolding ρ K R
  ρ_old k m = let r = register_at l k m in rw (of_T (ltb (index k K) R) (lt→ltb (index k K) R r.0), r.1)

  back : rename (λ t. ρ) (number l) ≡ l
  unfolding number ι K
  back = rename_rename (λ t. ρ) ι l ∙ rename_same (λ t p. ρ (ι t p)) (λ t p. p) l ρ_old ∙ rename_self l

  -- a key of the new list: of the new place, or of an old register
  abbrev From : Key → Type 0
  From k = (k.1 ≡ R) ⊎ ((j : Key) × Memᴰ j (held_by l) × (hat ι j ≡ k))

  from : (k : Key) → Memᴰ k (held_by (step A R b (number l))) → From k
  unfolding number ι K
  from k m = by (held_step A R b (number l) k m)
    where
      by : (k.1 ≡ R) ⊎ Memᴰ k (held_by (number l)) → From k
      by (inl e) = inl e
      by (inr n) = inr (Memᴰ.of_map (hat ι) (held_by l) (rw (held_renamed ι l) at n))

  apart_ρ : Apart (λ t. ρ) (held_by (step A R b (number l)))
  unfolding ι
  apart_ρ k j m n e = by (from k m) (from j n)
    where
      tags : k.0 ≡ j.0
      tags = ap (λ v. v.0) e

      places : ρ k.1 ≡ ρ j.1
      places = ap (λ v. v.1) e

      -- an old register's place is before the new one
      clash : (i : Key) → Memᴰ i (held_by l) → ρ (index i K) ≡ ρ R → ⊥
      clash i o q = let h = past i o in let c = sym (ρ_old i o) ∙ q ∙ ρ_new in omega arith

      by : From k → From j → k ≡ j
      by (inl x) (inl y) = ap₂ (λ t p. (t, p)) tags (x ∙ sym y)
      by (inl x) (inr y) = absurd (clash y.0 y.1 (ap (λ v. ρ v.1) y.2 ∙ sym places ∙ ap ρ x))
      by (inr x) (inl y) = absurd (clash x.0 x.1 (ap (λ v. ρ v.1) x.2 ∙ places ∙ ap ρ y))
      by (inr x) (inr y) =
          sym x.2
          ∙ ap (hat ι) (ap₂ (λ t p. (t, p)) (ap (λ v. v.0) x.2 ∙ tags ∙ sym (ap (λ v. v.0) y.2))
          (sym (ρ_old x.0 x.1) ∙ ap (λ v. ρ v.1) x.2 ∙ places ∙ sym (ap (λ v. ρ v.1) y.2) ∙ ρ_old y.0 y.1))
          ∙ y.2

  pub next_right : number (step A now b l) ≡ next A b (number l)
  unfolding next R K
  next_right =
      ap (λ v. number (step A now b v)) (sym back)
      ∙ ap number (step_rename (λ t. ρ) R now (λ t. ρ_new) A b (number l))
      ∙ number_rename (λ t. ρ) (step A R b (number l)) apart_ρ
      ∙ ap (λ r. number (step A r b (number l))) (sym (as_many_registers l))

-- ---- over any input

-- no place is past the bytes consumed
abbrev Within : ℕ → List (Thread Tags) → Type 0
Within p l = (k : Key) → Memᴰ k (held_by l) → k.1 ≤ p

step_within : (A : Net) (p b : ℕ) (l : List (Thread Tags)) → Within p l → Within (suc p) (step A (suc p) b l)
step_within A p b l h k m = by (held_step A (suc p) b l k m)
  where
    by : (k.1 ≡ suc p) ⊎ Memᴰ k (held_by l) → k.1 ≤ suc p
    by (inl e) = omega arith
    by (inr n) = let q = h k n in omega arith

begin_within : (A : Net) → Within 0 (begin A)
unfolding begin
begin_within A k m =
    let c = each_cases (λ s. holds 0 s.had) (begin A) m in
    by (each_standing (Known 0 []) A _ (each_close (Known 0 []) (tagged 0) (keep_known 0 []) A _ (single (Known 0 []) start (λ j n. absurd (elim n [ ])))) c.0 c.1 k c.2)
  where
    start : Thread Tags
    start = record { on = 0; had = no_tags }

    by : (k.1 ≡ 0) ⊎ Memᴰ k [] → k.1 ≤ 0
    by (inl e) = omega arith
    by (inr n) = absurd (elim n [ ])

-- THE SITUATIONS: from the first, byte by byte
number_after : (A : Net) (p : ℕ) (l : List (Thread Tags)) (w : List ℕ) → Within p l → number (after A p l w) ≡ foldl (λ s b. next A b s) (number l) w
unfolding after
number_after A p l [] h = refl
number_after A p l (b ∷ w) h =
    number_after A (suc p) (step A (suc p) b l) w (step_within A p b l h)
    ∙ ap (λ s. foldl (λ s b. next A b s) s w) (next_right A (suc p) b l (λ k m. let q = h k m in omega arith))

pub situations : (A : Net) (w : List ℕ) → situation A w ≡ foldl (λ s b. next A b s) (situation A []) w
unfolding situation after
situations A w = number_after A 0 (begin A) w (begin_within A)

pub situation_next : (A : Net) (w : List ℕ) (b : ℕ) → situation A (w ++ (b ∷ [])) ≡ next A b (situation A w)
situation_next A w b =
    situations A (w ++ (b ∷ []))
    ∙ foldl-append (λ s b. next A b s) (situation A []) w (b ∷ [])
    ∙ ap (λ s. next A b s) (sym (situations A w))
