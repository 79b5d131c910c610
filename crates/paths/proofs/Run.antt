-- A run over registers shows, after any input, the places of the builder's list. Assumes nothing.
use mathlib.Core.Path.{◌≡◌, refl, sym, ap, ◌∙◌}
use mathlib.Core.Logic.{◌⊎◌, inl, inr}
use mathlib.Core.Bool.{true, false}
use mathlib.Core.List.Memᴰ
use mathlib.Core.List.{List, [], ◌∷◌, ◌++◌, map, foldl, Memᴰ}
use Prim.Native.Nat.{ℕ, zero, suc, ◌+◌, ◌≤◌, ◌<◌}
use native.Mathlib.Nat.{lt_irrefl, le_of_suc-le-suc, not-suc-le-zero}
use native.Mathlib.Omega.{arith}
use lib.Dec.{ltb, ltb→lt, lt→ltb}
use lib.ListN.{length, get_or, length-map}
use Rattle.net.specs.Rec.{Net}
use Rattle.paths.specs.Search.{Thread}
use Rattle.paths.specs.Registers.{Tags, Key, held_by, index, registers, rename, number, step, begin, after, situation, next, origins, fetch, State, feed, run, ready, shown}
use Rattle.paths.proofs.Member.{Bool-cases, T_of, of_T}
use Rattle.paths.proofs.Numbers.{registers_held, rename_rename, rename_same, rename_self, register_at}
use Rattle.paths.specs.Situation.{first_end, answer}
use Rattle.paths.proofs.Same.{lift_end}
use Rattle.paths.proofs.Bridge.{at_place, answer_after}
use Rattle.paths.proofs.Next.{held_step, step_rename, number_below, as_many_registers, situations}

get_or_map_lt : {A B : Type 0} (f : A → B) (l : List A) (i : ℕ) (d : A) (e : B) → i < length l → get_or (map f l) i e ≡ f (get_or l i d)
get_or_map_lt f [] i d e h = absurd (not-suc-le-zero h)
get_or_map_lt f (x ∷ l) zero d e h = refl
get_or_map_lt f (x ∷ l) (suc i) d e h = get_or_map_lt f l i d e (le_of_suc-le-suc h)

-- the numbers, and the place of each, give the list back
pub decode : (l : List (Thread Tags)) → rename (λ t i. get_or (map (λ k. k.1) (registers l)) i 0) (number l) ≡ l
unfolding number
decode l =
    rename_rename (λ t i. get_or (map (λ k. k.1) (registers l)) i 0) (λ t p. index (t, p) (registers l)) l
    ∙ rename_same (λ t p. get_or (map (λ k. k.1) (registers l)) (index (t, p) (registers l)) 0) (λ t p. p) l
    (λ k m. let r = register_at l k m in get_or_map_lt (λ k. k.1) (registers l) (index k (registers l)) (0, 0) 0 r.0 ∙ ap (λ v. v.1) r.1)
    ∙ rename_self l

fetch_new : (now count : ℕ) (bank : List ℕ) → fetch now count bank count ≡ now
fetch_new now count bank = by (Bool-cases (ltb count count))
  where
    by : (ltb count count ≡ true) ⊎ (ltb count count ≡ false) → fetch now count bank count ≡ now
    by (inl e) = absurd (lt_irrefl count (ltb→lt count count (T_of e)))
    by (inr e) = rw e

fetch_old : (now count : ℕ) (bank : List ℕ) (i : ℕ) → i < count → fetch now count bank i ≡ get_or bank i 0
fetch_old now count bank i h = rw (of_T (ltb i count) (lt→ltb i count h))

-- the registers of s are below their count
abbrev pub Sound : State → Type 0
Sound s = (k : Key) → Memᴰ k (held_by s.sit) → k.1 < length (registers s.sit)

pub sound_number : (l : List (Thread Tags)) (k : Key) → Memᴰ k (held_by (number l)) → k.1 < length (registers (number l))
sound_number l k m = rw (as_many_registers l) (number_below l k m)

pub feed_shown : (A : Net) (now b : ℕ) (s : State) → Sound s → shown (feed A now b s) ≡ step A now b (shown s)
unfolding feed next origins
feed_shown A now b s h =
    rename_same (λ t r. get_or (map f os) r 0) (λ t r. f (get_or os r 0)) (number X)
    (λ k m. get_or_map_lt f os k.1 0 0 (rw (length-map (registers X) (λ k. k.1)) (number_below X k m)))
    ∙ sym (rename_rename (λ t. f) (λ t r. get_or os r 0) (number X))
    ∙ ap (λ l. rename (λ t. f) l) (decode X)
    ∙ sym (step_rename (λ t. f) R now (λ t. fetch_new now R s.bank) A b s.sit)
    ∙ ap (λ l. step A now b l) (rename_same (λ t. f) (λ t i. get_or s.bank i 0) s.sit (λ k m. fetch_old now R s.bank k.1 (h k m)))
  where
    R : ℕ
    R = length (registers s.sit)

    X : List (Thread Tags)
    X = step A R b s.sit

    os : List ℕ
    os = map (λ k. k.1) (registers X)

    f : ℕ → ℕ
    f = fetch now R s.bank

feed_sound : (A : Net) (now b : ℕ) (s : State) → Sound (feed A now b s)
unfolding feed next
feed_sound A now b s = sound_number (step A (length (registers s.sit)) b s.sit)

run_shown : (A : Net) (p : ℕ) (s : State) (w : List ℕ) → Sound s → shown (run A p s w) ≡ after A p (shown s) w
unfolding run after
run_shown A p s [] h = refl
run_shown A p s (b ∷ w) h =
    run_shown A (suc p) (feed A (suc p) b s) w (feed_sound A (suc p) b s)
    ∙ ap (λ l. after A (suc p) l w) (feed_shown A (suc p) b s h)

-- THE RUN: what it shows are the places that the builder's list holds
pub run_right : (A : Net) (w : List ℕ) → shown (run A 0 (ready A) w) ≡ after A 0 (begin A) w
unfolding ready
run_right A w = run_shown A 0 (ready A) w (sound_number (begin A)) ∙ ap (λ l. after A 0 l w) (decode (begin A))

run_sit : (A : Net) (p : ℕ) (s : State) (w : List ℕ) → (run A p s w).sit ≡ foldl (λ s b. next A b s) s.sit w
unfolding run feed
run_sit A p s [] = refl
run_sit A p s (b ∷ w) = run_sit A (suc p) (feed A (suc p) b s) w

-- and it goes through the situations of document 01
pub run_situation : (A : Net) (w : List ℕ) → (run A 0 (ready A) w).sit ≡ situation A w
unfolding ready situation after
run_situation A w = run_sit A 0 (ready A) w ∙ sym (situations A w)

-- THE WHOLE: at the end the first END of the situation, with the places that its registers hold, is the answer
pub run_answer : (A : Net) (w : List ℕ) → answer A w ≡ lift_end (at_place (length w)) (first_end A (shown (run A 0 (ready A) w)))
run_answer A w = answer_after A w ∙ ap (λ l. lift_end (at_place (length w)) (first_end A l)) (sym (run_right A w))

-- ---- one byte more; register numbers are below their count, and the bank has that many

pub run_snoc : (A : Net) (p : ℕ) (s : State) (w : List ℕ) (b : ℕ) → run A p s (w ++ (b ∷ [])) ≡ feed A (suc (p + length w)) b (run A p s w)
unfolding run
run_snoc A p s [] b = let e : p ≡ p + 0 = omega arith in ap (λ q. feed A (suc q) b s) e
run_snoc A p s (c ∷ w) b = let e : suc p + length w ≡ p + suc (length w) = omega arith in run_snoc A (suc p) (feed A (suc p) c s) w b ∙ ap (λ q. feed A (suc q) b (run A (suc p) (feed A (suc p) c s) w)) e

-- a state whose bank fits its situation
record Fitting (s : State) : Type 0 where
  sound : Sound s
  full : length s.bank ≡ length (registers s.sit)

feed_full : (A : Net) (now b : ℕ) (s : State) → length (feed A now b s).bank ≡ length (registers (feed A now b s).sit)
unfolding feed next origins
feed_full A now b s =
    length-map (map (λ k. k.1) (registers X)) (fetch now (length (registers s.sit)) s.bank)
    ∙ length-map (registers X) (λ k. k.1)
    ∙ sym (as_many_registers X)
  where
    X : List (Thread Tags)
    X = step A (length (registers s.sit)) b s.sit

feed_fitting : (A : Net) (now b : ℕ) (s : State) → Fitting (feed A now b s)
feed_fitting A now b s = record { sound = feed_sound A now b s; full = feed_full A now b s }

ready_fitting : (A : Net) → Fitting (ready A)
unfolding ready
ready_fitting A = record { sound = sound_number (begin A); full = length-map (registers (begin A)) (λ k. k.1) ∙ sym (as_many_registers (begin A)) }

run_fitting : (A : Net) (p : ℕ) (s : State) (w : List ℕ) → Fitting s → Fitting (run A p s w)
unfolding run
run_fitting A p s [] h = h
run_fitting A p s (b ∷ w) h = run_fitting A (suc p) (feed A (suc p) b s) w (feed_fitting A (suc p) b s)

pub run_in_count : (A : Net) (w : List ℕ) → Sound (run A 0 (ready A) w)
run_in_count A w = (run_fitting A 0 (ready A) w (ready_fitting A)).sound

pub run_bank : (A : Net) (w : List ℕ) → length (run A 0 (ready A) w).bank ≡ length (registers (situation A w))
run_bank A w = (run_fitting A 0 (ready A) w (ready_fitting A)).full ∙ ap (λ s. length (registers s)) (run_situation A w)

-- ---- where each register of the next situation comes from: an old register, or the byte's place

pub situation_sound : (A : Net) (w : List ℕ) (k : Key) → Memᴰ k (held_by (situation A w)) → k.1 < length (registers (situation A w))
unfolding situation
situation_sound A w = sound_number (after A 0 (begin A) w)

origin_cases : (R : ℕ) (k : Key) (l : List (Thread Tags)) → ((k : Key) → Memᴰ k (held_by l) → k.1 < R) → (k.1 ≡ R) ⊎ Memᴰ k (held_by l) → k.1 ≤ R
origin_cases R k l h (inl e) = omega arith
origin_cases R k l h (inr m) = omega (arith, h k m)

pub origins_old_or_now : (A : Net) (b : ℕ) (l : List (Thread Tags)) → ((k : Key) → Memᴰ k (held_by l) → k.1 < length (registers l))
    → (o : ℕ) → Memᴰ o (origins A b l) → o ≤ length (registers l)
unfolding origins
origins_old_or_now A b l h o m =
    let c = Memᴰ.of_map (λ k. k.1) (registers (step A (length (registers l)) b l)) m in
    let q = origin_cases (length (registers l)) c.0 l h (held_step A (length (registers l)) b l c.0 (registers_held (step A (length (registers l)) b l) c.1)) in
    omega (arith, c.2)

pub origins_count : (A : Net) (b : ℕ) (l : List (Thread Tags)) → length (origins A b l) ≡ length (registers (next A b l))
unfolding origins next
origins_count A b l = length-map (registers (step A (length (registers l)) b l)) (λ k. k.1) ∙ sym (as_many_registers (step A (length (registers l)) b l))
