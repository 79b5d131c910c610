-- Situations in the work memory, byte by byte. Assumes nothing.
use mathlib.Core.Path.{◌≡◌, refl, sym, ap, ◌∙◌}
use mathlib.Core.Logic.{◌⊎◌, inl, inr}
use mathlib.Core.Bool.{Bool, true, false}
use mathlib.Core.List.{List, [], ◌∷◌, ◌++◌}
use mathlib.Core.Option.{none}
use Prim.Native.Nat.{ℕ, zero, suc, ◌+◌, ◌*◌, ◌-◌, ◌/◌, ◌%◌, ◌≤◌, ◌<◌}
use native.Mathlib.Omega.{arith}
use native.Mathlib.Numerals.{add-one}
use lib.Dec.{eqb}
use lib.ListN.{length, get_or, take, drop, set, length-set, length-take}
use lib.Seq.{get_or-set_same, get_or-set_other, get_or-take, get_or-drop, ext_get_or}
use borrow.Author.Rules.{rules}
use borrow.Rule.Slice.PartMut.{put_mid}
use Rattle.std.specs.Prelude.{Some, None}
use Rattle.std.specs.Bool.{Decides}
use Rattle.std.specs.Cmp.Lexicographic.{pointwise}
use Rattle.std.proofs.lemmas.List.{places}
use Rattle.std.proofs.lemmas.Slice.Eq.{slice_eq-Decides}
use Rattle.std.proofs.lemmas.Bool.Decides.{Decides-eqb, Decides-like, same_from_decides}
use borrow.Author.Tests.{eqb-true}
use Rattle.ground.proofs.Lists.{get_or_map}
use Rattle.paths.specs.Search.{Thread}
use Rattle.paths.specs.Registers.{Tags}
use Rattle.paths.specs.Equal.{same_situation}
use Rattle.paths.specs.Numbering.{among}
use Rattle.paths.proofs.Member.{Bool-cases}
use Rattle.paths.proofs.Builder.{situation_test}
use Rattle.explore.specs.States.{opt, tags_of, thread_of}
use Rattle.explore.specs.Lists.{position}
use Rattle.explore.specs.Slots.{row, thread_at, threads_at, slot, slots, PutAt, Stored, Placed}
use Rattle.explore.specs.declared.Entry.{Entry}
use Rattle.explore.proofs.Bits.{or_true}

pub row_is : (w l : List ℕ) (k n : ℕ) → length l ≡ n → ((i : ℕ) → i < n → get_or w (k + i) 0 ≡ get_or l i 0) → row w k n ≡ l
unfolding row
row_is w [] k zero e h = refl
row_is w [] k (suc n) e h = absurd (omega arith)
row_is w (x ∷ l) k zero e h = absurd (omega arith)
row_is w (x ∷ l) k (suc n) e h =
    let z : k ≡ k + 0 = omega arith in
    let a : get_or w k 0 ≡ x = ap (λ j. get_or w j 0) z ∙ h 0 (omega arith) in
    let b : row w (k + 1) n ≡ l = row_is w l (k + 1) n (omega arith) (λ i c. (let q : k + 1 + i ≡ k + suc i = omega arith in ap (λ j. get_or w j 0) q) ∙ h (suc i) (omega arith)) in
    λ i. a i ∷ b i

pub row_length : (w : List ℕ) (k n : ℕ) → length (row w k n) ≡ n
unfolding row
row_length w k zero = refl
row_length w k (suc n) = ap suc (row_length w (k + 1) n)

pub row_at : (w : List ℕ) (k n i : ℕ) → i < n → get_or (row w k n) i 0 ≡ get_or w (k + i) 0
unfolding row
row_at w k zero i b = absurd (omega arith)
row_at w k (suc n) zero b = let z : k ≡ k + 0 = omega arith in ap (λ j. get_or w j 0) z
row_at w k (suc n) (suc i) b = row_at w (k + 1) n i (omega arith) ∙ (let q : k + 1 + i ≡ k + suc i = omega arith in ap (λ j. get_or w j 0) q)

-- the same nine bytes at another place
pub thread_at_moved : (w l : List ℕ) (a b : ℕ) → ((i : ℕ) → i < 9 → get_or w (a + i) 0 ≡ get_or l (b + i) 0) → thread_at w a ≡ thread_at l b
unfolding thread_at
thread_at_moved w l a b h =
    let x : a + 0 ≡ a = omega arith in
    let y : b + 0 ≡ b = omega arith in
    let p : get_or w a 0 ≡ get_or l b 0 = ap (λ j. get_or w j 0) (sym x) ∙ h 0 (omega arith) ∙ ap (λ j. get_or l j 0) y in
    let q : row w (a + 1) 8 ≡ row l (b + 1) 8 = row_is w (row l (b + 1) 8) (a + 1) 8 (row_length l (b + 1) 8) (λ i c. step i c ∙ sym (row_at l (b + 1) 8 i c)) in
    λ i. record { on = p i; had = tags_of (q i) }
  where
    step : (i : ℕ) → i < 8 → get_or w (a + 1 + i) 0 ≡ get_or l (b + 1 + i) 0
    step i c =
        let x : a + 1 + i ≡ a + (1 + i) = omega arith in
        let y : b + (1 + i) ≡ b + 1 + i = omega arith in
        ap (λ j. get_or w j 0) x ∙ h (1 + i) (omega arith) ∙ ap (λ j. get_or l j 0) y

pub thread_at_is : (w : List ℕ) (at : ℕ) (e : Entry) → length e.had ≡ 8 → get_or w at 0 ≡ e.on → ((k : ℕ) → k < 8 → get_or w (at + 1 + k) 0 ≡ get_or e.had k 0) → thread_at w at ≡ thread_of e
unfolding thread_at thread_of
thread_at_is w at e n a h = let b = row_is w e.had (at + 1) 8 n h in λ i. record { on = a i; had = tags_of (b i) }

-- ---- a part that is written in one piece

module _ (w ys l : List ℕ) (a k n : ℕ) (is : ys ≡ l) (same : k ≡ n) (size : length l ≡ n) (room : a + n ≤ length w) where
  pub part_length : length (put_mid a k w ys) ≡ length w
  part_length = rw (is, same) (search (rules, places))

  pub part_at : (i : ℕ) → i < n → get_or (put_mid a k w ys) (a + i) 0 ≡ get_or l i 0
  part_at i h = rw (is, same) (search (rules, places))

  pub part_else : (i : ℕ) → (i < a) ⊎ (a + n ≤ i) → get_or (put_mid a k w ys) i 0 ≡ get_or w i 0
  part_else i (inl h) = rw (is, same) (search (rules, places))
  part_else i (inr h) = rw (is, same) (search (rules, places))

-- the entry at a place, as `put_entry` leaves it
pub put_there : (w ys : List ℕ) (at k : ℕ) (e : Entry) → ys ≡ e.had → k ≡ 8 → length e.had ≡ 8 → at + 9 ≤ length w → PutAt w (put_mid (at + 1) k (set w at e.on) ys) at e
put_there w ys at k e is same size room =
    record {
      size = part_length v ys e.had (at + 1) k 8 is same size long ∙ length-set w at e.on;
      here = thread_at_is _ at e size (part_else v ys e.had (at + 1) k 8 is same size long at (inl (omega arith)) ∙ get_or-set_same w at e.on 0 (omega arith)) (part_at v ys e.had (at + 1) k 8 is same size long);
      else = λ i b. part_else v ys e.had (at + 1) k 8 is same size long i (by i b) ∙ get_or-set_other w at i e.on 0 (off i b);
    }
  where
    v : List ℕ
    v = set w at e.on

    long : at + 1 + 8 ≤ length v
    long = omega (arith, length-set w at e.on)

    by : (i : ℕ) → (i < at) ⊎ (at + 9 ≤ i) → (i < at + 1) ⊎ (at + 1 + 8 ≤ i)
    by i (inl b) = inl (omega arith)
    by i (inr b) = inr (omega arith)

    off : (i : ℕ) → (i < at) ⊎ (at + 9 ≤ i) → i ≡ at → ⊥
    off i (inl b) z = omega arith
    off i (inr b) z = omega arith

-- and as `entry_at` reads it
pub read_there : (w ys : List ℕ) (at k : ℕ) → ys ≡ take k (drop (at + 1) w) → k ≡ 8 → at + 9 ≤ length w → thread_of (record { on = get_or w at 0; had = ys }) ≡ thread_at w at
read_there w ys at k is same room =
    sym (thread_at_is w at (record { on = get_or w at 0; had = ys }) (rw (is, same) (search (rules, places))) refl (λ i h. rw (is, same) (search (rules, places))))

-- ---- the bytes of an entry, from what it means

opt_injective : (a b : ℕ) → opt a ≡ opt b → a ≡ b
opt_injective a b = by (Bool-cases (eqb a 255)) (Bool-cases (eqb b 255))
  where
    by : (eqb a 255 ≡ true) ⊎ (eqb a 255 ≡ false) → (eqb b 255 ≡ true) ⊎ (eqb b 255 ≡ false) → opt a ≡ opt b → a ≡ b
    by (inl p) (inl q) e = eqb-true a 255 p ∙ sym (eqb-true b 255 q)
    by (inl p) (inr q) e = let z : ◌≡◌ {A = ℕ} 0 1 = cc (rw (p, q) at e) in absurd (omega arith)
    by (inr p) (inl q) e = let z : ◌≡◌ {A = ℕ} 0 1 = cc (rw (p, q) at e) in absurd (omega arith)
    by (inr p) (inr q) e = let f = rw (p, q) at e in cc

module _ (w l : List ℕ) (a b : ℕ) (e : thread_at w a ≡ thread_at l b) where
  byte_on : get_or w a 0 ≡ get_or l b 0
  unfolding thread_at
  byte_on = ap (λ s. s.on) e

  byte_had : (t : ℕ) → t < 8 → get_or w (a + 1 + t) 0 ≡ get_or l (b + 1 + t) 0
  unfolding thread_at
  byte_had t h =
      sym (row_at w (a + 1) 8 t h)
      ∙ opt_injective _ _
      (sym (get_or_map opt (row w (a + 1) 8) t 0 none (omega (arith, row_length w (a + 1) 8))) ∙ ap (λ s. get_or s.had t none) e ∙ get_or_map opt (row l (b + 1) 8) t 0 none (omega (arith, row_length l (b + 1) 8)))
      ∙ row_at l (b + 1) 8 t h

  thread_bytes : (r : ℕ) → r < 9 → get_or w (a + r) 0 ≡ get_or l (b + r) 0
  thread_bytes zero h =
      let x : a + 0 ≡ a = omega arith in
      let y : b + 0 ≡ b = omega arith in
      ap (λ j. get_or w j 0) x ∙ byte_on ∙ ap (λ j. get_or l j 0) (sym y)
  thread_bytes (suc t) h =
      let x : a + suc t ≡ a + 1 + t = omega arith in
      let y : b + suc t ≡ b + 1 + t = omega arith in
      ap (λ j. get_or w j 0) x ∙ byte_had t (omega arith) ∙ ap (λ j. get_or l j 0) (sym y)

-- ---- lists of threads

pub threads_at_length : (w : List ℕ) (a n : ℕ) → length (threads_at w a n) ≡ n
unfolding threads_at
threads_at_length w a zero = refl
threads_at_length w a (suc n) = ap suc (threads_at_length w (a + 9) n)

pub no_threads : (w : List ℕ) (a : ℕ) → threads_at w a 0 ≡ []
unfolding threads_at
no_threads w a = refl

pub threads_at_at : (w : List ℕ) (a n i : ℕ) (d : Thread Tags) → i < n → get_or (threads_at w a n) i d ≡ thread_at w (a + 9 * i)
unfolding threads_at
threads_at_at w a zero i d b = absurd (omega arith)
threads_at_at w a (suc n) zero d b = let z : a ≡ a + 9 * 0 = omega arith in ap (thread_at w) z
threads_at_at w a (suc n) (suc i) d b = threads_at_at w (a + 9) n i d (omega arith) ∙ (let z : a + 9 + 9 * i ≡ a + 9 * suc i = omega arith in ap (thread_at w) z)

pub threads_snoc : (w : List ℕ) (a n : ℕ) → threads_at w a (n + 1) ≡ threads_at w a n ++ (thread_at w (a + 9 * n) ∷ [])
unfolding threads_at
threads_snoc w a n = ap (threads_at w a) (add-one n) ∙ by a n
  where
    by : (a n : ℕ) → threads_at w a (suc n) ≡ threads_at w a n ++ (thread_at w (a + 9 * n) ∷ [])
    by a zero = let z : a ≡ a + 9 * 0 = omega arith in ap (λ v. thread_at w v ∷ []) z
    by a (suc n) = ap (λ v. thread_at w a ∷ v) (by (a + 9) n ∙ (let z : a + 9 + 9 * n ≡ a + 9 * suc n = omega arith in ap (λ v. threads_at w (a + 9) n ++ (thread_at w v ∷ [])) z))

pub threads_at_moved : (w l : List ℕ) (a b n : ℕ) → ((i : ℕ) → i < 9 * n → get_or w (a + i) 0 ≡ get_or l (b + i) 0) → threads_at w a n ≡ threads_at l b n
unfolding threads_at
threads_at_moved w l a b zero h = refl
threads_at_moved w l a b (suc n) h =
    let p = thread_at_moved w l a b (λ i c. h i (omega arith)) in
    let q = threads_at_moved w l (a + 9) (b + 9) n step in
    λ i. p i ∷ q i
  where
    step : (i : ℕ) → i < 9 * n → get_or w (a + 9 + i) 0 ≡ get_or l (b + 9 + i) 0
    step i c =
        let x : a + 9 + i ≡ a + (9 + i) = omega arith in
        let y : b + (9 + i) ≡ b + 9 + i = omega arith in
        ap (λ j. get_or w j 0) x ∙ h (9 + i) (omega arith) ∙ ap (λ j. get_or l j 0) y

pub threads_at_same : (w w' : List ℕ) (a n : ℕ) → ((k : ℕ) → a ≤ k → k < a + 9 * n → get_or w' k 0 ≡ get_or w k 0) → threads_at w' a n ≡ threads_at w a n
threads_at_same w w' a n h = threads_at_moved w' w a a n (λ i c. h (a + i) (omega arith) (omega arith))

pub take_threads : (w : List ℕ) (a n i : ℕ) → i ≤ n → take i (threads_at w a n) ≡ threads_at w a i
unfolding threads_at
take_threads w a n zero b = refl
take_threads w a zero (suc i) b = absurd (omega arith)
take_threads w a (suc n) (suc i) b = ap (λ v. thread_at w a ∷ v) (take_threads w (a + 9) n i (omega arith))

-- the list with an entry after it
pub listed : (w w' : List ℕ) (n : ℕ) (e : Entry) → PutAt w w' (2 + 9 * n) e → threads_at w' 2 (n + 1) ≡ threads_at w 2 n ++ (thread_of e ∷ [])
listed w w' n e p = threads_snoc w' 2 n ∙ (λ i. threads_at_same w w' 2 n (λ k u v. p.else k (inl v)) i ++ (p.here i ∷ []))

-- a list becomes a slot by its count
pub slot_first : (w : List ℕ) (n : ℕ) → length w ≡ 578 → slot (set w 0 n) 0 ≡ threads_at w 2 n
unfolding slot
slot_first w n h =
    ap (threads_at (set w 0 n) 2) (get_or-set_same w 0 n 0 (omega arith))
    ∙ threads_at_same w (set w 0 n) 2 n (λ k u v. get_or-set_other w 0 k n 0 (λ z. omega arith))

nobody : Thread Tags
nobody = record { on = 0; had = [] }

-- the same threads, the same bytes
module _ (w l : List ℕ) (a b n : ℕ) where
  threads_bytes : threads_at w a n ≡ threads_at l b n → (k : ℕ) → k < 9 * n → get_or w (a + k) 0 ≡ get_or l (b + k) 0
  threads_bytes e k h =
      let i : k / 9 < n = omega arith in
      let x : a + 9 * (k / 9) + k % 9 ≡ a + k = omega arith in
      let y : b + 9 * (k / 9) + k % 9 ≡ b + k = omega arith in
      let at : thread_at w (a + 9 * (k / 9)) ≡ thread_at l (b + 9 * (k / 9)) =
      sym (threads_at_at w a n (k / 9) nobody i) ∙ ap (λ v. get_or v (k / 9) nobody) e ∙ threads_at_at l b n (k / 9) nobody i in
      ap (λ j. get_or w j 0) (sym x) ∙ thread_bytes w l (a + 9 * (k / 9)) (b + 9 * (k / 9)) at (k % 9) (omega arith) ∙ ap (λ j. get_or l j 0) y

  module _ (in_w : a + 9 * n ≤ length w) (in_l : b + 9 * n ≤ length l) where
    pub threads_Decides : (r : Bool) → r ≡ pointwise eqb (take (9 * n) (drop a w)) (take (9 * n) (drop b l)) → Decides r (threads_at w a n ≡ threads_at l b n)
    threads_Decides r e =
        Decides-like r
        (λ q. threads_at_moved w l a b n (λ i h. sym (taken w a i h) ∙ ap (λ v. get_or v i 0) q ∙ taken l b i h))
        (λ q. ext_get_or 0 _ _ (search (rules, places)) (λ i h. (let g : i < 9 * n = omega (arith, length-take (9 * n) (drop a w)) in taken w a i g ∙ threads_bytes q i g ∙ sym (taken l b i g))))
        (slice_eq-Decides Decides-eqb _ _ r e)
      where
        taken : (v : List ℕ) (c i : ℕ) → i < 9 * n → get_or (take (9 * n) (drop c v)) i 0 ≡ get_or v (c + i) 0
        taken v c i h = get_or-take (9 * n) (drop c v) i 0 h ∙ get_or-drop c v i 0

-- ---- `same`

module _ (l w : List ℕ) (j : ℕ) where
  pub other_count : (get_or w (578 * j) 0 ≡ get_or l 0 0 → ⊥) → false ≡ same_situation (slot l 0) (slot w j)
  unfolding slot
  other_count h = by (Bool-cases (same_situation (slot l 0) (slot w j)))
    where
      by : (same_situation (slot l 0) (slot w j) ≡ true) ⊎ (same_situation (slot l 0) (slot w j) ≡ false) → false ≡ same_situation (slot l 0) (slot w j)
      by (inl e) = absurd (h (sym (threads_at_length w (578 * j + 2) (get_or w (578 * j) 0)) ∙ ap length (sym ((situation_test (slot l 0) (slot w j)).0 e)) ∙ threads_at_length l 2 (get_or l 0 0)))
      by (inr e) = sym e

  -- as many entries, and the same bytes
  pub same_bytes : (n : ℕ) → n ≡ get_or l 0 0 → get_or w (578 * j) 0 ≡ get_or l 0 0 → get_or l 0 0 ≤ 64 → length l ≡ 578 → 578 * j + 578 ≤ length w
      → pointwise eqb (take (578 * j + (2 + 9 * n) - (578 * j + 2)) (drop (578 * j + 2) w)) (take (2 + 9 * n - 2) (drop 2 l)) ≡ same_situation (slot l 0) (slot w j)
  unfolding slot
  same_bytes n is count few size room =
      let a : 578 * j + (2 + 9 * n) - (578 * j + 2) ≡ 9 * n = omega arith in
      let b : 2 + 9 * n - 2 ≡ 9 * n = omega arith in
      let there : threads_at w (578 * j + 2) n ≡ slot w j = ap (threads_at w (578 * j + 2)) (is ∙ sym count) in
      let here : threads_at l 2 n ≡ slot l 0 = ap (threads_at l 2) is in
      rw (a, b)
      (same_from_decides _ (same_situation (slot l 0) (slot w j))
      (Decides-like _ (λ t. sym here ∙ sym t ∙ there) (λ t. there ∙ sym t ∙ sym here) (threads_Decides w l (578 * j + 2) 2 n (omega arith) (omega arith) _ refl))
      (situation_test (slot l 0) (slot w j)))

-- ---- `store`, `load`

pub slot_moved : (w l : List ℕ) (j : ℕ) → get_or l 0 0 ≤ 64 → ((k : ℕ) → k < 578 → get_or w (578 * j + k) 0 ≡ get_or l k 0) → (get_or w (578 * j) 0 ≡ get_or l 0 0) × (slot w j ≡ slot l 0)
unfolding slot
slot_moved w l j few h =
    let x : 578 * j + 0 ≡ 578 * j = omega arith in
    let n : get_or w (578 * j) 0 ≡ get_or l 0 0 = ap (λ v. get_or w v 0) (sym x) ∙ h 0 (omega arith) in
    (n, ap (threads_at w (578 * j + 2)) n ∙ threads_at_moved w l (578 * j + 2) 2 (get_or l 0 0) (λ i c. (let y : 578 * j + 2 + i ≡ 578 * j + (2 + i) = omega arith in ap (λ v. get_or w v 0) y) ∙ h (2 + i) (omega arith)))

pub stored : (w ys l : List ℕ) (j k : ℕ) → ys ≡ l → k ≡ 578 → length l ≡ 578 → 578 * j + 578 ≤ length w → get_or l 0 0 ≤ 64 → Stored w (put_mid (578 * j) k w ys) j (slot l 0) (get_or l 1 0)
stored w ys l j k is same size room few =
    let m = slot_moved (put_mid (578 * j) k w ys) l j few (part_at w ys l (578 * j) k 578 is same size room) in
    record {
      size = part_length w ys l (578 * j) k 578 is same size room;
      few = omega (arith, m.0);
      here = m.1;
      count = part_at w ys l (578 * j) k 578 is same size room 1 (omega arith);
      else = part_else w ys l (578 * j) k 578 is same size room;
    }

-- ---- `place`

among_none : (l : List (Thread Tags)) (w : List ℕ) (j n : ℕ) → ((k : ℕ) → k < n → same_situation l (slot w (j + k)) ≡ false) → among same_situation l (slots w j n) ≡ false
unfolding slots
among_none l w j zero h = refl
among_none l w j (suc n) h =
    let z : j + 0 ≡ j = omega arith in
    let a : same_situation l (slot w j) ≡ false = ap (λ v. same_situation l (slot w v)) (sym z) ∙ h 0 (omega arith) in
    rw (a, among_none l w (j + 1) n (λ k b. (let q : j + 1 + k ≡ j + suc k = omega arith in ap (λ v. same_situation l (slot w v)) q) ∙ h (suc k) (omega arith)))

among_one : (l : List (Thread Tags)) (w : List ℕ) (j n k : ℕ) → k < n → same_situation l (slot w (j + k)) ≡ true → among same_situation l (slots w j n) ≡ true
unfolding slots
among_one l w j zero k b h = absurd (omega arith)
among_one l w j (suc n) zero b h =
    let z : j + 0 ≡ j = omega arith in
    let a : same_situation l (slot w j) ≡ true = ap (λ v. same_situation l (slot w v)) (sym z) ∙ h in
    rw a
among_one l w j (suc n) (suc k) b h =
    let q : j + 1 + k ≡ j + suc k = omega arith in
    rw (among_one l w (j + 1) n k (omega arith) (ap (λ v. same_situation l (slot w v)) q ∙ h)) (or_true (same_situation l (slot w j)))

-- the first slot of n from j on that holds l
position_at : (w : List ℕ) (l : List (Thread Tags)) (n j i : ℕ) → i < n → ((k : ℕ) → k < i → same_situation l (slot w (j + k)) ≡ false) → same_situation l (slot w (j + i)) ≡ true → position same_situation l (slots w j n) ≡ i
unfolding slots
position_at w l zero j i b h e = absurd (omega arith)
position_at w l (suc n) j zero b h e = let z : j + 0 ≡ j = omega arith in rw (ap (λ v. same_situation l (slot w v)) (sym z) ∙ e)
position_at w l (suc n) j (suc i) b h e =
    let z : j + 0 ≡ j = omega arith in
    let y : (k : ℕ) → j + 1 + k ≡ j + suc k = λ k. omega arith in
    rw (ap (λ v. same_situation l (slot w v)) (sym z) ∙ h 0 (omega arith))
    (ap suc (position_at w l n (j + 1) i (omega arith) (λ k c. ap (λ v. same_situation l (slot w v)) (y k) ∙ h (suc k) (omega arith)) (ap (λ v. same_situation l (slot w v)) (y i) ∙ e)))

none_add : (j : ℕ) → 0 + j ≡ j
none_add j = omega arith

pub placed_at : (w : List ℕ) (count : ℕ) (l : List (Thread Tags)) (j : ℕ) → j < count → ((k : ℕ) → k < j → same_situation l (slot w k) ≡ false) → same_situation l (slot w j) ≡ true → Placed w count l (Some j)
placed_at w count l j b n h =
    record {
      within = b;
      found = (among_one l w 0 count j b (ap (λ v. same_situation l (slot w v)) (none_add j) ∙ h), h);
      first = sym (position_at w l count 0 j b (λ k c. ap (λ v. same_situation l (slot w v)) (none_add k) ∙ n k c) (ap (λ v. same_situation l (slot w v)) (none_add j) ∙ h));
    }

pub placed_none : (w : List ℕ) (count : ℕ) (l : List (Thread Tags)) → ((k : ℕ) → k < count → same_situation l (slot w k) ≡ false) → Placed w count l None
placed_none w count l h = among_none l w 0 count (λ k c. ap (λ v. same_situation l (slot w v)) (none_add k) ∙ h k c)
