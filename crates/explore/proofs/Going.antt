-- The ways through `visit`. Assumes nothing.
use mathlib.Core.Path.{◌≡◌, refl, sym, ap, ◌∙◌, subst}
use mathlib.Core.Logic.{◌⊎◌, inl, inr}
use mathlib.Core.Bool.{Bool, true, false}
use mathlib.Core.List.{List, [], ◌∷◌, ◌++◌, foldl}
use Prim.Native.Nat.{ℕ, zero, suc, ◌+◌, ◌*◌, ◌-◌, ◌<◌}
use native.Mathlib.Omega.{arith}
use lib.Dec.{eqb}
use lib.ListN.{length, set, replicate}
use borrow.Author.Tests.{eqb-true, eqb-false}
use Rattle.ground.proofs.Lists.{map_set}
use Rattle.net.specs.Rec.{Rec, range, mask, fork, tag, end, Net, rec}
use Rattle.paths.specs.Search.{has, Thread}
use Rattle.paths.specs.Situation.{quiet, on_quiet}
use Rattle.paths.specs.Registers.{Tags, tagged, stands}
use Rattle.paths.specs.Marks.{Marked, marked_with, marking}
use Rattle.paths.proofs.Member.{Bool-cases}
use Rattle.explore.specs.Onward.{onward_of}
use Rattle.explore.specs.States.{Below, opt, tags_of, thread_of, marked, count_of, MarkedBy}
use Rattle.explore.specs.Slots.{threads_at, PutAt}
use Rattle.explore.specs.Visit.{Ready, Means}
use Rattle.explore.specs.declared.Entry.{Entry}
use Rattle.explore.specs.declared.Onward.TheVariants.{Stay, Both, Store}
use Rattle.net.specs.Items.{net_at}
use Rattle.explore.specs.Items.{Formed}
use Rattle.explore.proofs.Reading.{net_inside}
use Rattle.explore.proofs.Bits.{opt_some, has_last, has_else, ones_le, none_marked}
use Rattle.explore.proofs.Memory.{listed, no_threads}

-- a way tells the record

pub way_both : (c : Rec) {x y : ℕ} → Both x y ≡ onward_of c → c ≡ fork x y
way_both (range lo hi n) e = absurd (let z : ◌≡◌ {A = ℕ} 0 1 = cc in omega arith)
way_both (mask bits n) e = absurd (let z : ◌≡◌ {A = ℕ} 0 1 = cc in omega arith)
way_both (fork a b) e = cc
way_both (tag t n) e = absurd (let z : ◌≡◌ {A = ℕ} 0 1 = cc in omega arith)
way_both (end a) e = absurd (let z : ◌≡◌ {A = ℕ} 0 1 = cc in omega arith)

pub way_store : (c : Rec) {x y : ℕ} → Store x y ≡ onward_of c → c ≡ tag x y
way_store (range lo hi n) e = absurd (let z : ◌≡◌ {A = ℕ} 0 1 = cc in omega arith)
way_store (mask bits n) e = absurd (let z : ◌≡◌ {A = ℕ} 0 1 = cc in omega arith)
way_store (fork a b) e = absurd (let z : ◌≡◌ {A = ℕ} 0 1 = cc in omega arith)
way_store (tag t n) e = cc
way_store (end a) e = absurd (let z : ◌≡◌ {A = ℕ} 0 1 = cc in omega arith)

pub way_stay : (c : Rec) → Stay ≡ onward_of c → (quiet c ≡ []) × (stands c ≡ true)
way_stay (range lo hi n) e = (refl, refl)
way_stay (mask bits n) e = (refl, refl)
way_stay (fork a b) e = absurd (let z : ◌≡◌ {A = ℕ} 0 1 = cc in omega arith)
way_stay (tag t n) e = absurd (let z : ◌≡◌ {A = ℕ} 0 1 = cc in omega arith)
way_stay (end a) e = (refl, refl)

module _ (k : ℕ) (A : Net) where
  module _ (s : Thread Tags) (m : Marked Tags) where
    pub marking_none : {n : ℕ} → n ≡ 0 → marking (tagged k) A n m s ≡ m
    unfolding marking
    marking_none e = rw e

    pub marking_known : (n : ℕ) → (n ≡ 0 → ⊥) → has s.on m.marks ≡ true → marking (tagged k) A n m s ≡ m
    unfolding marking
    marking_known zero h e = absurd (h refl)
    marking_known (suc n) h e = rw e

    pub marking_new : (n : ℕ) → (n ≡ 0 → ⊥) → has s.on m.marks ≡ false
        → marking (tagged k) A n m s ≡ foldl (marking (tagged k) A (n - 1)) (marked_with (tagged k) A m s) (on_quiet (tagged k) A s)
    unfolding marking
    marking_new zero h e = absurd (h refl)
    marking_new (suc n) h e = let p : n ≡ suc n - 1 = omega arith in rw e (ap (λ j. foldl (marking (tagged k) A j) (marked_with (tagged k) A m s) (on_quiet (tagged k) A s)) p)

  module _ (M : List Bool) (w : List ℕ) (c : ℕ) (e : Entry) (M' : List Bool) (by : MarkedBy M e.on M') where
    marks_noted : (m : Marked Tags) → Means M w c m → (r : ℕ) → r < 64 → has r (m.marks ++ (e.on ∷ [])) ≡ marked M' r
    marks_noted m h r b = go (Bool-cases (eqb r e.on))
      where
        go : (eqb r e.on ≡ true) ⊎ (eqb r e.on ≡ false) → has r (m.marks ++ (e.on ∷ [])) ≡ marked M' r
        go (inl q) = rw (eqb-true r e.on q) (has_last m.marks e.on ∙ sym by.here)
        go (inr q) = has_else m.marks r e.on (eqb-false r e.on q) ∙ h.marks r b ∙ sym (by.else r (eqb-false r e.on q))

    noted_means : stands (rec A e.on) ≡ false → (m : Marked Tags) → Means M w c m → Means M' w c (marked_with (tagged k) A m (thread_of e))
    unfolding thread_of
    noted_means q m h = record { marks = marks_noted m h; list = rw q h.list }

    put_means : stands (rec A e.on) ≡ true → (w' : List ℕ) → PutAt w w' (2 + 9 * c) e → (m : Marked Tags) → Means M w c m → Means M' w' (c + 1) (marked_with (tagged k) A m (thread_of e))
    unfolding thread_of
    put_means q w' u m h = record { marks = marks_noted m h; list = rw q (listed w w' c e u ∙ ap (λ v. v ++ (thread_of e ∷ [])) h.list) }

  on_fork : (e : Entry) {x y : ℕ} → rec A e.on ≡ fork x y → (a b : Entry) → a.on ≡ x → a.had ≡ e.had → b.on ≡ y → b.had ≡ e.had
      → on_quiet (tagged k) A (thread_of e) ≡ thread_of a ∷ thread_of b ∷ []
  unfolding on_quiet thread_of
  on_fork e q a b p1 p2 p3 p4 = rw (q, p1, p2, p3, p4)

  on_tag : (e : Entry) {t x : ℕ} → k < 255 → rec A e.on ≡ tag t x → (a : Entry) → a.on ≡ x → a.had ≡ set e.had t k
      → on_quiet (tagged k) A (thread_of e) ≡ thread_of a ∷ []
  unfolding on_quiet thread_of
  on_tag e {t} {x} b q a p1 p2 = rw (q, p1, p2) (ap (λ v. record { on = x; had = v } ∷ []) (sym (map_set opt e.had t k ∙ ap (λ v. set (tags_of e.had) t v) (opt_some k (λ e. omega arith)))))

  on_none : (e : Entry) → quiet (rec A e.on) ≡ [] → on_quiet (tagged k) A (thread_of e) ≡ []
  unfolding on_quiet thread_of
  on_none e q = rw q

  -- the ways through `visit`, where it finds a new record
  module _ (n : ℕ) (pos : n ≡ 0 → ⊥) (M : List Bool) (w : List ℕ) (c : ℕ) (e : Entry) (M' : List Bool) (in64 : e.on < 64) (new : marked M e.on ≡ false) (by : MarkedBy M e.on M') where
    expand : (m : Marked Tags) → Means M w c m
        → marking (tagged k) A n m (thread_of e) ≡ foldl (marking (tagged k) A (n - 1)) (marked_with (tagged k) A m (thread_of e)) (on_quiet (tagged k) A (thread_of e))
    unfolding thread_of
    expand m h = marking_new (thread_of e) m n pos (h.marks e.on in64 ∙ new)

    pub went_both : {x y : ℕ} → Both x y ≡ onward_of (rec A e.on) → (a b : Entry) → (a.on ≡ x) × (a.had ≡ e.had) → (b.on ≡ y) × (b.had ≡ e.had)
        → (M1 : List Bool) (w1 : List ℕ) (c1 : ℕ) (M2 : List Bool) (w2 : List ℕ) (c2 : ℕ)
        → ((m : Marked Tags) → Means M' w c m → Means M1 w1 c1 (marking (tagged k) A (n - 1) m (thread_of a)))
        → ((m : Marked Tags) → Means M1 w1 c1 m → Means M2 w2 c2 (marking (tagged k) A (n - 1) m (thread_of b)))
        → (m : Marked Tags) → Means M w c m → Means M2 w2 c2 (marking (tagged k) A n m (thread_of e))
    went_both o a b p r M1 w1 c1 M2 w2 c2 ih1 ih2 m h =
        let q = way_both (rec A e.on) o in
        subst (λ v. Means M2 w2 c2 v) (sym (expand m h ∙ ap (λ l. foldl (marking (tagged k) A (n - 1)) (marked_with (tagged k) A m (thread_of e)) l) (on_fork e q a b p.0 p.1 r.0 r.1)))
        (ih2 _ (ih1 _ (noted_means M w c e M' by (rw q refl) m h)))

    pub went_store : {t x : ℕ} → k < 255 → Store t x ≡ onward_of (rec A e.on) → (a : Entry) → a.on ≡ x → a.had ≡ set e.had t k
        → (M1 : List Bool) (w1 : List ℕ) (c1 : ℕ)
        → ((m : Marked Tags) → Means M' w c m → Means M1 w1 c1 (marking (tagged k) A (n - 1) m (thread_of a)))
        → (m : Marked Tags) → Means M w c m → Means M1 w1 c1 (marking (tagged k) A n m (thread_of e))
    went_store b o a p1 p2 M1 w1 c1 ih m h =
        let q = way_store (rec A e.on) o in
        subst (λ v. Means M1 w1 c1 v) (sym (expand m h ∙ ap (λ l. foldl (marking (tagged k) A (n - 1)) (marked_with (tagged k) A m (thread_of e)) l) (on_tag e b q a p1 p2)))
        (ih _ (noted_means M w c e M' by (rw q refl) m h))

    pub stayed : Stay ≡ onward_of (rec A e.on) → (w' : List ℕ) → PutAt w w' (2 + 9 * c) e
        → (m : Marked Tags) → Means M w c m → Means M' w' (c + 1) (marking (tagged k) A n m (thread_of e))
    stayed q w' u m h =
        let z = way_stay (rec A e.on) q in
        subst (λ v. Means M' w' (c + 1) v) (sym (expand m h ∙ ap (λ l. foldl (marking (tagged k) A (n - 1)) (marked_with (tagged k) A m (thread_of e)) l) (on_none e z.0)))
        (put_means M w c e M' by z.1 w' u m h)

  module _ (n : ℕ) (M : List Bool) (w : List ℕ) (c : ℕ) (e : Entry) (m : Marked Tags) (h : Means M w c m) where
    pub went_none : n ≡ 0 → Means M w c (marking (tagged k) A n m (thread_of e))
    went_none z = subst (λ v. Means M w c v) (sym (marking_none (thread_of e) m z)) h

    pub went_known : (n ≡ 0 → ⊥) → e.on < 64 → marked M e.on ≡ true → Means M w c (marking (tagged k) A n m (thread_of e))
    unfolding thread_of
    went_known z b known = subst (λ v. Means M w c v) (sym (marking_known (thread_of e) m n z (h.marks e.on b ∙ known))) h

pub below_append : (N : ℕ) (l k : List (Thread Tags)) → Below N l → Below N k → Below N (l ++ k)
below_append N [] k a b = b
below_append N (s ∷ l) k a b = (a.0, below_append N l k a.1 b)

-- a mark is set, and the list stays; then e comes after it
module _ (N : ℕ) (M : List Bool) (w : List ℕ) (n r : ℕ) (M' : List Bool) (h : Ready N M w n) (new : marked M r ≡ false) (by : MarkedBy M r M') where
  pub room_after : n < 64
  room_after = omega (arith, by.more new, by.room, h.room)

  pub ready_noted : Ready N M' w n
  ready_noted = record { wide = by.size ∙ h.wide; size = h.size; room = omega (arith, by.more new, h.room); few = by.room; below = h.below }

  pub ready_put : (e : Entry) → e.on < N → (w' : List ℕ) → PutAt w w' (2 + 9 * n) e → Ready N M' w' (n + 1)
  unfolding thread_of
  ready_put e b w' u =
      record {
        wide = by.size ∙ h.wide;
        size = u.size ∙ h.size;
        room = omega (arith, by.more new, h.room);
        few = by.room;
        below = rw (listed w w' n e u) (below_append N (threads_at w 2 n) _ h.below (b, tt));
      }

module _ {F offs : List ℕ} (w : Formed F offs) (r : ℕ) (b : r < length offs) where
  pub both_inside : {x y : ℕ} → Both x y ≡ onward_of (rec (net_at F offs) r) → (x < length offs) × (y < length offs)
  both_inside e = rw (way_both (rec (net_at F offs) r) e) at (net_inside w r b)

  pub store_inside : {x y : ℕ} → Store x y ≡ onward_of (rec (net_at F offs) r) → (x < 8) × (y < length offs)
  store_inside e = rw (way_store (rec (net_at F offs) r) e) at (net_inside w r b)

-- nothing yet
module _ (w : List ℕ) where
  pub new_ready : (N : ℕ) → length w ≡ 578 → Ready N (replicate 64 false) w 0
  unfolding count_of
  new_ready N h = record { wide = refl; size = h; room = omega arith; few = omega (arith, ones_le (replicate 64 false)); below = rw (no_threads w 2) tt }

  pub new_means : Means (replicate 64 false) w 0 (record { marks = []; list = [] })
  new_means = record { marks = λ r b. sym (none_marked 64 r); list = no_threads w 2 }
