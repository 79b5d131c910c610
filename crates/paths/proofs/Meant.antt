-- The builder's list is the situation of document 01. Assumes nothing.
use mathlib.Core.Path.{◌≡◌, refl, sym, ap, ◌∙◌, subst}
use mathlib.Core.Logic.{◌⊎◌, inl, inr}
use mathlib.Core.Bool.{Bool, true, false, cond}
use mathlib.Core.List.Memᴰ
use mathlib.Core.List.{List, [], ◌∷◌, append-nil, Memᴰ}
use Prim.Native.Nat.{ℕ}
use native.Mathlib.Omega.{arith}
use lib.ListN.{length}
use Rattle.net.specs.Rec.{Rec, range, mask, fork, tag, end, Net, rec}
use Rattle.paths.specs.Ways.{Move, Earlier, empty_handed, held}
use Rattle.paths.specs.Search.{Thread, ons, firsts}
use Rattle.paths.specs.Situation.{every, threads}
use Rattle.paths.specs.Registers.{Tags, stands, standing, begin, after, number, situation}
use Rattle.paths.specs.Meaning.{Stands, Sorted, Once, Situation, trails, with_tags, waiting, meant}
use Rattle.paths.proofs.Firsts.{Sole, gather_sole, gather_ordered, gather_first}
use Rattle.paths.proofs.Member.{mem_ons, ons_mem}
use Rattle.paths.proofs.Closure.{by_record, firsts_in, firsts_has}
use Rattle.paths.proofs.Heart.{heart}
use Rattle.paths.proofs.Faithful.{onto, Trail, Reached, every_sound}
use Rattle.paths.proofs.Complete.{every_complete}
use Rattle.paths.proofs.Same.{lifts}
use Rattle.paths.proofs.Bridge.{at_place, after_paths}
use Rattle.paths.proofs.Order.{Ordered, Bef, every_ordered, before_waiting, sort}

-- ---- a list in which every record appears once

sole_once : {B : Type 0} (l : List (Thread B)) → Sole by_record l → Once (ons l)
sole_once [] o = tt
sole_once (s ∷ l) o = (o.0, sole_once l o.1)

-- ---- of these, the records that wait

module _ {B : Type 0} (A : Net) where
  pub standing_in : (l : List (Thread B)) {t : Thread B} → Memᴰ t (standing A l) → Memᴰ t l × (stands (rec A t.on) ≡ true)
  standing_in [] m = absurd (elim m [ ])
  standing_in (s ∷ l) {t} m = by (λ n. standing_in l n) (stands (rec A s.on)) refl m
    where
      cons : (Memᴰ t (standing A l) → Memᴰ t l × (stands (rec A t.on) ≡ true)) → stands (rec A s.on) ≡ true → (t ≡ s) ⊎ Memᴰ t (standing A l)
          → Memᴰ t (s ∷ l) × (stands (rec A t.on) ≡ true)
      cons ih e (inl p) = (Memᴰ.head p, ap (λ v. stands (rec A v.on)) p ∙ e)
      cons ih e (inr n) = let r = ih n in (Memᴰ.tail r.0, r.1)

      by : (Memᴰ t (standing A l) → Memᴰ t l × (stands (rec A t.on) ≡ true)) → (c : Bool) → stands (rec A s.on) ≡ c
          → Memᴰ t (cond c (s ∷ standing A l) (standing A l)) → Memᴰ t (s ∷ l) × (stands (rec A t.on) ≡ true)
      by ih true e n = cons ih e (Memᴰ.cases_cons n)
      by ih false e n = let r = ih n in (Memᴰ.tail r.0, r.1)

  standing_has : {t : Thread B} {l : List (Thread B)} → Memᴰ t l → stands (rec A t.on) ≡ true → Memᴰ t (standing A l)
  standing_has {t = t} (Memᴰ.head {x = x} {xs = xs} p) e = rw (sym (ap (λ v. stands (rec A v.on)) p) ∙ e) (Memᴰ.head p)
  standing_has {t = t} (Memᴰ.tail {x = x} {xs = xs} m) e = by (stands (rec A x.on)) (standing_has m e)
    where
      by : (c : Bool) → Memᴰ t (standing A xs) → Memᴰ t (cond c (x ∷ standing A xs) (standing A xs))
      by true n = Memᴰ.tail n
      by false n = n

  standing_ordered : (R : Thread B → Thread B → Type 0) (l : List (Thread B)) → Ordered R l → Ordered R (standing A l)
  standing_ordered R [] o = tt
  standing_ordered R (s ∷ l) o = by (standing_ordered R l o.1) (stands (rec A s.on))
    where
      by : Ordered R (standing A l) → (c : Bool) → Ordered R (cond c (s ∷ standing A l) (standing A l))
      by ih true = (λ t m. o.0 t (standing_in l m).0, ih)
      by ih false = ih

  standing_once : (l : List (Thread B)) → Once (ons l) → Once (ons (standing A l))
  standing_once [] o = tt
  standing_once (s ∷ l) o = by (standing_once l o.1) (stands (rec A s.on))
    where
      fewer : Memᴰ s.on (ons (standing A l)) → Memᴰ s.on (ons l)
      fewer m = let c = ons_mem (standing A l) m in rw c.2 (mem_ons (standing_in l c.1).0)

      by : Once (ons (standing A l)) → (c : Bool) → Once (ons (cond c (s ∷ standing A l) (standing A l)))
      by ih true = (λ m. o.0 (fewer m), ih)
      by ih false = ih

-- no turn leads on from a record that waits
no_turn : (k : Rec) → stands k ≡ true → ¬ (sort k ≡ 1)
unfolding sort
no_turn (range lo hi n) e p = omega arith
no_turn (mask bits n) e p = omega arith
no_turn (fork x y) e p = let z : ◌≡◌ {A = ℕ} 0 1 = cc in omega arith
no_turn (tag t n) e p = let z : ◌≡◌ {A = ℕ} 0 1 = cc in omega arith
no_turn (end a) e p = omega arith

-- ---- THE SITUATION

module _ (A : Net) (w : List ℕ) where
  abbrev start : Trail
  start = record { on = 0; had = [] }

  abbrev all : List Trail
  all = every onto A w start

  trail : (t : Trail) → Memᴰ t all → stands (rec A t.on) ≡ true → Stands A w t.had t.on
  trail t m e = of (every_sound A w start t m)
    where
      of : Reached A [] w start t → Stands A w t.had t.on
      of d = rw d.gathered (record { path = d.path; admissible = d.admissible; whole = d.consumed; waits = e })

  listed : (ms : List Move) (r : ℕ) → Stands A w ms r → Memᴰ (record { on = r; had = ms }) all
  listed ms r c = every_complete A w c.path [] c.admissible c.whole

  order : (s t : Trail) → Stands A w s.had s.on → Stands A w t.had t.on → Bef s t → Earlier s.had t.had
  order s t c d b = before_waiting A c.path (no_turn (rec A s.on) c.waits) d.path b

  sorted_of : (l : List Trail) → Ordered Bef l → ((t : Trail) → Memᴰ t l → Stands A w t.had t.on) → Sorted l
  sorted_of [] o h = tt
  sorted_of (s ∷ l) o h = (λ t m. order s t (h s (Memᴰ.head refl)) (h t (Memᴰ.tail m)) (o.0 t m), sorted_of l o.1 (λ t m. h t (Memᴰ.tail m)))

  kept : List Trail
  kept = standing A (firsts [] all)

  kept_in : (t : Trail) → Memᴰ t kept → Memᴰ t all × (stands (rec A t.on) ≡ true)
  unfolding kept
  kept_in t m = let c = standing_in A (firsts [] all) m in (of (firsts_in all [] c.0), c.1)
    where
      of : Memᴰ t [] ⊎ Memᴰ t all → Memᴰ t all
      of (inl n) = absurd (elim n [ ])
      of (inr n) = n

  kept_sound : (t : Trail) → Memᴰ t kept → Stands A w t.had t.on
  kept_sound t m = let c = kept_in t m in trail t c.0 c.1

  pub kept_right : Situation A w (standing A (firsts [] all))
  unfolding kept
  kept_right =
      record {
        sound = kept_sound;
        complete = λ ms r c. present ms r c (ons_mem (firsts [] all) (firsts_has all [] r (mem_ons (listed ms r c))));
        once = standing_once A (firsts [] all) (sole_once (firsts [] all) (gather_sole by_record all [] tt));
        earliest = λ t m ms c. by t m ms c (gather_first by_record Bef all [] (every_ordered A w start) (λ v n. absurd (elim n [ ])) t (standing_in A (firsts [] all) m).0
            (record { on = t.on; had = ms }) (listed ms t.on c) refl);
        sorted = sorted_of kept (standing_ordered A Bef (firsts [] all) (gather_ordered by_record Bef all [] (every_ordered A w start))) kept_sound;
      }
    where
      present : (ms : List Move) (r : ℕ) → Stands A w ms r → (t : Trail) × Memᴰ t (firsts [] all) × (r ≡ t.on) → Memᴰ r (ons kept)
      present ms r c t = rw t.2 (mem_ons (standing_has A t.1 (ap (λ v. stands (rec A v)) (sym t.2) ∙ c.waits)))

      by : (t : Trail) → Memᴰ t kept → (ms : List Move) → Stands A w ms t.on → (◌≡◌ {A = Trail} (record { on = t.on; had = ms }) t) ⊎ Bef t (record { on = t.on; had = ms })
          → (ms ≡ t.had) ⊎ Earlier t.had ms
      by t m ms c (inl e) = inl (ap (λ v. v.had) e)
      by t m ms c (inr b) = inr (order t (record { on = t.on; had = ms }) (kept_sound t m) c b)

  pub trails_right : Situation A w (trails A w)
  unfolding trails
  trails_right = kept_right

  pub trails_threads : trails A w ≡ standing A (threads onto A w (start ∷ []))
  unfolding trails
  trails_threads = ap (λ l. standing A l) (sym (heart onto A w (start ∷ []) ∙ ap (λ l. firsts [] l) (append-nil all)))

  -- what the builder keeps after w is the situation of document 01
  pub threads_right : Situation A w (standing A (threads onto A w (start ∷ [])))
  threads_right = subst (λ l. Situation A w l) trails_threads trails_right

-- ---- and, by computation, the list that the builder keeps

with_tags_lifts : (l : List Trail) → with_tags l ≡ lifts (λ h. h.tags) (lifts (λ p. held p empty_handed) l)
with_tags_lifts [] = refl
with_tags_lifts (s ∷ l) = ap (λ r. record { on = s.on; had = (held s.had empty_handed).tags } ∷ r) (with_tags_lifts l)

tags_back : (p : ℕ) (l : List (Thread Tags)) → lifts (λ h. h.tags) (lifts (at_place p) l) ≡ l
tags_back p [] = refl
tags_back p (s ∷ l) = ap (λ r. s ∷ r) (tags_back p l)

pub waiting_after : (A : Net) (w : List ℕ) → waiting A w ≡ after A 0 (begin A) w
unfolding waiting
waiting_after A w =
    with_tags_lifts (trails A w)
    ∙ ap (λ l. lifts (λ h. h.tags) (lifts (λ p. held p empty_handed) l)) (trails_threads A w)
    ∙ ap (λ l. lifts (λ h. h.tags) l) (sym (after_paths A w))
    ∙ tags_back (length w) (after A 0 (begin A) w)

-- THE SITUATION: defined with no search, and computed by one
pub situation_meant : (A : Net) (w : List ℕ) → situation A w ≡ meant A w
unfolding situation meant
situation_meant A w = ap number (sym (waiting_after A w))
