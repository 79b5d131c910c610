-- Demand 3: what a taken table never does, and what a refused one does. Assumes nothing.
use Prim.Native.Nat.{ℕ, zero, suc, ◌+◌, ◌<◌, ◌≤◌}
use native.Mathlib.Omega.{arith}
use mathlib.Core.Path.{◌≡◌, refl, ap, ◌∙◌, subst}
use mathlib.Core.Bool.{Bool, true, false}
use mathlib.Core.Logic.{◌⊎◌, inl, inr}
use mathlib.Core.List.{List, [], ◌∷◌, map}
use lib.ListN.{length, set, replicate}
use lib.IntN.{ℤ, pos, negsuc}
use lib.Dec.{leb, eqb}
use borrow.Author.Tests.{leb-true, leb-false, eqb-false}
use Rattle.ground.specs.Pick.{pick}
use Rattle.card.specs.Table.{Cmd, move, put, Row, Sit, Table, Upward, bytes_of, Formed}
use Rattle.card.specs.Run.{Bank, absent, reg, empties, Out, ok, stuck, moved, apply, State, at, lost, arrive, sit, no_sit, row_for, row_in, step, run, begun, over, In, Stuck, Line, Told, refused, place_at, ends, tells}
use Rattle.card.specs.Judged.{Judged, taken, malformed, empty_read}
use Rattle.loader.proofs.Shape.{in_table, leads_in, next_in, sit_of, not_in}
use Rattle.loader.proofs.Judging.{not_stuck}
use Rattle.run.specs.Within.{Within, AllWithin}
use Rattle.run.specs.Sound.{Sound}
use Rattle.run.proofs.Filling.{map_length}
use Rattle.run.specs.Runs.{Runs, unfit, long, fit}

-- ---- every byte has a row in every situation, and every row leads to a situation

abbrev Covers : Row → ℕ → Type 0
Covers x b = (x.lo ≤ b) × (b ≤ x.hi)

either : (r x : Row) (b : ℕ) (t : Bool) → (t ≡ true → Covers r b) → (t ≡ false → Covers x b) → Covers (pick t r x) b
unfolding pick
either r x b true f g = f refl
either r x b false f g = g refl

covers : (R N lo : ℕ) (l : List Row) → Upward R N lo l → (b : ℕ) → b < 256 → lo ≤ b → Covers (row_for l b) b
unfolding row_for
covers R N lo [] u b h g = absurd (omega arith)
covers R N lo (r ∷ l) u b h g =
    either r (row_for l b) b (leb b r.hi) (λ e. (omega arith, leb-true b r.hi e))
    (λ e. covers R N (suc r.hi) l u.5 b h (leb-false b r.hi e))

module _ (T : Table) (formed : Formed T) where
  pub row_for_each_byte : (q b : ℕ) → q < length T.sits → b < 256 → In (row_in T q b) (sit T q).rows × (((row_in T q b).lo ≤ b) × (b ≤ (row_in T q b).hi))
  row_for_each_byte q b h l = (
    leads_in T formed q b h l,
    covers T.registers (length T.sits) 0 (sit T q).rows (in_table T formed q h).rows b l (omega arith),
  )

  pub row_leads : (q : ℕ) (x : Row) → In x (sit T q).rows → x.next < length T.sits
  row_leads q x i = by (sit_of T formed q)
    where
      by : (q < length T.sits) ⊎ (sit T q ≡ no_sit) → x.next < length T.sits
      by (inl h) = next_in T formed q x h i
      by (inr e) = absurd (not_in (subst (λ (s : Sit). In x s.rows) e i))

-- ---- no register is read before it is written

-- a table of right form that is refused: some line reads an empty register
pub reads_empty : {s : List ℕ} → Judged s 14 → (T : Table) × (Formed T × ((s ≡ bytes_of T) × ((w : List ℕ) × (Line w × Stuck T w))))
reads_empty {s} j = by 14 refl j
  where
    by : (c : ℕ) → c ≡ 14 → Judged s c → (T : Table) × (Formed T × ((s ≡ bytes_of T) × ((w : List ℕ) × (Line w × Stuck T w))))
    by _ z (taken U g d n) = absurd (omega arith)
    by _ z (malformed n) = absurd (omega arith)
    by _ z (empty_read U g d w l k) = (U, (g, (d, (w, (l, k)))))

-- ---- each place is -1 or within the line

reg_within : (n : ℕ) (l : Bank) → AllWithin n l → (r : ℕ) → Within n (reg l r)
reg_within n [] a r = omega arith
reg_within n (v ∷ l) a zero = a.0
reg_within n (v ∷ l) a (suc r) = reg_within n l a.1 r

set_within : (n : ℕ) (l : Bank) (t : ℕ) (v : ℤ) → AllWithin n l → Within n v → AllWithin n (set l t v)
set_within n [] t v a h = tt
set_within n (x ∷ l) zero v a h = (h, a.1)
set_within n (x ∷ l) (suc t) v a h = (a.0, set_within n l t v a.1 h)

more : (n m : ℕ) → n ≤ m → (v : ℤ) → Within n v → Within m v
more n m k (pos p) h = omega arith
more n m k (negsuc zero) h = tt
more n m k (negsuc (suc p)) h = h

all_more : (n m : ℕ) → n ≤ m → (l : List ℤ) → AllWithin n l → AllWithin m l
all_more n m k [] a = tt
all_more n m k (v ∷ l) a = (more n m k v a.0, all_more n m k l a.1)

abbrev OutWithin : ℕ → Out → Type 0
OutWithin n (ok bank) = AllWithin n bank
OutWithin n stuck = Unit {0}

abbrev StateWithin : ℕ → State → Type 0
StateWithin n (at q bank) = AllWithin n bank
StateWithin n lost = Unit {0}

moved_within : (n : ℕ) (v : ℤ) (o : Out) → OutWithin n o → OutWithin n (moved v o)
moved_within n (pos p) o h = h
moved_within n (negsuc p) o h = tt

apply_within : (n : ℕ) (l : List Cmd) (p : ℕ) (old cur : Bank) → p ≤ n → AllWithin n old → AllWithin n cur → OutWithin n (apply l p old cur)
unfolding apply
apply_within n [] p old cur k a b = b
apply_within n (put t ∷ l) p old cur k a b = apply_within n l p old (set cur t (pos p)) k a (set_within n cur t (pos p) b k)
apply_within n (move t f ∷ l) p old cur k a b =
    moved_within n (reg old f) _ (apply_within n l p old (set cur t (reg old f)) k a (set_within n cur t (reg old f) b (reg_within n old a f)))

arrive_within : (n q : ℕ) (o : Out) → OutWithin n o → StateWithin n (arrive q o)
arrive_within n q (ok bank) h = h
arrive_within n q stuck h = tt

step_within : (T : Table) (x : State) (p b : ℕ) → StateWithin p x → StateWithin (suc p) (step T x (suc p) b)
unfolding step
step_within T (at q bank) p b h =
    let a = all_more p (suc p) (omega arith) bank h in
    arrive_within (suc p) (row_in T q b).next (apply (row_in T q b).cmds (suc p) bank bank) (apply_within (suc p) (row_in T q b).cmds (suc p) bank bank (omega arith) a a)
step_within T lost p b h = tt

run_within : (T : Table) (w : List ℕ) (x : State) (p : ℕ) → StateWithin p x → StateWithin (p + length w) (run T x p w)
unfolding run
run_within T [] x p h = subst (λ (n : ℕ). StateWithin n x) (omega arith) h
run_within T (b ∷ w) x p h =
    subst (λ (n : ℕ). StateWithin n (run T (step T x (suc p) b) (suc p) w)) (omega arith)
    (run_within T w (step T x (suc p) b) (suc p) (step_within T x p b h))

empty_within : (n k : ℕ) → AllWithin n (replicate k absent)
empty_within n zero = tt
empty_within n (suc k) = (tt, empty_within n k)

begun_within : (T : Table) → StateWithin 0 (begun T)
unfolding begun
begun_within T = arrive_within 0 0 (apply T.start 0 empties empties) (apply_within 0 T.start 0 empties empties (omega arith) (empty_within 0 64) (empty_within 0 64))

place_within : (n : ℕ) (bank : Bank) → AllWithin n bank → (t : Bool) (f : ℕ) → Within n (pick t absent (reg bank f))
unfolding pick
place_within n bank a true f = tt
place_within n bank a false f = reg_within n bank a f

fields_within : (n : ℕ) (bank : Bank) → AllWithin n bank → (l : List ℕ) → AllWithin n (map (place_at bank) l)
fields_within n bank a [] = tt
fields_within n bank a (f ∷ l) = (place_within n bank a (eqb f 255) f, fields_within n bank a l)

told_within : (n : ℕ) (t : Bool) (x : Told) → AllWithin n x.places → AllWithin n (pick t (refused 16) x).places
unfolding pick
told_within n true x h = empty_within n 8
told_within n false x h = h

ends_within : (T : Table) (n : ℕ) (x : State) → StateWithin n x → AllWithin n (ends T x).places
ends_within T n (at q bank) h = told_within n (eqb (sit T q).answer 255) _ (fields_within n bank h (sit T q).fields)
ends_within T n lost h = empty_within n 8

-- for every table, taken or not
pub places_within : (T : Table) (w : List ℕ) → AllWithin (length w) (tells T w).places
places_within T w =
    ends_within T (length w) (over T w)
    (subst (λ (n : ℕ). StateWithin n (over T w)) (omega arith) (run_within T w (begun T) 0 (begun_within T)))

-- and so for every result of a run
pub result_within : {s w : List ℕ} {t : Told} → Runs s w t → AllWithin (length w) t.places
result_within {s} {w} (unfit c j n) = empty_within (length w) 8
result_within {s} {w} (long j l) = empty_within (length w) 8
result_within {s} {w} (fit j l T f e) = places_within T w

-- ---- there are eight

eight_of : (t : Bool) (x : Told) → (t ≡ false → length x.places ≡ 8) → length (pick t (refused 16) x).places ≡ 8
unfolding pick
eight_of true x h = refl
eight_of false x h = h refl

module _ (T : Table) (formed : Formed T) where
  fields_eight : (q : ℕ) → eqb (sit T q).answer 255 ≡ false → length (sit T q).fields ≡ 8
  fields_eight q n = by (sit_of T formed q)
    where
      by : (q < length T.sits) ⊎ (sit T q ≡ no_sit) → length (sit T q).fields ≡ 8
      by (inl h) = (in_table T formed q h).eight
      by (inr e) = absurd (eqb-false (sit T q).answer 255 n (ap (λ (x : Sit). x.answer) e))

  ends_eight : (x : State) → length (ends T x).places ≡ 8
  ends_eight (at q bank) =
      eight_of (eqb (sit T q).answer 255) _ (λ n. map_length (place_at bank) (sit T q).fields ∙ fields_eight q n)
  ends_eight lost = refl

  pub places_eight : (w : List ℕ) → length (tells T w).places ≡ 8
  places_eight w = ends_eight (over T w)

-- ---- demand 3

pub taken_is_sound : {s : List ℕ} → Judged s 0 → (T : Table) → Formed T → s ≡ bytes_of T → Sound T
taken_is_sound j T f e = record {
  rows = row_for_each_byte T f;
  leads = row_leads T f;
  reads = not_stuck j T f e;
  places = λ w. (places_eight T f w, places_within T w);
}
