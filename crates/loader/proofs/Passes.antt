-- Passes over rows: what one row does to the sets, one pass after another, and round after round until nothing changes.
-- Assumes nothing.
use Prim.Native.Nat.{ℕ, zero, suc, ◌-◌, ◌^◌, ◌<◌, ◌≤◌}
use native.Mathlib.Omega.{arith}
use native.Mathlib.Decide.{ℕ_discrete}
use mathlib.Core.Path.{◌≡◌, refl, sym, ap, ◌∙◌, subst}
use mathlib.Core.Logic.{◌⊎◌, inl, inr}
use mathlib.Core.Bool.{Bool, true, false}
use mathlib.Core.List.{List, ◌∷◌}
use lib.ListN.{length, get_or, set, replicate, length-set}
use lib.Seq.{get_or-set_same, get_or-set_other, set-get_or}
use lib.Dec.{lit<}
use lib.Count.{ones}
use Rattle.card.specs.Table.{Row, Table}
use Rattle.card.specs.Run.{In, sit}
use Rattle.loader.specs.Flow.{written, flow, total, start_set, Way, here, go, Grounded, Spread, Closed, Sub, Words, Pass, Round, Sweep, Settled}
use Rattle.ground.specs.Bits.{bit_of}
use Rattle.ground.proofs.Masks.{zero_bit}
use Rattle.loader.proofs.Sets.{flow_keeps, flow_adds, flow_only, flow_fits, flow_grows}
use Rattle.loader.proofs.Totals.{total_set, total_le}

-- a longer allowance
way_more : {T : Table} {start r k q : ℕ} (k' : ℕ) → k ≤ k' → Way T start r k q → Way T start r k' q
way_more k' l (here k h) = here k' h
way_more zero l (go k q x i p b) = absurd (omega arith)
way_more (suc k') l (go k q x i p b) = go k' q x i (way_more k' (omega arith) p) b

pub no_flag : true ≡ false → ⊥
no_flag e = let z : ◌≡◌ {A = ℕ} 0 1 = cc in omega arith

-- ---- one pass after another

pub none : {T : Table} {may : List ℕ} → Words may → Pass T may may
none w = record { words = w; keeps = λ q r h. h; ways = λ start g. g }

pub then : {T : Table} {may m m' : List ℕ} → Pass T may m → Pass T m m' → Pass T may m'
then u v = record {
  words = v.words;
  keeps = λ q r h. v.keeps q r (u.keeps q r h);
  ways = λ start g. v.ways start (u.ways start g);
}

-- a set that is spread stays so
pub spread_keeps : {T : Table} {m m' : List ℕ} → Pass T m m' → (x : ℕ) (row : Row) → Spread x m row → Spread x m' row
spread_keeps p x row h r a b = p.keeps row.next r (h r a b)

-- ---- one row: a set of which situation q has all flows along it

module _
    (T : Table) (m : List ℕ) (words : Words m) (q x : ℕ) (had : Sub x (get_or m q 0)) (low : x < 2 ^ 64) (row : Row) (i : In row (sit T q).rows)
    (inside : row.next < 96) (wide : written 0 row.cmds < 2 ^ 64) (v : ℕ) (ev : v ≡ flow (get_or m row.next 0) x (written 0 row.cmds)) where
  in_list : row.next < length m
  in_list = omega (arith, words.long)

  at_n : get_or (set m row.next v) row.next 0 ≡ v
  at_n = get_or-set_same m row.next v 0 in_list

  at_other : (j : ℕ) → (j ≡ row.next → ⊥) → get_or (set m row.next v) j 0 ≡ get_or m j 0
  at_other j d = get_or-set_other m row.next j v 0 d

  pub row_spread : Spread x (set m row.next v) row
  row_spread r a b = rw (at_n, ev) (flow_adds (get_or m row.next 0) x (written 0 row.cmds) r a b)

  small_at : (j : ℕ) → Dec (j ≡ row.next) → get_or (set m row.next v) j 0 < 2 ^ 64
  small_at j (yes e) = rw (e, at_n, ev) (flow_fits (get_or m row.next 0) x (written 0 row.cmds) (words.small row.next) low wide)
  small_at j (no d) = rw (at_other j d) (words.small j)

  keeps_at : (j r : ℕ) → Dec (j ≡ row.next) → bit_of (get_or m j 0) r ≡ 1 → bit_of (get_or (set m row.next v) j 0) r ≡ 1
  keeps_at j r (yes e) b = rw (e, at_n, ev) (flow_keeps (get_or m row.next 0) x (written 0 row.cmds) r (rw e at b))
  keeps_at j r (no d) b = rw (at_other j d) b

  words_on : Words (set m row.next v)
  words_on = record { long = length-set m row.next v ∙ words.long; small = λ j. small_at j (ℕ_discrete j row.next) }

  module _ (new : v ≡ get_or m row.next 0 → ⊥) where
    more_total : total m < total (set m row.next v)
    more_total =
        omega (
          arith,
          total_set m row.next v in_list,
          ap ones ev,
          flow_grows (get_or m row.next 0) x (written 0 row.cmds) (words.small row.next) low wide (λ e. new (ev ∙ e)),
        )

    ways_at : (start : ℕ) → Grounded T start (total m) m → (j r : ℕ) → Dec (j ≡ row.next) → bit_of (get_or (set m row.next v) j 0) r ≡ 1
        → Way T start r (total (set m row.next v)) j
    ways_at start g j r (no d) b = way_more _ (omega (arith, more_total)) (g j r (rw (at_other j d) at b))
    ways_at start g j r (yes e) b =
        rw e (from_flow (flow_only (get_or m row.next 0) x (written 0 row.cmds) r (rw (e, at_n, ev) at b)))
      where
        from_flow : (bit_of (get_or m row.next 0) r ≡ 1) ⊎ ((bit_of x r ≡ 1) × (bit_of (written 0 row.cmds) r ≡ 0))
            → Way T start r (total (set m row.next v)) row.next
        from_flow (inl o) = way_more _ (omega (arith, more_total)) (g row.next r o)
        from_flow (inr y) = way_more _ more_total (go (total m) q row i (g q r (had r y.0)) y.1)

  pub row_pass : Pass T m (set m row.next v)
  row_pass = by (ℕ_discrete v (get_or m row.next 0))
    where
      by : Dec (v ≡ get_or m row.next 0) → Pass T m (set m row.next v)
      by (yes e) = subst (Pass T m) (sym (ap (set m row.next) e ∙ set-get_or m row.next 0)) (none words)
      by (no n) = record {
        words = words_on;
        keeps = λ j r b. keeps_at j r (ℕ_discrete j row.next) b;
        ways = λ start g j r. ways_at n start g j r (ℕ_discrete j row.next);
      }

-- ---- round after round until nothing changes

zeros : (n i : ℕ) → ◌≡◌ {A = ℕ} (get_or (replicate n 0) i 0) 0
zeros zero i = refl
zeros (suc n) zero = refl
zeros (suc n) (suc i) = zeros n i

under : {may : List ℕ} → Words may → total may ≤ 6144
under {may} w = omega (arith, total_le may w.small, w.long)

module _ (T : Table) where
  from_start : (start : ℕ) (l : List ℕ) → ((i : ℕ) → get_or l i 0 ≡ 0) → (k q r : ℕ) → bit_of (get_or (start ∷ l) q 0) r ≡ 1 → Way T start r k q
  from_start start l z k zero r b = here k b
  from_start start l z k (suc q) r b =
      let e : ◌≡◌ {A = ℕ} 0 1 = sym (ap (λ (x : ℕ). bit_of x r) (z q) ∙ zero_bit r) ∙ b in absurd (omega arith)

  small : (start : ℕ) (l : List ℕ) → ((i : ℕ) → get_or l i 0 ≡ 0) → start < 2 ^ 64 → (i : ℕ) → get_or (start ∷ l) i 0 < 2 ^ 64
  small start l z h zero = h
  small start l z h (suc i) = rw (z i) (lit< tt)

  no_bit : (q r : ℕ) → bit_of (get_or (replicate 96 0) q 0) r ≡ 1 → ⊥
  no_bit q r b = let e : ◌≡◌ {A = ℕ} 0 1 = sym (ap (λ (x : ℕ). bit_of x r) (zeros 96 q) ∙ zero_bit r) ∙ b in omega arith

  pub begin : (start : ℕ) → start ≡ start_set T → start < 2 ^ 64 → Round T (set (replicate 96 0) 0 start) (replicate 96 0)
  begin start e h = record {
    words = record { long = refl; small = small start (replicate 95 0) (zeros 95) h };
    seen_words = record { long = refl; small = λ q. rw (zeros 96 q) (lit< tt) };
    first = λ r b. subst (λ (k : ℕ). bit_of k r ≡ 1) (sym e) b;
    ways = λ q r b. subst (λ (k : ℕ). Way T k r (total (set (replicate 96 0) 0 start)) q) e (from_start start (replicate 95 0) (zeros 95) _ q r b);
    had = λ q r b. absurd (no_bit q r b);
    sent = λ q x i r b. absurd (no_bit q r b);
  }

  -- how far there is to go falls
  pub falls : {may seen seen₀ : List ℕ} {changed : Bool} → changed ≡ true → Sweep T may seen seen₀ changed → 6144 - total seen < 6144 - total seen₀
  falls e s = omega (arith, s.grows e, under s.round.seen_words)

  pub settled : {may seen : List ℕ} → Round T may seen → Closed T may → Settled T may
  settled o c = record {
    first = o.first;
    closed = c;
    grounded = λ q r b. way_more 6144 (under o.words) (o.ways q r b);
  }
