-- Rows joined: they run upward without gap, and the row of a byte has the next situation and the commands of that byte. Over any 256 rows of
-- one byte each. Assumes nothing.
use mathlib.Core.Path.{◌≡◌, refl, ap, ap₂, ◌∙◌, subst}
use mathlib.Core.Bool.{Bool, true, false, cond}
use mathlib.Core.List.{List, [], ◌∷◌, map}
use Prim.Native.Nat.{ℕ, zero, suc, ◌+◌, ◌≤◌, ◌<◌}
use native.Mathlib.Omega.{arith}
use native.Mathlib.Decide.{dec_le}
use lib.Dec.{eqb, leb}
use borrow.Author.Tests.{eqb-true}
use Rattle.ground.specs.Pick.{pick}
use Rattle.ground.proofs.Picks.{pick_le, pick_not_le}
use Rattle.paths.specs.Equal.{same_list}
use Rattle.card.specs.Table.{Cmd, move, put, Row, Rising, Upward}
use Rattle.card.specs.Run.{no_row, row_for}
use Rattle.explore.specs.Lists.{span}
use Rattle.build.specs.Card.{same_cmd, alike, both, ahead, joined}
use Rattle.built.proofs.Spans.{list_eq}
use Rattle.ground.proofs.Tests.{both_yes}

-- ---- rows that are alike

cmd_eq : (a b : Cmd) → same_cmd a b ≡ true → a ≡ b
cmd_eq (move a b) (move c d) e = let t = both_yes (eqb a c) (eqb b d) e in ap₂ (λ x y. move x y) (eqb-true a c t.0) (eqb-true b d t.1)
cmd_eq (move a b) (put c) e = let z : ◌≡◌ {A = ℕ} 0 1 = cc in absurd (omega arith)
cmd_eq (put a) (move c d) e = let z : ◌≡◌ {A = ℕ} 0 1 = cc in absurd (omega arith)
cmd_eq (put a) (put c) e = ap put (eqb-true a c e)

-- where both lead, and what they do
pub record Same (p q : Row) : Type 0 where
  pub leads : p.next ≡ q.next
  pub does : p.cmds ≡ q.cmds

alike_same : (p q : Row) → alike p q ≡ true → Same p q
alike_same p q e =
    let t = both_yes (eqb p.next q.next) (same_list same_cmd p.cmds q.cmds) e in
    record { leads = eqb-true p.next q.next t.0; does = list_eq same_cmd cmd_eq p.cmds q.cmds t.1 }

same_as : {p q : Row} → p ≡ q → Same p q
same_as e = record { leads = ap (λ r. r.next) e; does = ap (λ r. r.cmds) e }

same_trans : {p q r : Row} → Same p q → Same q r → Same p r
same_trans a b = record { leads = a.leads ∙ b.leads; does = a.does ∙ b.does }

-- ---- one row for each byte, joined

module _ (f : ℕ → Row) (lo_is : (b : ℕ) → (f b).lo ≡ b) (hi_is : (b : ℕ) → (f b).hi ≡ b) where
  -- the first of them does not end before k
  abbrev Reach : ℕ → List Row → Type 0
  Reach k [] = Unit {0}
  Reach k (q ∷ l) = k ≤ q.hi

  reach_ahead : (k : ℕ) (J : List Row) → Reach (k + 1) J → Reach k (ahead (f k) J)
  reach_ahead k [] h = omega (arith, hi_is k)
  reach_ahead k (q ∷ l) h = by (alike (f k) q)
    where
      by : (c : Bool) → Reach k (cond c (both (f k) q ∷ l) (f k ∷ q ∷ l))
      by true = omega arith
      by false = omega (arith, hi_is k)

  reach_joined : (k n : ℕ) → Reach k (joined (map f (span k n)))
  unfolding joined span
  reach_joined k zero = tt
  reach_joined k (suc n) = reach_ahead k (joined (map f (span (k + 1) n))) (reach_joined (k + 1) n)

  -- ---- upward without gap

  module _ (R N : ℕ) (good : (b : ℕ) → b < 256 → ((f b).next < N) × Rising R 0 (f b).cmds) where
    up_ahead : (k : ℕ) → k < 256 → (J : List Row) → Upward R N (k + 1) J → Upward R N k (ahead (f k) J)
    up_ahead k h [] u =
        (lo_is k, omega (arith, lo_is k, hi_is k), omega (arith, hi_is k), (good k h).0, (good k h).1, omega (arith, hi_is k))
    up_ahead k h (q ∷ l) u = by (alike (f k) q)
      where
        by : (c : Bool) → Upward R N k (cond c (both (f k) q ∷ l) (f k ∷ q ∷ l))
        by true = (lo_is k, omega (arith, lo_is k, u.0, u.1), u.2, (good k h).0, (good k h).1, u.5)
        by false =
            let z : k + 1 ≡ suc (f k).hi = omega (arith, hi_is k) in
            (lo_is k, omega (arith, lo_is k, hi_is k), omega (arith, hi_is k), (good k h).0, (good k h).1, subst (λ v. Upward R N v (q ∷ l)) z u)

    up_joined : (k n : ℕ) → k + n ≡ 256 → Upward R N k (joined (map f (span k n)))
    unfolding joined span
    up_joined k zero e = omega arith
    up_joined k (suc n) e = up_ahead k (omega arith) (joined (map f (span (k + 1) n))) (up_joined (k + 1) n (omega arith))

    pub rows_upward : Upward R N 0 (joined (map f (span 0 256)))
    rows_upward = up_joined 0 256 (omega arith)

  -- ---- the row of a byte

  row_here : (k : ℕ) (J : List Row) → Reach (k + 1) J → Same (row_for (ahead (f k) J) k) (f k)
  unfolding row_for
  row_here k [] h = same_as (pick_le k (f k).hi (f k) no_row (omega (arith, hi_is k)))
  row_here k (q ∷ l) h = by (alike (f k) q)
    where
      by : (c : Bool) → Same (row_for (cond c (both (f k) q ∷ l) (f k ∷ q ∷ l)) k) (f k)
      by true = let e = pick_le k q.hi (both (f k) q) (row_for l k) (omega arith) in record { leads = ap (λ r. r.next) e; does = ap (λ r. r.cmds) e }
      by false = same_as (pick_le k (f k).hi (f k) (row_for (q ∷ l) k) (omega (arith, hi_is k)))

  row_past : (k b : ℕ) → k < b → (J : List Row) → Same (row_for (ahead (f k) J) b) (row_for J b)
  unfolding row_for pick
  row_past k b h [] = same_as (pick_not_le b (f k).hi (f k) no_row (omega (arith, hi_is k)))
  row_past k b h (q ∷ l) = by (alike (f k) q) refl
    where
      split : (c : Bool) → Same (f k) q → Same (pick c (both (f k) q) (row_for l b)) (pick c q (row_for l b))
      split true s = record { leads = s.leads; does = s.does }
      split false s = same_as refl

      by : (c : Bool) → alike (f k) q ≡ c → Same (row_for (cond c (both (f k) q ∷ l) (f k ∷ q ∷ l)) b) (row_for (q ∷ l) b)
      by true e = split (leb b q.hi) (alike_same (f k) q e)
      by false e = same_as (pick_not_le b (f k).hi (f k) (row_for (q ∷ l) b) (omega (arith, hi_is k)))

  row_joined : (k n b : ℕ) → k ≤ b → b < k + n → Same (row_for (joined (map f (span k n))) b) (f b)
  unfolding joined span
  row_joined k zero b g h = absurd (omega arith)
  row_joined k (suc n) b g h = by (λ a c. row_joined (k + 1) n b a c) (dec_le b k)
    where
      by : (k + 1 ≤ b → b < k + 1 + n → Same (row_for (joined (map f (span (k + 1) n))) b) (f b)) → Dec (b ≤ k) → Same (row_for (ahead (f k) (joined (map f (span (k + 1) n)))) b) (f b)
      by ih (yes e) =
          let q : k ≡ b = omega arith in
          subst (λ v. Same (row_for (ahead (f k) (joined (map f (span (k + 1) n)))) v) (f v)) q (row_here k (joined (map f (span (k + 1) n))) (reach_joined (k + 1) n))
      by ih (no e) = same_trans (row_past k b (omega arith) (joined (map f (span (k + 1) n)))) (ih (omega arith) (omega arith))

  pub row_of : (b : ℕ) → b < 256 → Same (row_for (joined (map f (span 0 256))) b) (f b)
  row_of b h = row_joined 0 256 b (omega arith) (omega arith)
