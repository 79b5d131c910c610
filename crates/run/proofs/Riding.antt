-- A line's way through the situations of a table, byte by byte. Assumes nothing.
use Prim.Native.Nat.{ℕ, suc, ◌+◌, ◌<◌, ◌≤◌}
use native.Mathlib.Omega.{arith}
use native.Mathlib.Numerals.{add-one}
use mathlib.Core.Path.{◌≡◌, refl, sym, ap, ap₂, ◌∙◌, subst}
use mathlib.Core.Logic.{◌⊎◌, inl, inr}
use mathlib.Core.List.{List, [], ◌∷◌}
use lib.ListN.{length, get_or, drop, drop_of_length-le}
use lib.Seq.{drop-cons}
use Rattle.card.specs.Table.{Cmd, Row, Table}
use Rattle.card.specs.Run.{Bank, empties, Out, ok, stuck, apply, State, at, lost, arrive, row_for, row_in, step, run, begun, over}
use Rattle.card.specs.Decode.{cmds_at, rows_at, table_at}
use Rattle.loader.proofs.Shape.{leads_in, next_in}
use Rattle.loader.proofs.Situated.{table_long, rows_here}
use Rattle.run.specs.Carry.{carry, LeadsTo, Rides}
use Rattle.run.proofs.Carrying.{carried}

pub run_lost : (T : Table) (p : ℕ) (w : List ℕ) → run T lost p w ≡ lost
unfolding run step
run_lost T p [] = refl
run_lost T p (b ∷ w) = run_lost T (suc p) w

-- a list that does not lose the way is carried out
not_lost : (T : Table) (n p : ℕ) (w : List ℕ) (l : List Cmd) (place : ℕ) (bank : Bank)
    → (run T (arrive n (apply l place bank bank)) p w ≡ lost → ⊥) → arrive n (apply l place bank bank) ≡ at n (carry l place bank bank)
not_lost T n p w l place bank no_way = by (carried l place bank bank)
  where
    by : (apply l place bank bank ≡ ok (carry l place bank bank)) ⊎ (apply l place bank bank ≡ stuck)
        → arrive n (apply l place bank bank) ≡ at n (carry l place bank bank)
    by (inl e) = ap (arrive n) e
    by (inr e) = absurd (no_way (ap (λ (o : Out). run T (arrive n o) p w) e ∙ run_lost T p w))

-- one byte
byte_on : (T : Table) (q : ℕ) (bank : Bank) (i : ℕ) (w : List ℕ) → i < length w
    → run T (at q bank) i (drop i w)
    ≡ run T (arrive (row_in T q (get_or w i 0)).next (apply (row_in T q (get_or w i 0)).cmds (i + 1) bank bank)) (i + 1) (drop (i + 1) w)
unfolding run step
byte_on T q bank i w h =
    ap (run T (at q bank) i) (drop-cons w i 0 h)
    ∙ sym (ap (λ (n : ℕ). run T (arrive (row_in T q (get_or w i 0)).next (apply (row_in T q (get_or w i 0)).cmds n bank bank)) n (drop n w)) (add-one i))

-- after i bytes: the situation, the bank, and what is left leads where the whole line does
pub record Riding (s w : List ℕ) (q : ℕ) (bank : Bank) (i : ℕ) : Type 0 where
  pub inside : q < get_or s 4 0
  pub way : run (table_at s) (at q bank) i (drop i w) ≡ over (table_at s) w

module _ {s places w : List ℕ} (r : Rides s places w) where
  pub riding_none : (bank : Bank) → bank ≡ carry (cmds_at s 5) 0 empties empties → Riding s w 0 bank 0
  unfolding begun table_at
  riding_none bank e = record {
    inside = omega (arith, table_long s, r.ready.formed.some);
    way =
        ap (λ (x : State). run (table_at s) x 0 w)
        (ap (at 0) e ∙ sym (not_lost (table_at s) 0 0 w (cmds_at s 5) 0 empties r.found));
  }

  module _ {q : ℕ} {bank : Bank} {i : ℕ} (g : Riding s w q bank i) where
    pub riding_next : (n c : ℕ) (new : Bank) → i < length w → get_or w i 0 < 256
        → LeadsTo s (row_for (rows_at s (get_or places q 0 + 10)) (get_or w i 0)) n c → new ≡ carry (cmds_at s c) (i + 1) bank bank → Riding s w n new (i + 1)
    riding_next n c new h b l e = record {
      inside =
          subst (λ (k : ℕ). k < get_or s 4 0) next
          (let k = next_in T r.ready.formed q x in_q (leads_in T r.ready.formed q (get_or w i 0) in_q b) in omega (arith, table_long s));
      way = go_on;
    }
      where
        T : Table
        T = table_at s

        x : Row
        x = row_in (table_at s) q (get_or w i 0)

        same : row_for (rows_at s (get_or places q 0 + 10)) (get_or w i 0) ≡ row_in (table_at s) q (get_or w i 0)
        same = ap (λ (rows : List Row). row_for rows (get_or w i 0)) (rows_here r.ready g.inside)

        lead : LeadsTo s (row_in (table_at s) q (get_or w i 0)) n c
        lead = subst (λ (y : Row). LeadsTo s y n c) same l

        next : (row_in (table_at s) q (get_or w i 0)).next ≡ n
        next = lead.next

        in_q : q < length (table_at s).sits
        in_q = omega (arith, table_long s, g.inside)

        reached : run (table_at s) (arrive n (apply (cmds_at s c) (i + 1) bank bank)) (i + 1) (drop (i + 1) w) ≡ over (table_at s) w
        reached =
            ap₂ (λ (k : ℕ) (l : List Cmd). run (table_at s) (arrive k (apply l (i + 1) bank bank)) (i + 1) (drop (i + 1) w)) (sym next) (sym lead.cmds)
            ∙ sym (byte_on (table_at s) q bank i w h) ∙ g.way

        go_on : run (table_at s) (at n new) (i + 1) (drop (i + 1) w) ≡ over (table_at s) w
        go_on =
            ap (λ (y : State). run (table_at s) y (i + 1) (drop (i + 1) w))
            (ap (at n) e ∙ sym (not_lost (table_at s) n (i + 1) (drop (i + 1) w) (cmds_at s c) (i + 1) bank (λ z. r.found (sym reached ∙ z)))) ∙ reached

  pub riding_end : {q : ℕ} {bank : Bank} {i : ℕ} → length w ≤ i → Riding s w q bank i → at q bank ≡ over (table_at s) w
  unfolding run
  riding_end {q} {bank} {i} h g = sym (ap (run (table_at s) (at q bank) i) (drop_of_length-le w h)) ∙ g.way
