-- The situations of a table that is ready: their places and their rows. Assumes nothing.
use Prim.Native.Nat.{ℕ, ◌+◌, ◌-◌, ◌^◌, ◌<◌, ◌≤◌}
use native.Mathlib.Omega.{arith}
use native.Mathlib.Decide.{dec_lt}
use borrow.Author.Count.{below_more}
use mathlib.Core.Path.{◌≡◌, refl, sym, ap, ◌∙◌, subst}
use mathlib.Core.List.{List, [], ◌∷◌}
use lib.ListN.{length, get_or, take, drop, get_or-eq_default}
use Rattle.card.specs.Table.{Row, Sit, Table, Upward}
use Rattle.card.specs.Run.{In, sit, no_sit}
use Rattle.card.specs.Decode.{cmds_at, row_at, rows_at, after_at, sit_at, table_at}
use Rattle.card.specs.Decode.{RowItem}
use Rattle.std.specs.Prelude.{Some, None}
use Rattle.card.proofs.Rows.{rows_step, row_whole}
use Rattle.card.proofs.Situations.{sits_length, table_sit}
use Rattle.loader.specs.Flow.{Loud, row, end, RowsOf, Ready, RowAsks, FieldAsks, Reads, written, flow, start_set}
use Rattle.ground.specs.Bits.{bit_of}
use Rattle.loader.proofs.Shape.{not_in, in_table, next_in}

-- ---- the situations that a table's bytes hold

pub table_long : (s : List ℕ) → length (table_at s).sits ≡ get_or s 4 0
unfolding table_at
table_long s = sits_length (get_or s 4 0) s (after_at s 5)

-- the start set, from the start's commands
pub start_is : (s : List ℕ) {v k : ℕ} → v ≡ flow 0 (2 ^ 64 - 1) k → k ≡ written 0 (cmds_at s 5) → v ≡ start_set (table_at s)
unfolding start_set table_at
start_is s e f = e ∙ ap (flow 0 (2 ^ 64 - 1)) f

-- rows that run upward are not none
some_rows : (R N : ℕ) (l : List Row) → Upward R N 0 l → l ≡ [] → ⊥
some_rows R N [] u e = let z : ◌≡◌ {A = ℕ} 0 256 = u in omega arith
some_rows R N (x ∷ l) u e = let z : ◌≡◌ {A = ℕ} 0 1 = cc in omega arith

-- where there are rows, there is room for one
rows_room : (s : List ℕ) (at : ℕ) → (rows_at s at ≡ [] → ⊥) → at + 4 ≤ length s
rows_room s at n = by (row_at s at) refl
  where
    by : (x : RowItem) → row_at s at ≡ x → at + 4 ≤ length s
    by (Some (lo, hi, next)) e = row_whole s at lo hi next e
    by None e = absurd (n (rows_step s at None e))

module _ {s places : List ℕ} (ready : Ready s places) where
  pub sit_here : {q : ℕ} → q < get_or s 4 0 → sit (table_at s) q ≡ sit_at s (get_or places q 0)
  sit_here {q} l = table_sit s q l ∙ ap (sit_at s) (sym (ready.placed q l))

  pub rows_here : {q : ℕ} → q < get_or s 4 0 → rows_at s (get_or places q 0 + 10) ≡ (sit (table_at s) q).rows
  unfolding sit_at
  rows_here l = sym (ap (λ (x : Sit). x.rows) (sit_here l))

  pub fields_here : {q : ℕ} → q < get_or s 4 0 → take 8 (drop (get_or places q 0 + 2) s) ≡ (sit (table_at s) q).fields
  unfolding sit_at
  fields_here l = sym (ap (λ (x : Sit). x.fields) (sit_here l))

  pub count_most : get_or s 4 0 ≤ 96
  count_most = omega (arith, table_long s, ready.formed.most)

  pub in_sits : {q : ℕ} → q < get_or s 4 0 → q < length (table_at s).sits
  in_sits l = omega (arith, table_long s)

  pub room_here : {q : ℕ} → q < get_or s 4 0 → get_or places q 0 + 14 ≤ length s
  room_here {q} l =
      let r = rows_room s (get_or places q 0 + 10) (λ e. some_rows _ _ (sit (table_at s) q).rows
      (in_table (table_at s) ready.formed q (in_sits l)).rows (sym (rows_here l) ∙ e)) in
      omega arith

  pub rows_of : {q : ℕ} → q < get_or s 4 0 → RowsOf s (get_or places q 0 + 10) q
  rows_of {q} l = record {
    here = rows_here l;
    inside = let m = count_most in omega arith;
    leads = λ x i.
        let n = next_in (table_at s) ready.formed q x (in_sits l) (subst (λ (y : List Row). In x y) (rows_here l) i) in
        omega (arith, ready.formed.most);
  }

  -- no row and no field where there is no situation
  pub no_row : {q : ℕ} → get_or s 4 0 ≤ q → (x : Row) → In x (sit (table_at s) q).rows → ⊥
  no_row {q} h x i =
      not_in (subst (λ (y : Sit). In x y.rows) (get_or-eq_default (table_at s).sits no_sit (let m = table_long s in omega arith)) i)

  no_field : {q : ℕ} → get_or s 4 0 ≤ q → (r : ℕ) → In r (sit (table_at s) q).fields → ⊥
  no_field {q} h r i =
      not_in (subst (λ (y : Sit). In r y.fields) (get_or-eq_default (table_at s).sits no_sit (let m = table_long s in omega arith)) i)

-- ---- what the situations read

-- situation p reads no register of its set
pub record Unheard (T : Table) (may : List ℕ) (p : ℕ) : Type 0 where
  pub rows : (x : Row) → In x (sit T p).rows → (r : ℕ) → bit_of (get_or may p 0) r ≡ 1 → Reads r x.cmds → ⊥
  pub fields : (r : ℕ) → In r (sit T p).fields → (r ≡ 255 → ⊥) → bit_of (get_or may p 0) r ≡ 1 → ⊥

module _ {s places : List ℕ} (ready : Ready s places) {may : List ℕ} {q : ℕ} where
  module _ (l : q < get_or s 4 0) where
    pub loud_field : FieldAsks s (get_or places q 0 + 2) (get_or may q 0) → Loud (table_at s) may
    loud_field a = end q a.0 (subst (λ (y : List ℕ). In a.0 y) (fields_here ready l) a.1.0) a.1.1.0 a.1.1.1

    pub loud_row : RowAsks s (get_or places q 0 + 10) (get_or may q 0) → Loud (table_at s) may
    loud_row a =
        row q a.1.1.0 a.0 (subst (λ (y : List Row). In a.0 y) (rows_here ready l) a.1.0) a.1.1.1.0 a.1.1.1.1

    unheard_here : (FieldAsks s (get_or places q 0 + 2) (get_or may q 0) → ⊥) → (RowAsks s (get_or places q 0 + 10) (get_or may q 0) → ⊥) → Unheard (table_at s) may q
    unheard_here f g = record {
      rows = λ x i r b d. g (x, (subst (λ (y : List Row). In x y) (sym (rows_here ready l)) i, (r, (b, d))));
      fields = λ r i n b. f (r, (subst (λ (y : List ℕ). In r y) (sym (fields_here ready l)) i, (n, b)));
    }

    pub unheard_next : ((p : ℕ) → p < q → Unheard (table_at s) may p) → (FieldAsks s (get_or places q 0 + 2) (get_or may q 0) → ⊥)
        → (RowAsks s (get_or places q 0 + 10) (get_or may q 0) → ⊥) → (p : ℕ) → p < q + 1 → Unheard (table_at s) may p
    unheard_next all f g = below_more (Unheard (table_at s) may) q all (unheard_here f g)

  pub unheard_all : get_or s 4 0 ≤ q → ((p : ℕ) → p < q → Unheard (table_at s) may p) → Loud (table_at s) may → ⊥
  unheard_all h all (row p r x i b d) = by (dec_lt p q)
    where
      by : Dec (p < q) → ⊥
      by (yes k) = (all p k).rows x i r b d
      by (no k) = no_row ready (omega arith) x i
  unheard_all h all (end p r i n b) = by (dec_lt p q)
    where
      by : Dec (p < q) → ⊥
      by (yes k) = (all p k).fields r i n b
      by (no k) = no_field ready (omega arith) r i
