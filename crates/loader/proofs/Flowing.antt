-- The set of a situation flows along its rows, row by row. Assumes nothing.
use Prim.Native.Nat.{ℕ, ◌+◌, ◌^◌, ◌<◌}
use mathlib.Core.Path.{◌≡◌, ap, ◌∙◌, subst}
use mathlib.Core.Logic.{◌⊎◌, inl, inr}
use mathlib.Core.List.{List}
use lib.ListN.{get_or, set}
use Rattle.card.specs.Table.{Row}
use Rattle.card.specs.Run.{In, sit}
use Rattle.card.specs.Decode.{row_at, rows_at, table_at}
use Rattle.std.specs.Prelude.{Some, None}
use Rattle.loader.specs.Flow.{written, flow, Spread, Words, Pass, Flowed, Listed, RowsOf}
use Rattle.loader.proofs.Passes.{none, then, spread_keeps, row_spread, row_pass}
use Rattle.loader.proofs.Walk.{row_of, Back, Done, row_in, back_next, done_next, all_done}

-- along the rows before i the set of situation q has flowed
pub record Flowing (s : List ℕ) (at q : ℕ) (may m : List ℕ) (i : ℕ) : Type 0 where
  pub back : Back s at i
  pub pass : Pass (table_at s) may m
  pub done : Done s at i (Spread (get_or may q 0) m)

pub flowing_none : (s : List ℕ) (at q : ℕ) (may : List ℕ) → Words may → Flowing s at q may may at
flowing_none s at q may w = record { back = λ x k. k; pass = none w; done = λ x k. inl k }

module _ {s : List ℕ} {at q : ℕ} {may m : List ℕ} {i : ℕ} (f : Flowing s at q may m i) where
  pub flowing_end : row_at s i ≡ None → Flowed s at q may m
  flowing_end e = record { pass = f.pass; spread = all_done s at i e f.done }

  pub flowing_in : RowsOf s at q → {lo hi next : ℕ} → row_at s i ≡ Some (lo, hi, next) → next < 96
  flowing_in rows e = rows.leads _ (row_in s at i e f.back)

  pub flowing_on : RowsOf s at q → Words may → {lo hi next : ℕ} → row_at s i ≡ Some (lo, hi, next) → {k rd j : ℕ} → Listed s (i + 4) k rd j → k < 2 ^ 64
      → (v : ℕ) → v ≡ flow (get_or m next 0) (get_or may q 0) k → Flowing s at q may (set m next v) j
  flowing_on rows words {lo} {hi} {next} e {k} {rd} {j} l w v ev = record {
    back = back_next s at i e j l.end f.back;
    pass = then f.pass one;
    done = done_next s at i e j l.end (λ y h. more y (f.done y h)) spread;
  }
    where
      x : Row
      x = row_of s i lo hi next

      x_in : In (row_of s i lo hi next) (rows_at s at)
      x_in = row_in s at i e f.back

      x_of : In (row_of s i lo hi next) (sit (table_at s) q).rows
      x_of = subst (λ (r : List Row). In (row_of s i lo hi next) r) rows.here x_in

      flows : v ≡ flow (get_or m next 0) (get_or may q 0) (written 0 (row_of s i lo hi next).cmds)
      flows = ev ∙ ap (flow (get_or m next 0) (get_or may q 0)) l.writes

      wide : written 0 (row_of s i lo hi next).cmds < 2 ^ 64
      wide = subst (λ (y : ℕ). y < 2 ^ 64) l.writes w

      one : Pass (table_at s) m (set m next v)
      one =
          row_pass (table_at s) m f.pass.words q (get_or may q 0) (f.pass.keeps q) (words.small q) (row_of s i lo hi next) x_of
          (rows.leads (row_of s i lo hi next) x_in) wide v flows

      spread : Spread (get_or may q 0) (set m next v) (row_of s i lo hi next)
      spread =
          row_spread (table_at s) m f.pass.words q (get_or may q 0) (f.pass.keeps q) (words.small q) (row_of s i lo hi next) x_of
          (rows.leads (row_of s i lo hi next) x_in) wide v flows

      more : (y : Row) → In y (rows_at s i) ⊎ Spread (get_or may q 0) m y → In y (rows_at s i) ⊎ Spread (get_or may q 0) (set m next v) y
      more y (inl h) = inl h
      more y (inr h) = inr (spread_keeps one (get_or may q 0) y h)
