-- Laws of the rows at a place. Assumes nothing.
use Prim.Native.Nat.{ℕ, zero, suc, ◌+◌, ◌-◌, ◌<◌, ◌≤◌}
use native.Mathlib.Omega.{arith}
use mathlib.Core.Path.{◌≡◌, refl, sym, ap, ◌∙◌, subst}
use mathlib.Core.Bool.{Bool, true, false}
use mathlib.Core.List.{List}
use lib.ListN.{length}
use lib.Dec.{ltb, leb}
use borrow.Author.Tests.{ltb-false, leb-false, le-leb, lt-leb}
use Rattle.card.specs.Table.{Row}
use Rattle.card.specs.Run.{row_for, no_row}
use Rattle.card.specs.declared.Order.{Order}
use Rattle.card.specs.declared.Order.TheVariants.{Move, Put, Stop}
use Rattle.card.specs.Decode.{RowItem}
use Rattle.std.specs.Prelude.{Some, None}
use Rattle.ground.specs.Pick.{pick}
use Rattle.card.specs.Decode.{cmd_at, cmds_at, past, after_n, after_at, row_at, row_then, rows_n, rows_at}
use Rattle.card.proofs.Laws.{at_end}

-- ---- the place after the commands

past_ext : (o : Order) (at : ℕ) (f g : ℕ → ℕ) → ((d : ℕ) → 0 < d → f d ≡ g d) → past o at f ≡ past o at g
past_ext (Move t s) at f g h = h 3 (omega arith)
past_ext (Put t) at f g h = h 2 (omega arith)
past_ext Stop at f g h = refl

after_fuel : (s : List ℕ) (n m at : ℕ) → length s ≤ at + n → length s ≤ at + m → after_n n s at ≡ after_n m s at
unfolding after_n
after_fuel s zero zero at a b = refl
after_fuel s zero (suc m) at a b = sym (ap (λ (o : Order). past o at (λ (d : ℕ). after_n m s (at + d))) (at_end s at (omega arith)))
after_fuel s (suc n) zero at a b = ap (λ (o : Order). past o at (λ (d : ℕ). after_n n s (at + d))) (at_end s at (omega arith))
after_fuel s (suc n) (suc m) at a b = past_ext (cmd_at s at) at _ _ (λ d p. after_fuel s n m (at + d) (omega arith) (omega arith))

pub after_step : (s : List ℕ) (at : ℕ) (o : Order) → cmd_at s at ≡ o → after_at s at ≡ past o at (λ (d : ℕ). after_at s (at + d))
unfolding after_at after_n
after_step s at o e =
    after_fuel s (length s) (suc (length s)) at (omega arith) (omega arith)
    ∙ ap (λ (x : Order). past x at (λ (d : ℕ). after_n (length s) s (at + d))) e

past_ge : (o : Order) (at : ℕ) (f : ℕ → ℕ) → ((d : ℕ) → at + d ≤ f d) → at ≤ past o at f
past_ge (Move t s) at f h = omega (arith, h 3)
past_ge (Put t) at f h = omega (arith, h 2)
past_ge Stop at f h = omega arith

pub after_ge : (s : List ℕ) (n at : ℕ) → at ≤ after_n n s at
unfolding after_n
after_ge s zero at = omega arith
after_ge s (suc n) at = past_ge (cmd_at s at) at _ (λ d. after_ge s n (at + d))

-- ---- the rows

Whole : List ℕ → ℕ → RowItem → Type 0
Whole s at (Some (lo, hi, next)) = at + 4 ≤ length s
Whole s at None = Unit {0}

by_test : (s : List ℕ) (at : ℕ) (b : Bool) (x y : RowItem) → (b ≡ true → Whole s at x) → (b ≡ false → Whole s at y) → Whole s at (pick b x y)
unfolding pick
by_test s at true x y f g = f refl
by_test s at false x y f g = g refl

ends_whole : (s : List ℕ) (at : ℕ) → Whole s at None
unfolding Whole
ends_whole s at = tt

line_whole : (s : List ℕ) (at lo hi next : ℕ) → leb (length s) at ≡ false → ltb (length s - at) 4 ≡ false → Whole s at (Some (lo, hi, next))
unfolding Whole
line_whole s at lo hi next a b =
    let a' = leb-false (length s) at a in
    let b' = ltb-false (length s - at) 4 b in
    omega arith

whole : (s : List ℕ) (at : ℕ) → Whole s at (row_at s at)
unfolding row_at
whole s at =
    by_test s at _ _ _ (λ _. ends_whole s at) (λ a.
    by_test s at _ _ _ (λ _. by_test s at _ _ _ (λ _. ends_whole s at) (λ b. line_whole s at _ _ _ a b)) (λ _. ends_whole s at))

pub row_whole : (s : List ℕ) (at lo hi next : ℕ) → row_at s at ≡ Some (lo, hi, next) → at + 4 ≤ length s
unfolding Whole
row_whole s at lo hi next e = subst (Whole s at) e (whole s at)

pub no_line : (s : List ℕ) (at : ℕ) → length s ≤ at → row_at s at ≡ None
unfolding pick row_at
no_line s at l = simp (le-leb _ _ l)

rows_fuel : (s : List ℕ) (n m at : ℕ) → length s ≤ at + n → length s ≤ at + m → rows_n n s at ≡ rows_n m s at
unfolding rows_n after_at
rows_fuel s zero zero at a b = refl
rows_fuel s zero (suc m) at a b = sym (ap (λ (x : RowItem). row_then x (cmds_at s (at + 4)) (rows_n m s (after_at s (at + 4)))) (no_line s at (omega arith)))
rows_fuel s (suc n) zero at a b = ap (λ (x : RowItem). row_then x (cmds_at s (at + 4)) (rows_n n s (after_at s (at + 4)))) (no_line s at (omega arith))
rows_fuel s (suc n) (suc m) at a b =
    let g : at + 4 ≤ after_at s (at + 4) = after_ge s (length s) (at + 4) in
    ap (row_then (row_at s at) (cmds_at s (at + 4))) (rows_fuel s n m (after_at s (at + 4)) (omega arith) (omega arith))

pub rows_step : (s : List ℕ) (at : ℕ) (x : RowItem) → row_at s at ≡ x → rows_at s at ≡ row_then x (cmds_at s (at + 4)) (rows_at s (after_at s (at + 4)))
unfolding rows_at rows_n
rows_step s at x e =
    rows_fuel s (length s) (suc (length s)) at (omega arith) (omega arith)
    ∙ ap (λ (y : RowItem). row_then y (cmds_at s (at + 4)) (rows_n (length s) s (after_at s (at + 4)))) e

module _ (s : List ℕ) (i b : ℕ) where
  pub row_ends : row_at s i ≡ None → no_row ≡ row_for (rows_at s i) b
  unfolding row_for
  row_ends e = sym (ap (λ (l : List Row). row_for l b) (rows_step s i None e))

  module _ (lo hi next : ℕ) (e : row_at s i ≡ Some (lo, hi, next)) where
    opened : (t : Bool) → leb b hi ≡ t → row_for (rows_at s i) b
        ≡ pick t (record { lo = lo; hi = hi; next = next; cmds = cmds_at s (i + 4) }) (row_for (rows_at s (after_at s (i + 4))) b)
    unfolding row_for
    opened t h =
        ap (λ (l : List Row). row_for l b) (rows_step s i (Some (lo, hi, next)) e)
        ∙ ap (λ (x : Bool). pick x (record { lo = lo; hi = hi; next = next; cmds = cmds_at s (i + 4) }) (row_for (rows_at s (after_at s (i + 4))) b)) h

    pub row_here : b ≤ hi → record { lo = lo; hi = hi; next = next; cmds = cmds_at s (i + 4) } ≡ row_for (rows_at s i) b
    unfolding pick
    row_here l = sym (opened true (le-leb b hi l))

    pub row_later : hi < b → row_for (rows_at s (after_at s (i + 4))) b ≡ row_for (rows_at s i) b
    unfolding pick
    row_later l = sym (opened false (lt-leb b hi l))
