-- Laws of the rows' end and of the situations' places. Assumes nothing.
use Prim.Native.Nat.{ℕ, zero, suc, ◌+◌, ◌*◌, ◌<◌, ◌≤◌, min}
use native.Mathlib.Omega.{arith}
use native.Mathlib.Numerals.{add-one}
use mathlib.Core.Path.{◌≡◌, refl, sym, ap, ◌∙◌}
use mathlib.Core.List.{List, [], ◌∷◌, ◌++◌, append-nil}
use lib.ListN.{length, get_or, take, drop, set, get_or-append, length-take, drop_of_length-le}
use lib.Seq.{drop-cons, set_at}
use Rattle.card.specs.Table.{Sit}
use Rattle.card.specs.Run.{sit, no_sit}
use Rattle.card.specs.declared.Order.{Order}
use Rattle.card.specs.declared.Order.TheVariants.{Move, Put, Stop}
use Rattle.card.specs.Decode.{RowItem}
use Rattle.std.specs.Prelude.{Some, None}
use Rattle.card.specs.Decode.{cmd_at, past, after_n, after_at, row_at, past_row, after_rows_n, after_rows, sit_at, sits_from, places_from, table_at, places_of}
use Rattle.card.specs.Places.{noted}
use Rattle.card.proofs.Laws.{move_facts, put_facts}
use Rattle.card.proofs.Rows.{after_ge, no_line, row_whole}

-- ---- the place after the rows

rows_fuel : (s : List ℕ) (n m at : ℕ) → length s ≤ at + n → length s ≤ at + m → after_rows_n n s at ≡ after_rows_n m s at
unfolding after_rows_n after_at
rows_fuel s zero zero at a b = refl
rows_fuel s zero (suc m) at a b = sym (ap (λ (x : RowItem). past_row x at (after_rows_n m s (after_at s (at + 4)))) (no_line s at (omega arith)))
rows_fuel s (suc n) zero at a b = ap (λ (x : RowItem). past_row x at (after_rows_n n s (after_at s (at + 4)))) (no_line s at (omega arith))
rows_fuel s (suc n) (suc m) at a b =
    let g : at + 4 ≤ after_at s (at + 4) = after_ge s (length s) (at + 4) in
    ap (past_row (row_at s at) at) (rows_fuel s n m (after_at s (at + 4)) (omega arith) (omega arith))

pub after_rows_step : (s : List ℕ) (at : ℕ) (x : RowItem) → row_at s at ≡ x → after_rows s at ≡ past_row x at (after_rows s (after_at s (at + 4)))
unfolding after_rows after_rows_n
after_rows_step s at x e =
    rows_fuel s (length s) (suc (length s)) at (omega arith) (omega arith)
    ∙ ap (λ (y : RowItem). past_row y at (after_rows_n (length s) s (after_at s (at + 4)))) e

-- ---- commands and rows end within the file, or where they began

module _ (s : List ℕ) (top : ℕ) (l : length s ≤ top) where
  past_most : (o : Order) (at : ℕ) (f : ℕ → ℕ) → cmd_at s at ≡ o → at ≤ top → ((d : ℕ) → at + d ≤ top → f d ≤ top) → past o at f ≤ top
  past_most (Move t g) at f e a h = let m = move_facts s at t g e in h 3 (omega arith)
  past_most (Put t) at f e a h = let m = put_facts s at t e in h 2 (omega arith)
  past_most Stop at f e a h = a

  after_n_most : (n at : ℕ) → at ≤ top → after_n n s at ≤ top
  unfolding after_n
  after_n_most zero at a = a
  after_n_most (suc n) at a = past_most (cmd_at s at) at _ refl a (λ d b. after_n_most n (at + d) b)

  pub after_most : (at : ℕ) → at ≤ top → after_at s at ≤ top
  unfolding after_at
  after_most at a = after_n_most (length s) at a

  rows_most : (x : RowItem) (at m : ℕ) → row_at s at ≡ x → at ≤ top → (at + 4 ≤ top → m ≤ top) → past_row x at m ≤ top
  rows_most (Some (lo, hi, next)) at m e a h = let w = row_whole s at lo hi next e in h (omega arith)
  rows_most None at m e a h = a

  after_rows_n_most : (n at : ℕ) → at ≤ top → after_rows_n n s at ≤ top
  unfolding after_rows_n
  after_rows_n_most zero at a = a
  after_rows_n_most (suc n) at a = rows_most (row_at s at) at _ refl a (λ b. after_rows_n_most n (after_at s (at + 4)) (after_most (at + 4) b))

  pub after_rows_most : (at : ℕ) → at ≤ top → after_rows s at ≤ top
  unfolding after_rows
  after_rows_most at a = after_rows_n_most (length s) at a

-- ---- the places, one after the other

-- the place of the situation after n others
pub place_after : List ℕ → ℕ → ℕ → ℕ
place_after s zero at = at
place_after s (suc n) at = place_after s n (after_rows s (at + 10))

pub place_first : (s : List ℕ) (at : ℕ) → place_after s 0 at ≡ at
unfolding place_after
place_first s at = refl

pub place_later : (s : List ℕ) (n at : ℕ) → place_after s (suc n) at ≡ after_rows s (place_after s n at + 10)
unfolding place_after
place_later s zero at = refl
place_later s (suc n) at = place_later s n (after_rows s (at + 10))

pub places_length : (n : ℕ) (s : List ℕ) (at : ℕ) → length (places_from n s at) ≡ n
unfolding places_from
places_length zero s at = refl
places_length (suc n) s at = ap suc (places_length n s (after_rows s (at + 10)))

pub places_snoc : (n : ℕ) (s : List ℕ) (at : ℕ) → places_from (suc n) s at ≡ places_from n s at ++ (place_after s n at ∷ [])
unfolding places_from place_after
places_snoc zero s at = refl
places_snoc (suc n) s at = ap (λ (l : List ℕ). at ∷ l) (places_snoc n s (after_rows s (at + 10)))

pub place_is : (n : ℕ) (s : List ℕ) (at q : ℕ) → q < n → get_or (places_from n s at) q 0 ≡ place_after s q at
unfolding places_from place_after
place_is zero s at q l = absurd (omega arith)
place_is (suc n) s at zero l = refl
place_is (suc n) s at (suc q) l = place_is n s (after_rows s (at + 10)) q (omega arith)

-- the situation at each place
pub sit_is : (n : ℕ) (s : List ℕ) (at q : ℕ) (none : Sit) → q < n → get_or (sits_from n s at) q none ≡ sit_at s (get_or (places_from n s at) q 0)
unfolding sits_from places_from
sit_is zero s at q none l = absurd (omega arith)
sit_is (suc n) s at zero none l = refl
sit_is (suc n) s at (suc q) none l = sit_is n s (after_rows s (at + 10)) q none (omega arith)

pub sits_length : (n : ℕ) (s : List ℕ) (at : ℕ) → length (sits_from n s at) ≡ n
unfolding sits_from
sits_length zero s at = refl
sits_length (suc n) s at = ap suc (sits_length n s (after_rows s (at + 10)))

-- a situation of the table that a file reads as stands at its place
pub table_sit : (s : List ℕ) (q : ℕ) → q < get_or s 4 0 → sit (table_at s) q ≡ sit_at s (get_or (places_of s) q 0)
unfolding table_at places_of
table_sit s q l = sit_is (get_or s 4 0) s (after_at s 5) q no_sit l

-- one more is noted
append_one : (p : List ℕ) (a : ℕ) (q : List ℕ) → (p ++ (a ∷ [])) ++ q ≡ p ++ (a ∷ q)
append_one [] a q = refl
append_one (x ∷ p) a q = ap (λ (l : List ℕ). x ∷ l) (append_one p a q)

pub note : (s old : List ℕ) (at k : ℕ) → k < length old
    → set (places_from k s at ++ drop k old) k (place_after s k at) ≡ places_from (k + 1) s at ++ drop (k + 1) old
note s old at k l =
    ap (λ (q : List ℕ). set (places_from k s at ++ q) k (place_after s k at)) (drop-cons old k 0 l)
    ∙ set_at (places_from k s at) (get_or old k 0) (drop (suc k) old) (place_after s k at) k (places_length k s at)
    ∙ sym (append_one (places_from k s at) (place_after s k at) (drop (suc k) old))
    ∙ ap (λ (p : List ℕ). p ++ drop (suc k) old) (sym (places_snoc k s at))
    ∙ ap (λ (n : ℕ). places_from n s at ++ drop n old) (sym (add-one k))

-- what an array of noted places says of a situation that the HEAD counts
pub noted_at : (old s : List ℕ) (q : ℕ) → q < get_or s 4 0 → q < length old → get_or (noted old s) q 0 ≡ get_or (places_of s) q 0
unfolding noted places_of
noted_at old s q l m =
    let n = min (length old) (get_or s 4 0) in
    get_or-append (places_from n s (after_at s 5)) (drop n old) 0 q (let e = places_length n s (after_at s 5) in omega arith)
    ∙ place_is n s (after_at s 5) q (omega arith)
    ∙ sym (place_is (get_or s 4 0) s (after_at s 5) q l)

-- ---- the array while it is filled: the first k places stand in it, and p is the next

pub record Noting (s old cur : List ℕ) (p k : ℕ) : Type 0 where
  pub is : cur ≡ places_from k s (after_at s 5) ++ drop k old
  pub place : p ≡ place_after s k (after_at s 5)
  pub most : p ≤ length s + 5 + 10 * k

module _ {s old : List ℕ} where
  pub noting_begins : (p : ℕ) → p ≡ after_at s 5 → Noting s old old p 0
  unfolding places_from
  noting_begins p e =
      record {
        is = refl;
        place = e ∙ sym (place_first s (after_at s 5));
        most = let m = after_most s (length s + 5) (omega arith) 5 (omega arith) in omega arith;
      }

  module _ {cur : List ℕ} {p k : ℕ} (f : Noting s old cur p k) where
    pub noting_on : k < length old → (q : ℕ) → q ≡ after_rows s (p + 10) → Noting s old (set cur k p) q (k + 1)
    noting_on m q e =
        record {
          is = ap (λ (c : List ℕ). set c k p) f.is ∙ ap (set (places_from k s (after_at s 5) ++ drop k old) k) f.place ∙ note s old (after_at s 5) k m;
          place =
              e ∙ ap (λ (x : ℕ). after_rows s (x + 10)) f.place ∙ sym (place_later s k (after_at s 5))
              ∙ ap (λ (m : ℕ). place_after s m (after_at s 5)) (sym (add-one k));
          most = let m = after_rows_most s (length s + 5 + 10 * (k + 1)) (omega arith) (p + 10) (omega (arith, f.most)) in omega arith;
        }

-- the front of an array is filled, and what lies past it stayed
pub noting_ends : {s cur : List ℕ} {p k : ℕ} (all : List ℕ) (n : ℕ) → Noting s (take n all) cur p k → length (take n all) ≤ k → k ≤ length (take n all)
    → n ≡ min (length all) (get_or s 4 0) → cur ++ drop n all ≡ noted all s
unfolding noted
noting_ends {s} {cur} {p} {k} all n f l m e =
    let h : k ≡ n = omega (arith, length-take n all) in
    ap (λ (c : List ℕ). c ++ drop n all) (f.is ∙ ap (λ (r : List ℕ). places_from k s (after_at s 5) ++ r) (drop_of_length-le (take n all) l) ∙ append-nil _)
    ∙ ap (λ (m : ℕ). places_from m s (after_at s 5) ++ drop n all) h
    ∙ ap (λ (m : ℕ). places_from m s (after_at s 5) ++ drop m all) e
