-- The rows at a place, one after the other: those passed and those to come; and the fields at a place. Assumes nothing.
use Prim.Native.Nat.{ℕ, ◌+◌, ◌^◌, ◌<◌}
use native.Mathlib.Omega.{arith}
use mathlib.Core.Path.{◌≡◌, refl, sym, ◌∙◌, subst}
use mathlib.Core.Logic.{◌⊎◌, inl, inr, ⊎_elim}
use mathlib.Core.Bool.{Bool, true, false, ◌&&◌, ◌||◌}
use borrow.Author.Tests.{ltb-true, eqb-true, lt-ltb, eq-eqb}
use Rattle.ground.proofs.Tests.{true_false, both_yes}
use mathlib.Core.List.{List, [], ◌∷◌}
use lib.Bits.{bit_and}
use Rattle.card.specs.Table.{Cmd, Row}
use Rattle.card.specs.Run.{In, hd, tl}
use Rattle.card.specs.Decode.{cmds_at, after_at, row_at, rows_at}
use Rattle.std.specs.Prelude.{Some, None}
use Rattle.card.proofs.Rows.{rows_step}
use lib.Dec.{ltb, eqb}
use Rattle.std.specs.List.{list_any}
use Rattle.loader.specs.Flow.{Says, Reads, asked, RowAsks}
use Rattle.ground.specs.Bits.{bit_of}
use Rattle.ground.proofs.Masks.{not_both, bit_in, zero_bit, and_bits, and_bit}
use Rattle.loader.proofs.Sets.{asked_reads, reads_asked}
use Rattle.loader.proofs.Shape.{not_in}

-- ---- rows

abbrev pub row_of : List ℕ → (i lo hi next : ℕ) → Row
row_of s i lo hi next = record { lo = lo; hi = hi; next = next; cmds = cmds_at s (i + 4) }

-- the rows at i are among those at `at`
abbrev pub Back : List ℕ → ℕ → ℕ → Type 0
Back s at i = (x : Row) → In x (rows_at s i) → In x (rows_at s at)

-- of the rows at `at`, each is still to come at i, or P holds of it
abbrev pub Done : List ℕ → ℕ → ℕ → (Row → Type 0) → Type 0
Done s at i P = (x : Row) → In x (rows_at s at) → In x (rows_at s i) ⊎ P x

in_cons : {A : Type 0} {x y : A} {l : List A} → In x (y ∷ l) → (y ≡ x) ⊎ In x l
in_cons hd = inl refl
in_cons (tl i) = inr i

module _ (s : List ℕ) (at i : ℕ) where
  module _ {lo hi next : ℕ} (e : row_at s i ≡ Some (lo, hi, next)) where
    step_in : {x : Row} → In x (rows_at s i) → (row_of s i lo hi next ≡ x) ⊎ In x (rows_at s (after_at s (i + 4)))
    step_in {x} j = in_cons (subst (λ (l : List Row). In x l) (rows_step s i (Some (lo, hi, next)) e) j)

    in_step : {x : Row} → In x (row_of s i lo hi next ∷ rows_at s (after_at s (i + 4))) → In x (rows_at s i)
    in_step {x} j = subst (λ (l : List Row). In x l) (sym (rows_step s i (Some (lo, hi, next)) e)) j

    pub row_in : Back s at i → In (row_of s i lo hi next) (rows_at s at)
    row_in b = b (row_of s i lo hi next) (in_step hd)

    pub back_next : (j : ℕ) → j ≡ after_at s (i + 4) → Back s at i → Back s at j
    back_next j a b x k = b x (in_step (tl (subst (λ (n : ℕ). In x (rows_at s n)) a k)))

    pub done_next : {P : Row → Type 0} (j : ℕ) → j ≡ after_at s (i + 4) → Done s at i P → P (row_of s i lo hi next) → Done s at j P
    done_next {P} j a d p x k = by (d x k)
      where
        by : In x (rows_at s i) ⊎ P x → In x (rows_at s j) ⊎ P x
        by (inr h) = inr h
        by (inl h) =
            ⊎_elim (λ (y : row_of s i lo hi next ≡ x). inr (subst P y p)) (λ (y : In x (rows_at s (after_at s (i + 4)))). inl (subst (λ (n : ℕ). In x (rows_at s n)) (sym a) y)) (step_in h)

  pub all_done : row_at s i ≡ None → {P : Row → Type 0} → Done s at i P → (x : Row) → In x (rows_at s at) → P x
  all_done e {P} d x k =
      ⊎_elim (λ (h : In x (rows_at s i)). absurd (not_in (subst (λ (l : List Row). In x l) (rows_step s i None e) h))) (λ (h : P x). h) (d x k)

-- ---- the sources of a row

abbrev pub Unasked : ℕ → Row → Type 0
Unasked m x = (r : ℕ) → bit_of m r ≡ 1 → Reads r x.cmds → ⊥

module _ (m : ℕ) (l : List Cmd) (a : ℕ) (e : a ≡ asked 0 l) where
  pub asks_none : bit_and a m ≡ 0 → (r : ℕ) → bit_of m r ≡ 1 → Reads r l → ⊥
  asks_none z r b d =
      not_both 0 r (zero_bit r)
      (subst (λ (k : ℕ). bit_of k r ≡ 1) z (and_bit a m r (subst (λ (k : ℕ). bit_of k r ≡ 1) (sym e) (reads_asked l 0 r d)) b))

  pub asks_one : a < 2 ^ 64 → m < 2 ^ 64 → (bit_and a m ≡ 0 → ⊥) → (r : ℕ) × ((bit_of m r ≡ 1) × Reads r l)
  asks_one la lm n =
      let b = and_bits a m la lm n in (
        b.0,
        (
          b.1.1,
          ⊎_elim (λ (h : bit_of 0 b.0 ≡ 1). absurd (not_both 0 b.0 (zero_bit b.0) h)) (λ (h : Reads b.0 l). h)
              (asked_reads l 0 b.0 (subst (λ (k : ℕ). bit_of k b.0 ≡ 1) e b.1.0)),
        ),
      )

pub no_asks : (s : List ℕ) (at m i : ℕ) → row_at s i ≡ None → Done s at i (Unasked m) → RowAsks s at m → ⊥
no_asks s at m i e d a = all_done s at i e d a.0 a.1.0 a.1.1.0 a.1.1.1.0 a.1.1.1.1

-- ---- the fields

-- some field reads a register of the set
abbrev pub FieldIn : ℕ → List ℕ → Type 0
FieldIn m fs = (r : ℕ) × (In r fs × ((r ≡ 255 → ⊥) × (bit_of m r ≡ 1)))

abbrev pub reads_of : (m f : ℕ) → Bool
reads_of m f = ltb f 64 && eqb (bit_of m f) 1

module _ (m : ℕ) (l : m < 2 ^ 64) where
  read_yes : (x : ℕ) → reads_of m x ≡ true → (x ≡ 255 → ⊥) × (bit_of m x ≡ 1)
  read_yes x e =
      let b = both_yes (ltb x 64) (eqb (bit_of m x) 1) e in
      let h = ltb-true x 64 b.0 in
      ((λ z. omega arith), eqb-true _ _ b.1)

  read_no : (x : ℕ) → reads_of m x ≡ false → bit_of m x ≡ 1 → ⊥
  read_no x e b = let h = lt-ltb x 64 (bit_in 64 m x l b) in let g = eq-eqb (bit_of m x) 1 b in true_false (sym (simp (h, g)) ∙ e)

  say_more : (x : ℕ) (fs : List ℕ) → (bit_of m x ≡ 1 → ⊥) → (b : Bool) → Says (FieldIn m fs) b → Says (FieldIn m (x ∷ fs)) b
  say_more x fs n true a = (a.0, (tl a.1.0, a.1.1))
  say_more x fs n false f =
      λ a. ⊎_elim (λ (h : x ≡ a.0). n (rw h a.1.1.1)) (λ (h : In a.0 fs). f (a.0, (h, a.1.1))) (in_cons a.1.0)

  say_first : (x : ℕ) (fs : List ℕ) (t b : Bool) → reads_of m x ≡ t → Says (FieldIn m fs) b → Says (FieldIn m (x ∷ fs)) (t || b)
  say_first x fs true b e s = (x, (hd, read_yes x e))
  say_first x fs false b e s = say_more x fs (read_no x e) b s

  -- what a search of the fields finds
  pub fields_say : (fs : List ℕ) → Says (FieldIn m fs) (list_any (reads_of m) fs)
  fields_say [] = λ a. not_in a.1.0
  fields_say (x ∷ fs) = say_first x fs (reads_of m x) _ refl (fields_say fs)
