-- A formed table: its situations' rows have one for each byte, and each is some byte's. Assumes nothing.
use Prim.Native.Nat.{ℕ, zero, suc, ◌<◌, ◌≤◌}
use native.Mathlib.Omega.{arith}
use native.Mathlib.Decide.{dec_lt}
use mathlib.Core.Path.{◌≡◌, refl, ap, ◌∙◌}
use mathlib.Core.Bool.{Bool, true, false}
use mathlib.Core.Logic.{◌⊎◌, inl, inr}
use mathlib.Core.List.{List, [], ◌∷◌}
use lib.ListN.{length, get_or, get_or-eq_default}
use lib.Dec.{leb}
use borrow.Author.Tests.{le-leb, lt-leb, leb-false}
use Rattle.ground.specs.Pick.{pick}
use Rattle.card.specs.Table.{Row, Sit, Table, Rising, Upward, FormedSit, FormedSits, Formed}
use Rattle.card.specs.Run.{In, hd, tl, sit, no_sit, row_for, row_in}

-- ---- the rows of one situation

module _ (R N : ℕ) where
  pub rows_lead : (lo : ℕ) (l : List Row) → Upward R N lo l → (x : Row) → In x l → x.next < N
  rows_lead lo [] u x i = elim i [ ]
  rows_lead lo (r ∷ l) u x hd = u.3
  rows_lead lo (r ∷ l) u x (tl i) = rows_lead (suc r.hi) l u.5 x i

  pub rows_rise : (lo : ℕ) (l : List Row) → Upward R N lo l → (x : Row) → In x l → Rising R 0 x.cmds
  rows_rise lo [] u x i = elim i [ ]
  rows_rise lo (r ∷ l) u x hd = u.4
  rows_rise lo (r ∷ l) u x (tl i) = rows_rise (suc r.hi) l u.5 x i

  -- each row is its last byte's
  pub row_byte : (lo : ℕ) (l : List Row) → Upward R N lo l → (x : Row) → In x l → (lo ≤ x.hi) × (x.hi ≤ 255) × (row_for l x.hi ≡ x)
  unfolding row_for pick
  row_byte lo [] u x i = elim i [ ]
  row_byte lo (r ∷ l) u x hd = (
    omega arith,
    u.2,
    ap (λ (b : Bool). pick b x (row_for l x.hi)) (le-leb x.hi x.hi (omega arith)),
  )
  row_byte lo (r ∷ l) u x (tl i) =
      let k = row_byte (suc r.hi) l u.5 x i in (
        omega arith,
        k.1,
        ap (λ (b : Bool). pick b r (row_for l x.hi)) (lt-leb x.hi r.hi (omega arith)) ∙ k.2,
      )

  one_of : (r : Row) (l : List Row) (x : Row) (t : Bool) → (t ≡ false → In x l) → In (pick t r x) (r ∷ l)
  unfolding pick
  one_of r l x true f = hd
  one_of r l x false f = tl (f refl)

  -- each byte has a row
  pub byte_row : (lo : ℕ) (l : List Row) → Upward R N lo l → (b : ℕ) → b < 256 → lo ≤ b → In (row_for l b) l
  unfolding row_for
  byte_row lo [] u b h g = absurd (omega arith)
  byte_row lo (r ∷ l) u b h g = one_of r l (row_for l b) (leb b r.hi) (λ e. byte_row (suc r.hi) l u.5 b h (leb-false b r.hi e))

-- ---- the situations

sit_formed : (t R N : ℕ) (l : List Sit) → FormedSits t R N l → (q : ℕ) → q < length l → FormedSit t R N (get_or l q no_sit)
sit_formed t R N [] f q h = absurd (omega arith)
sit_formed t R N (s ∷ l) f zero h = f.0
sit_formed t R N (s ∷ l) f (suc q) h = sit_formed t R N l f.1 q (omega arith)

pub not_in : {A : Type 0} {x : A} → In x [] → ⊥
not_in = elim [ ]

module _ (T : Table) (formed : Formed T) where
  pub in_table : (q : ℕ) → q < length T.sits → FormedSit T.tags T.registers (length T.sits) (sit T q)
  in_table q h = sit_formed T.tags T.registers (length T.sits) T.sits formed.sits q h

  -- where there is a row or a field, there is a situation
  pub sit_of : (q : ℕ) → (q < length T.sits) ⊎ (sit T q ≡ no_sit)
  sit_of q = by (dec_lt q (length T.sits))
    where
      by : Dec (q < length T.sits) → (q < length T.sits) ⊎ (sit T q ≡ no_sit)
      by (yes h) = inl h
      by (no h) = inr (get_or-eq_default T.sits no_sit (omega arith))

  pub leads_in : (q b : ℕ) → q < length T.sits → b < 256 → In (row_in T q b) (sit T q).rows
  leads_in q b h l = byte_row T.registers (length T.sits) 0 (sit T q).rows (in_table q h).rows b l (omega arith)

  pub next_in : (q : ℕ) (x : Row) → q < length T.sits → In x (sit T q).rows → x.next < length T.sits
  next_in q x h i = rows_lead T.registers (length T.sits) 0 (sit T q).rows (in_table q h).rows x i
