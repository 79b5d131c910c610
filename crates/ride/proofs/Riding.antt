-- A line's way over an image, byte by byte: what is left to tell before a byte is left to tell after it. Assumes nothing.
use Prim.Native.Nat.{ℕ, ◌+◌, ◌-◌, ◌*◌, ◌/◌, ◌%◌, ◌<◌, ◌≤◌}
use native.Mathlib.Omega.{arith}
use native.Mathlib.Numerals.{add-one}
use mathlib.Core.Path.{◌≡◌, refl, sym, ap, ap₂, ◌∙◌}
use mathlib.Core.Bool.{Bool, true, false}
use mathlib.Core.List.{List}
use mathlib.Core.Logic.{◌⊎◌, inl, inr}
use Rattle.std.specs.Prelude.{Some}
use lib.ListN.{length, get_or, set, take, drop, drop_of_length-le}
use lib.Seq.{get_or-take, get_or-drop, drop-cons}
use lib.IntN.{pos}
use lib.Dec.{leb}
use borrow.Author.Tests.{le-leb, lt-leb}
use Rattle.ground.specs.Pick.{pick}
use Rattle.ground.proofs.Tests.{lt_or_le}
use Rattle.card.specs.Table.{Cmd}
use Rattle.card.specs.Run.{Bank, Told, refused}
use Rattle.run.specs.Carry.{carry}
use Rattle.run.proofs.Cells.{regs_set_low, regs_set_high, regs_carry}
use Rattle.image.specs.Image.{next_of, kind_of, cell_of}
use Rattle.ride.specs.Ride.{orders, listless, astray, taking, rides_from}
use Rattle.ride.specs.Need.{Obeyed, regs, left, ended, row_of, Standing, Reached, Hopped}
use Rattle.ride.proofs.Ordered.{none_listed, none_ordered, one_ordered}
use Rattle.ride.proofs.Obeying.{ordered_low}

-- ---- an entry that leads on, or astray

module _ (s : List ℕ) (e : ℕ) where
  astray_is : (a b : Bool) → leb (get_or s 4 0) (next_of e) ≡ a → listless s e ≡ b → astray s e ≡ pick a true b
  unfolding astray
  astray_is a b h k = ap₂ (λ (x y : Bool). pick x true y) h k

  pub not_counted : get_or s 4 0 ≤ next_of e → astray s e ≡ true
  unfolding pick
  not_counted l = astray_is true (listless s e) (le-leb (get_or s 4 0) (next_of e) l) refl

  pub counted : (b : Bool) → next_of e < get_or s 4 0 → listless s e ≡ b → astray s e ≡ b
  unfolding pick
  counted b l k = astray_is false b (lt-leb (get_or s 4 0) (next_of e) l) k

-- ---- rows

-- a byte's column: what is left of the image from the byte's entry in the first row on
abbrev pub column : (image : List ℕ) (b : ℕ) → List ℕ
column image b = take (length image - b) (drop b image)

module _ {image : List ℕ} {limit row : ℕ} (st : Standing image limit row) where
  pub in_image : (b : ℕ) → b < 256 → row + b < length image
  in_image b h = omega (arith, st.room, st.rows, st.begins, st.inside)

  pub column_at : (b : ℕ) → b < 256 → get_or (column image b) row 0 ≡ get_or image (row + b) 0
  column_at b h =
      let i = in_image b h in
      get_or-take (length image - b) (drop b image) row 0 (omega arith) ∙ get_or-drop b image row 0
      ∙ ap (λ (n : ℕ). get_or image n 0) (let n : b + row ≡ row + b = omega arith in n)

  -- the next row, where it changed and where it was kept
  abbrev pub Went : (e there : ℕ) → Type 0
  Went e there = (there ≡ row_of e) × (there < limit)

  pub went_on : (e : ℕ) {there : ℕ} → row_of e < limit → there ≡ row_of e → Went e there
  went_on e l h = (h, omega arith)

  pub went_round : (e : ℕ) {there : ℕ} → row_of e ≡ row → there ≡ row → Went e there
  went_round e k h = (h ∙ sym k, omega (arith, st.inside))

  pub stands_at : (e : ℕ) {there : ℕ} → there ≡ row_of e → there < limit → Standing image limit there
  stands_at e h l = record {
    room = st.room;
    rows = st.rows;
    begins = omega arith;
    inside = l;
    small = omega arith;
  }

-- ---- one byte

module _ (s image w : List ℕ) (bank : Bank) {limit row i b : ℕ} (e : ℕ) (c : limit ≡ 256 * get_or s 4 0) (st : Standing image limit row) (l : i < length w) (hb : b ≡ get_or w i 0) (he : e ≡ get_or image (row + b) 0) where
  abbrev onward : (j : ℕ) → ℕ → Bank → Told
  onward j n new = rides_from s image n new j (drop j w)

  begins : row ≡ 256 * (row / 256)
  begins = omega (arith, st.begins)

  byte : taking s e (regs bank) (i + 1) (onward (i + 1)) ≡ left s image row bank i w
  unfolding rides_from
  byte =
      ap (λ (k : ℕ). taking s k (regs bank) (i + 1) (onward (i + 1)))
      (he ∙ ap₂ (λ (m n : ℕ). get_or image (m + n) 0) begins hb)
      ∙ ap (λ (j : ℕ). taking s (get_or image (256 * (row / 256) + get_or w i 0) 0) (regs bank) j (onward j)) (add-one i)
      ∙ sym (ap (rides_from s image (row / 256) (regs bank) i) (drop-cons w i 0 l))

  taken : (t : Bool) → astray s e ≡ t
      → pick t (refused 13) (onward (i + 1) (next_of e) (carry (orders s e) (i + 1) (regs bank) (regs bank))) ≡ left s image row bank i w
  taken t h =
      sym (ap (λ (x : Bool). pick x (refused 13) (onward (i + 1) (next_of e) (carry (orders s e) (i + 1) (regs bank) (regs bank)))) h)
      ∙ byte

  pub byte_astray : limit ≤ row_of e → refused 13 ≡ left s image row bank i w
  unfolding pick
  byte_astray h = taken true (not_counted s e (omega (arith, c)))

  module _ {there : ℕ} (ht : there ≡ row_of e) (inside : there < limit) where
    few : next_of e < get_or s 4 0
    few = omega (arith, c)

    pub byte_past : listless s e ≡ true → refused 13 ≡ left s image row bank i w
    unfolding pick
    byte_past h = taken true (counted s e true few h)

    pub byte_on : listless s e ≡ false → (new : Bank) → regs new ≡ carry (orders s e) (i + 1) (regs bank) (regs bank)
        → left s image there new (i + 1) w ≡ left s image row bank i w
    unfolding pick
    byte_on h new k =
        ap₂ (onward (i + 1)) (let n : there / 256 ≡ next_of e = omega arith in n) k
        ∙ taken false (counted s e false few h)

    -- of kind 0: one store
    module _ (k : e < 1073741824) where
      kind : kind_of e ≡ 0
      kind = omega arith

      stored : (cell_of e < 64) ⊎ (64 ≤ cell_of e) → regs (set bank (e % 128) (pos (i + 1))) ≡ carry (orders s e) (i + 1) (regs bank) (regs bank)
      unfolding carry
      stored (inl h) =
          regs_set_low bank (cell_of e) (pos (i + 1)) h
          ∙ sym (ap (λ (x : List Cmd). carry x (i + 1) (regs bank) (regs bank)) (one_ordered s e kind h))
      stored (inr h) =
          regs_set_high bank (cell_of e) (pos (i + 1)) h
          ∙ sym (ap (λ (x : List Cmd). carry x (i + 1) (regs bank) (regs bank)) (none_ordered s e kind h))

      pub byte_one : {new : Bank} → new ≡ set bank (e % 128) (pos (i + 1)) → left s image there new (i + 1) w ≡ left s image row bank i w
      byte_one {new} h = byte_on (none_listed s e kind) new (ap regs h ∙ stored (lt_or_le (cell_of e) 64))

    module _ {new : Bank} {t : Bool} (o : Obeyed s e (i + 1) bank new t) where
      pub byte_missed : t ≡ false → refused 13 ≡ left s image row bank i w
      byte_missed f = byte_past (o.past f)

      pub byte_obeyed : t ≡ true → left s image there new (i + 1) w ≡ left s image row bank i w
      byte_obeyed f =
          byte_on (o.done f).0 new
          (ap regs (o.done f).1 ∙ regs_carry (orders s e) (ordered_low s e (o.done f).0) (i + 1) bank bank)

  -- an entry that stays without commands
  pub byte_stay : e ≡ row + 64 → left s image row bank (i + 1) w ≡ left s image row bank i w
  unfolding carry
  byte_stay h =
      byte_on (let n : row ≡ row_of e = omega (arith, st.begins, st.small) in n) st.inside (none_listed s e kind) bank
      (sym (ap (λ (x : List Cmd). carry x (i + 1) (regs bank) (regs bank)) (none_ordered s e kind (omega (arith, st.begins)))))
    where
      kind : kind_of e ≡ 0
      kind = omega (arith, st.small)

-- ---- the end of a line

pub line_ends : (s image : List ℕ) (row : ℕ) (bank : Bank) (w : List ℕ) (i : ℕ) → length w ≤ i → ended s image (Some row) bank ≡ left s image row bank i w
unfolding rides_from
line_ends s image row bank w i l = sym (ap (rides_from s image (row / 256) (regs bank) i) (drop_of_length-le w l))

-- ---- as far as a line glides

module _ {image w : List ℕ} {limit p first : ℕ} {old : Bank} where
  pub reached_none : Standing image limit first → p ≤ length w → Reached image w limit p first old p first old
  reached_none st h = record { standing = st; within = h; same = λ s c. refl }

  module _ {i row : ℕ} {bank : Bank} (r : Reached image w limit p first old i row bank) where
    pub reached_on : {j there : ℕ} {new : Bank} → Reached image w limit i row bank j there new → Reached image w limit p first old j there new
    reached_on g = record { standing = g.standing; within = g.within; same = λ s c. g.same s c ∙ r.same s c }

    module _ {b : ℕ} (e : ℕ) (l : i < length w) (hb : b ≡ get_or w i 0) (he : e ≡ get_or image (row + b) 0) where
      pub reached_stay : e ≡ row + 64 → Reached image w limit p first old (i + 1) row bank
      reached_stay h = record {
        standing = r.standing;
        within = omega arith;
        same = λ s c. byte_stay s image w bank e c r.standing l hb he h ∙ r.same s c;
      }

      pub reached_one : {there : ℕ} → there ≡ row_of e → there < limit → e < 1073741824 → {new : Bank} → new ≡ set bank (e % 128) (pos (i + 1))
          → Reached image w limit p first old (i + 1) there new
      reached_one ht inside k h = record {
        standing = stands_at r.standing e ht inside;
        within = omega arith;
        same = λ s c. byte_one s image w bank e c r.standing l hb he ht inside k h ∙ r.same s c;
      }

    hopped : {there : ℕ} {new : Bank} (e : ℕ) {b : ℕ} → i < length w → b ≡ get_or w i 0 → e ≡ get_or image (row + b) 0
        → Hopped e limit row (i + 1) bank new (Some there) → Reached image w limit p first old (i + 1) there new
    hopped e l hb he (inl h) = rw (h.1, h.2) (reached_stay e l hb he h.0)
    hopped e l hb he (inr h) = reached_one e l hb he h.2 (rw h.2 h.1) h.0 h.3

    -- the entry of a byte's column taken
    pub reached_hop : {b there : ℕ} {new : Bank} → i < length w → b ≡ get_or w i 0 → b < 256
        → Hopped (get_or (column image b) row 0) limit row (i + 1) bank new (Some there) → Reached image w limit p first old (i + 1) there new
    reached_hop {b} l hb k h = hopped (get_or (column image b) row 0) l hb (column_at r.standing b k) h

-- ---- as far as a line rides over one table's image

pub record Going (s image w : List ℕ) (limit p first : ℕ) (old : Bank) (i row : ℕ) (bank : Bank) : Type 0 where
  pub standing : Standing image limit row
  pub within : i ≤ length w
  pub same : left s image row bank i w ≡ left s image first old p w

module _ {s image w : List ℕ} {limit p first : ℕ} {old : Bank} (c : limit ≡ 256 * get_or s 4 0) where
  pub going_none : Standing image limit first → p ≤ length w → Going s image w limit p first old p first old
  going_none st h = record { standing = st; within = h; same = refl }

  module _ {i row : ℕ} {bank : Bank} (g : Going s image w limit p first old i row bank) where
    pub going_ends : length w ≤ i → ended s image (Some row) bank ≡ left s image first old p w
    going_ends l = line_ends s image row bank w i l ∙ g.same

    module _ {b : ℕ} (e : ℕ) (l : i < length w) (hb : b ≡ get_or w i 0) (he : e ≡ get_or image (row + b) 0) where
      pub going_stay : e ≡ row + 64 → Going s image w limit p first old (i + 1) row bank
      going_stay h = record {
        standing = g.standing;
        within = omega arith;
        same = byte_stay s image w bank e c g.standing l hb he h ∙ g.same;
      }

      pub going_astray : limit ≤ row_of e → refused 13 ≡ left s image first old p w
      going_astray h = byte_astray s image w bank e c g.standing l hb he h ∙ g.same

      module _ {there : ℕ} (t : (there ≡ row_of e) × (there < limit)) where
        pub going_one : e < 1073741824 → {new : Bank} → new ≡ set bank (e % 128) (pos (i + 1)) → Going s image w limit p first old (i + 1) there new
        going_one k h = record {
          standing = stands_at g.standing e t.0 t.1;
          within = omega arith;
          same = byte_one s image w bank e c g.standing l hb he t.0 t.1 k h ∙ g.same;
        }

        module _ {new : Bank} {r : Bool} (o : Obeyed s e (i + 1) bank new r) where
          pub going_obeyed : r ≡ true → Going s image w limit p first old (i + 1) there new
          going_obeyed f = record {
            standing = stands_at g.standing e t.0 t.1;
            within = omega arith;
            same = byte_obeyed s image w bank e c g.standing l hb he t.0 t.1 o f ∙ g.same;
          }

          pub going_missed : r ≡ false → refused 13 ≡ left s image first old p w
          going_missed f = byte_missed s image w bank e c g.standing l hb he t.0 t.1 o f ∙ g.same
