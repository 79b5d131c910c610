-- An image written entry by entry, situation by situation; it is settled by what it says. Assumes nothing.
use Prim.Native.Nat.{ℕ, ◌+◌, ◌-◌, ◌*◌, ◌/◌, ◌%◌, ◌<◌, ◌≤◌}
use native.Mathlib.Omega.{arith}
use native.Mathlib.Decide.{ℕ_discrete}
use mathlib.Core.Path.{◌≡◌, refl, sym, ap, ◌∙◌, subst}
use mathlib.Core.Logic.{◌⊎◌, inl, inr}
use mathlib.Core.List.{List}
use lib.ListN.{length, get_or, set, length-set}
use lib.Seq.{get_or-set_same, get_or-set_other, ext_get_or}
use Rattle.card.specs.Decode.{places_of}
use Rattle.ground.proofs.Tests.{lt_or_le}
use Rattle.image.specs.Image.{spot_at, entry_at, Imaged}
use Rattle.image.specs.Need.{RowImaged, Mountable}
use borrow.Author.Count.{below_more}
use borrow.Author.Rules.{rules}
use borrow.Rule.Slice.PartMut.{put_mid}
use Rattle.std.proofs.lemmas.List.{places}
use Rattle.image.proofs.Spots.{spot_on}

-- ---- one situation

-- b entries are written, the later ones may be looked for from i on, and v is the entry there
pub record Filling (s : List ℕ) (at : ℕ) (row : List ℕ) (i v b : ℕ) : Type 0 where
  pub held : v ≡ entry_at s i
  pub done : (d : ℕ) → d < b → get_or row d 0 ≡ entry_at s (spot_at s at d)
  pub ahead : (d : ℕ) → b ≤ d → spot_at s i d ≡ spot_at s at d

pub filling_next : {s row : List ℕ} {at i u b : ℕ} → Filling s at row i u b → b < length row → (j v : ℕ) → j ≡ spot_at s i b → v ≡ entry_at s j
    → Filling s at (set row b v) j v (b + 1)
filling_next {s} {row} {at} {i} {u} {b} g l j v hj hv = record {
  held = hv;
  done = below_more _ _ (λ d h. get_or-set_other row b d v 0 (λ e. omega arith) ∙ g.done d h)
      (get_or-set_same row b v 0 l ∙ hv ∙ ap (entry_at s) (hj ∙ g.ahead b (omega arith)));
  ahead = λ d h. ap (λ (n : ℕ). spot_at s n d) (hj ∙ g.ahead b (omega arith)) ∙ spot_on s b d (omega arith) at;
}

-- ---- a part of the image overwritten

module _ (a k : ℕ) (xs ys : List ℕ) (room : a + k ≤ length xs) (long : length ys ≡ k) where
  mid_long : length (put_mid a k xs ys) ≡ length xs
  mid_long = search (rules, places)

  mid_in : (b : ℕ) → b < k → get_or (put_mid a k xs ys) (a + b) 0 ≡ get_or ys b 0
  mid_in b h = search (rules, places)

  mid_out : (j : ℕ) → (j < a) ⊎ (a + k ≤ j) → get_or (put_mid a k xs ys) j 0 ≡ get_or xs j 0
  mid_out j (inl h) = search (rules, places)
  mid_out j (inr h) = search (rules, places)

-- ---- all situations

-- those below q are written
pub record Written (s old new : List ℕ) (q : ℕ) : Type 0 where
  pub long : length new ≡ length old
  pub entries : (p b : ℕ) → p < q → b < 256 → get_or new (256 * p + b) 0 ≡ entry_at s (spot_at s (get_or (places_of s) p 0 + 10) b)
  pub places : (p : ℕ) → p < q → get_or new (256 * get_or s 4 0 + p) 0 ≡ get_or (places_of s) p 0
  pub rest : (k : ℕ) → 257 * get_or s 4 0 ≤ k → get_or new k 0 ≡ get_or old k 0

pub written_none : (s old : List ℕ) → Written s old old 0
written_none s old = record {
  long = refl;
  entries = λ p b h. absurd (omega arith);
  places = λ p h. absurd (omega arith);
  rest = λ k h. refl;
}

module _ {s places old new : List ℕ} {q : ℕ} (m : Mountable s places old) (g : Written s old new q) (l : q < get_or s 4 0)
    (row : List ℕ) (e : length row ≡ 256) (r : RowImaged s (get_or places q 0 + 10) row) where
  abbrev mid : List ℕ
  mid = put_mid (256 * q) 256 new row

  room : 256 * q + 256 ≤ length new
  room = omega (arith, m.room, g.long)

  pub written_next : Written s old (set mid (256 * get_or s 4 0 + q) (get_or places q 0)) (q + 1)
  written_next = record {
    long = length-set mid (256 * get_or s 4 0 + q) (get_or places q 0) ∙ mid_long (256 * q) 256 new row room e ∙ g.long;
    entries = λ p b h k. get_or-set_other mid (256 * get_or s 4 0 + q) (256 * p + b) (get_or places q 0) 0 (λ e. omega arith) ∙ entry p b h k (ℕ_discrete p q);
    places = λ p h. place p h (ℕ_discrete p q);
    rest = λ k h.
        get_or-set_other mid (256 * get_or s 4 0 + q) k (get_or places q 0) 0 (λ e. omega arith)
        ∙ mid_out (256 * q) 256 new row room e k (inr (omega arith)) ∙ g.rest k h;
  }
    where
      entry : (p b : ℕ) → p < q + 1 → b < 256 → Dec (p ≡ q) → get_or mid (256 * p + b) 0 ≡ entry_at s (spot_at s (get_or (places_of s) p 0 + 10) b)
      entry p b h k (yes d) =
          ap (λ (n : ℕ). get_or mid (256 * n + b) 0) d ∙ mid_in (256 * q) 256 new row room e b k ∙ r.entries b k
          ∙ ap (λ (n : ℕ). entry_at s (spot_at s (n + 10) b)) (m.ready.placed q l ∙ ap (λ (n : ℕ). get_or (places_of s) n 0) (sym d))
      entry p b h k (no n) =
          let f : p < q = omega arith in
          mid_out (256 * q) 256 new row room e (256 * p + b) (inl (omega arith)) ∙ g.entries p b f k

      place : (p : ℕ) → p < q + 1 → Dec (p ≡ q) → get_or (set mid (256 * get_or s 4 0 + q) (get_or places q 0)) (256 * get_or s 4 0 + p) 0 ≡ get_or (places_of s) p 0
      place p h (yes d) =
          ap (λ (n : ℕ). get_or (set mid (256 * get_or s 4 0 + q) (get_or places q 0)) (256 * get_or s 4 0 + n) 0) d
          ∙ get_or-set_same mid (256 * get_or s 4 0 + q) (get_or places q 0) 0 (omega (arith, mid_long (256 * q) 256 new row room e, g.long, m.room))
          ∙ m.ready.placed q l ∙ ap (λ (n : ℕ). get_or (places_of s) n 0) (sym d)
      place p h (no n) =
          let f : p < q = omega arith in
          get_or-set_other mid (256 * get_or s 4 0 + q) (256 * get_or s 4 0 + p) (get_or places q 0) 0 (λ e. omega arith)
          ∙ mid_out (256 * q) 256 new row room e (256 * get_or s 4 0 + p) (inr (omega arith)) ∙ g.places p f

pub written_all : {s old new : List ℕ} {q : ℕ} → Written s old new q → get_or s 4 0 ≤ q → Imaged s old new
written_all g h = record {
  long = g.long;
  entries = λ p b l k. g.entries p b (omega arith) k;
  places = λ p l. g.places p (omega arith);
  rest = g.rest;
}

-- ---- there is one

module _ {s old a b : List ℕ} (f : Imaged s old a) (g : Imaged s old b) where
  in_rows : (k : ℕ) → k < 256 * get_or s 4 0 → get_or a k 0 ≡ get_or b k 0
  in_rows k l =
      let e : k ≡ 256 * (k / 256) + k % 256 = omega arith in
      let q : k / 256 < get_or s 4 0 = omega arith in
      let r : k % 256 < 256 = omega arith in
      subst (λ (n : ℕ). get_or a n 0 ≡ get_or b n 0) (sym e) (f.entries (k / 256) (k % 256) q r ∙ sym (g.entries (k / 256) (k % 256) q r))

  in_places : (k : ℕ) → 256 * get_or s 4 0 ≤ k → k < 257 * get_or s 4 0 → get_or a k 0 ≡ get_or b k 0
  in_places k h l =
      let e : k ≡ 256 * get_or s 4 0 + (k - 256 * get_or s 4 0) = omega arith in
      let q : k - 256 * get_or s 4 0 < get_or s 4 0 = omega arith in
      subst (λ (n : ℕ). get_or a n 0 ≡ get_or b n 0) (sym e) (f.places (k - 256 * get_or s 4 0) q ∙ sym (g.places (k - 256 * get_or s 4 0) q))

  at_each : (k : ℕ) → (k < 256 * get_or s 4 0) ⊎ (256 * get_or s 4 0 ≤ k) → (k < 257 * get_or s 4 0) ⊎ (257 * get_or s 4 0 ≤ k) → get_or a k 0 ≡ get_or b k 0
  at_each k (inl l) m = in_rows k l
  at_each k (inr h) (inl l) = in_places k h l
  at_each k (inr h) (inr l) = f.rest k l ∙ sym (g.rest k l)

  pub imaged_one : a ≡ b
  imaged_one =
      ext_get_or 0 a b (f.long ∙ sym g.long) (λ k _. at_each k (lt_or_le k (256 * get_or s 4 0)) (lt_or_le k (257 * get_or s 4 0)))
