-- The image that mounting writes of a taken table: each entry says its byte's row. Assumes nothing.
use Prim.Native.Nat.{ℕ, zero, suc, ◌+◌, ◌*◌, ◌/◌, ◌%◌, ◌<◌, ◌≤◌}
use native.Mathlib.Omega.{arith}
use mathlib.Core.Path.{◌≡◌, refl, sym, ap, ap₂, ◌∙◌, subst}
use mathlib.Core.Bool.{Bool, true, false}
use mathlib.Core.Logic.{◌⊎◌, inl, inr}
use mathlib.Core.List.{List, [], ◌∷◌}
use lib.ListN.{length}
use lib.Dec.{leb, ltb}
use borrow.Author.Tests.{lt-leb, leb-true, leb-false, ltb-true}
use Rattle.ground.specs.Pick.{pick}
use Rattle.card.specs.Table.{Cmd, move, put, Row, Sets}
use Rattle.card.specs.Run.{row_for, no_row}
use Rattle.card.specs.Decode.{cmds_at, after_at, row_at, rows_at}
use Rattle.card.specs.Decode.{RowItem}
use Rattle.std.specs.Prelude.{Some, None}
use Rattle.ground.proofs.Tests.{lt_or_le}
use Rattle.ground.proofs.Picks.{by_test}
use Rattle.card.proofs.Laws.{at_end}
use Rattle.card.proofs.Rows.{row_whole, no_line, row_ends, row_here, row_later}
use Rattle.run.proofs.Carrying.{no_cmds}
use Rattle.image.specs.Image.{block, misfit, block_bits, of_bits, first_to, first_from, leading, behind, of_list, is_block, next_of, kind_of, cell_of, list_of, entry, all_sets, list_kind, points, spot_at, entry_at}
use Rattle.ride.specs.Ride.{only_sets, orders, listless}
use Rattle.image.proofs.Spots.{after_past, spot_ends, spot_here, spot_later}
use Rattle.image.proofs.Entries.{entry_ends, entry_leads}
use Rattle.image.proofs.Blocks.{ap₄, in_bank, bits_fit, bits_out}
use Rattle.image.proofs.Sorting.{That, that_is, from_low}
use Rattle.ride.proofs.Ordered.{none_listed, none_ordered, one_ordered, block_listed, block_ordered, list_listed, sets_ordered, all_ordered}

-- ---- SETs only

pub sets_whole : (l : List Cmd) → Sets l → only_sets l ≡ l
sets_whole [] h = refl
sets_whole (move t f ∷ l) h = absurd h
sets_whole (put t ∷ l) h = ap (λ (x : List Cmd). put t ∷ x) (sets_whole l h)

all_whole : (l : List Cmd) → all_sets l ≡ true → only_sets l ≡ l
all_whole [] h = refl
all_whole (move t f ∷ l) h = let z : ◌≡◌ {A = ℕ} 0 1 = cc in absurd (omega arith)
all_whole (put t ∷ l) h = ap (λ (x : List Cmd). put t ∷ x) (all_whole l h)

-- where a list stands, there is a byte
list_inside : (s : List ℕ) (at : ℕ) (c : Cmd) (l : List Cmd) → cmds_at s at ≡ c ∷ l → at < length s
list_inside s at c l e = by (lt_or_le at (length s))
  where
    by : (at < length s) ⊎ (length s ≤ at) → at < length s
    by (inl h) = h
    by (inr h) = let f = no_cmds s at (at_end s at h) in let z : ◌≡◌ {A = ℕ} 0 1 = cc in absurd (omega arith)

-- ---- the numbers of an entry come out of their bits

module _ (next kind at : ℕ) where
  entry_next : next < 128 → next_of (entry next kind at) ≡ next
  unfolding entry
  entry_next h = omega arith

  entry_kind : kind_of (entry next kind at) ≡ kind
  unfolding entry
  entry_kind = omega arith

  other_kind : (n : ℕ) → (kind ≡ n → ⊥) → kind_of (entry next kind at) ≡ n → ⊥
  other_kind n h e = h (sym entry_kind ∙ e)

  entry_at_lem : at < 8388608 → list_of (entry next kind at) ≡ at
  unfolding entry
  entry_at_lem l =
      let low : entry next kind at % 256 ≡ at % 256 = omega arith in
      let high : entry next kind at / 32768 ≡ at / 256 % 32768 + 32768 * kind = omega arith in
      let mid : (at / 256 % 32768 + 32768 * kind) % 32768 ≡ at / 256 = omega arith in
      ap₂ (λ (x y : ℕ). x + 256 * y) low (ap (λ (n : ℕ). n % 32768) high ∙ mid) ∙ whole at
    where
      whole : (n : ℕ) → n % 256 + 256 * (n / 256) ≡ n
      whole n = omega arith

  entry_cell : at < 128 → cell_of (entry next kind at) ≡ at
  unfolding entry
  entry_cell l = omega arith

-- ---- an entry says a row

pub record SaysRow (s : List ℕ) (e : ℕ) (x : Row) : Type 0 where
  pub next : next_of e ≡ x.next
  pub orders : orders s e ≡ x.cmds
  pub listed : listless s e ≡ false

module _ (s : List ℕ) (next at : ℕ) (small : next < 128) (low : at < 8388608) where
  abbrev Says : ℕ → List Cmd → Type 0
  Says e l = SaysRow s e (record { lo = 0; hi = 0; next = next; cmds = l })

  -- a list, of kind 2 or 3
  module _ (c : Cmd) (l : List Cmd) (e : cmds_at s at ≡ c ∷ l) where
    listed_at : (k : ℕ) → 2 ≤ k → listless s (entry next k at) ≡ false
    listed_at k h =
        let i = list_inside s at c l e in
        list_listed s (entry next k at) (other_kind next k at 0 (λ z. omega arith)) (other_kind next k at 1 (λ z. omega arith)) false
        (lt-leb (length s) (list_of (entry next k at)) (omega (arith, entry_at_lem next k at low)))

    says_sets : all_sets (c ∷ l) ≡ true → Says (entry next 2 at) (c ∷ l)
    says_sets h = record {
      next = entry_next next 2 at small;
      orders =
          sets_ordered s (entry next 2 at) (entry_kind next 2 at)
          ∙ ap (λ (n : ℕ). only_sets (cmds_at s n)) (entry_at_lem next 2 at low) ∙ ap only_sets e ∙ all_whole (c ∷ l) h;
      listed = listed_at 2 (omega arith);
    }

    says_any : Says (entry next 3 at) (c ∷ l)
    says_any = record {
      next = entry_next next 3 at small;
      orders =
          all_ordered s (entry next 3 at) (other_kind next 3 at 0 (λ z. omega arith)) (other_kind next 3 at 1 (λ z. omega arith)) (other_kind next 3 at 2 (λ z. omega arith))
          ∙ ap (cmds_at s) (entry_at_lem next 3 at low) ∙ e;
      listed = listed_at 3 (omega arith);
    }

    says_either : (b : Bool) → all_sets (c ∷ l) ≡ b → Says (entry next (pick b 2 3) at) (c ∷ l)
    unfolding pick
    says_either true h = says_sets h
    says_either false h = says_any

  -- a block: its numbers come out of their bits; below 64 they are the register of one SET
  module _ (l : List Cmd) (a k f n : ℕ) (b : That l a k f n) (held : f < 64) where
    abbrev word : ℕ
    word = entry next 1 (block_bits a k f n)

    bits : {A : Type 0} (g : (a k s n : ℕ) → A) → of_bits g (list_of word) ≡ g a k f n
    bits g =
        let i = in_bank a k f n b.held in
        let some : 1 ≤ k = omega (arith, b.some) in
        let first : a < 64 = omega arith in
        let more : n < 64 = omega arith in
        ap (of_bits g) (entry_at_lem next 1 (block_bits a k f n) (bits_fit a k f n first some b.few more held))
        ∙ bits_out g a k f n first some b.few more held

    says_block : Says word l
    says_block = record {
      next = entry_next next 1 (block_bits a k f n) small;
      orders = block_ordered s word (entry_kind next 1 (block_bits a k f n)) ∙ bits block ∙ sym b.is;
      listed = block_listed s word (entry_kind next 1 (block_bits a k f n)) ∙ bits misfit ∙ b.held;
    }

    one_set : block_bits a k f n < 64 → put (block_bits a k f n) ∷ [] ≡ block a k f n
    unfolding block_bits
    one_set h = ap (λ (t : ℕ). put t ∷ []) r ∙ ap₄ block refl x y z
      where
        r : block_bits a k f n ≡ a
        r = omega (arith, b.some)

        x : 1 ≡ k
        x = omega (arith, b.some)

        y : 0 ≡ f
        y = omega (arith, b.some)

        z : 0 ≡ n
        z = omega (arith, b.some)

    says_one : block_bits a k f n < 64 → Says (entry next 0 (block_bits a k f n)) l
    says_one h =
        let c = entry_cell next 0 (block_bits a k f n) (omega arith) in
        record {
          next = entry_next next 0 (block_bits a k f n) small;
          orders =
              one_ordered s (entry next 0 (block_bits a k f n)) (entry_kind next 0 (block_bits a k f n)) (omega arith)
              ∙ ap (λ (t : ℕ). put t ∷ []) c ∙ one_set h ∙ sym b.is;
          listed = none_listed s (entry next 0 (block_bits a k f n)) (entry_kind next 0 (block_bits a k f n));
        }

    says_bits : Says (entry next (pick (ltb (block_bits a k f n) 64) 0 1) (block_bits a k f n)) l
    says_bits =
        by_test (λ (t : ℕ). Says (entry next t (block_bits a k f n)) l) (ltb (block_bits a k f n) 64) 0 1
        (λ h. says_one (ltb-true (block_bits a k f n) 64 h)) (λ h. says_block)

  pub says_list : (l : List Cmd) → cmds_at s at ≡ l → Says (entry next (list_kind l) (points l at)) l
  unfolding pick
  says_list [] e = record {
    next = entry_next next 0 64 small;
    orders = none_ordered s (entry next 0 64) (entry_kind next 0 64) (omega (arith, entry_cell next 0 64 (omega arith)));
    listed = none_listed s (entry next 0 64) (entry_kind next 0 64);
  }
  says_list (c ∷ l) e = by (is_block (c ∷ l)) refl
    where
      by : (t : Bool) → is_block (c ∷ l) ≡ t
          → Says (entry next (pick t (pick (ltb (of_list block_bits (c ∷ l)) 64) 0 1) (pick (all_sets (c ∷ l)) 2 3)) (pick t (of_list block_bits (c ∷ l)) at)) (c ∷ l)
      by true h =
          let b = that_is (c ∷ l) (first_to (c ∷ l)) (leading (c ∷ l)) (first_from (behind (c ∷ l))) (length (behind (c ∷ l))) h in
          says_bits (c ∷ l) (first_to (c ∷ l)) (leading (c ∷ l)) (first_from (behind (c ∷ l))) (length (behind (c ∷ l))) b
          (from_low (behind (c ∷ l)) (in_bank (first_to (c ∷ l)) (leading (c ∷ l)) (first_from (behind (c ∷ l))) (length (behind (c ∷ l))) b.held))
      by false h = says_either c l e (all_sets (c ∷ l)) refl

-- ---- the entry of a byte's row

module _ (s : List ℕ) (short : length s < 8388608) where
  no_entry : SaysRow s 64 no_row
  no_entry = record { next = refl; orders = none_ordered s 64 refl (omega arith); listed = none_listed s 64 refl }

  -- a row that says the same but for its bounds
  bounds_free : {e : ℕ} (lo hi next : ℕ) (l : List Cmd)
      → SaysRow s e (record { lo = 0; hi = 0; next = next; cmds = l }) → SaysRow s e (record { lo = lo; hi = hi; next = next; cmds = l })
  bounds_free lo hi next l r = record { next = r.next; orders = r.orders; listed = r.listed }

  row_says : (at lo hi next : ℕ) → row_at s at ≡ Some (lo, hi, next) → next < 128
      → SaysRow s (entry_at s at) (record { lo = lo; hi = hi; next = next; cmds = cmds_at s (at + 4) })
  row_says at lo hi next e small =
      let w = row_whole s at lo hi next e in
      subst (λ (n : ℕ). SaysRow s n (record { lo = lo; hi = hi; next = next; cmds = cmds_at s (at + 4) })) (entry_leads s at lo hi next e)
      (bounds_free lo hi next (cmds_at s (at + 4)) (says_list s next (at + 4) small (omega arith) (cmds_at s (at + 4)) refl))

  module _ (b : ℕ) where
    Tells : ℕ → Type 0
    Tells at = (row_for (rows_at s at) b).next < 128 → SaysRow s (entry_at s (spot_at s at b)) (row_for (rows_at s at) b)

    tells_none : (at : ℕ) → row_at s at ≡ None → Tells at
    unfolding Tells
    tells_none at e small =
        subst (λ (x : Row). SaysRow s (entry_at s (spot_at s at b)) x) (row_ends s at b e)
        (subst (λ (n : ℕ). SaysRow s n no_row)
        (entry_ends s (length s) (no_line s (length s) (omega arith)) ∙ sym (ap (entry_at s) (spot_ends s b at e))) no_entry)

    tells_row : (at lo hi next : ℕ) → row_at s at ≡ Some (lo, hi, next) → Tells (after_at s (at + 4)) → (t : Bool) → leb b hi ≡ t → Tells at
    unfolding Tells
    tells_row at lo hi next e more true k small =
        let h = leb-true b hi k in
        let r = row_here s at b lo hi next e h in
        subst (λ (x : Row). SaysRow s (entry_at s (spot_at s at b)) x) r
        (subst (λ (n : ℕ). SaysRow s (entry_at s n) (record { lo = lo; hi = hi; next = next; cmds = cmds_at s (at + 4) })) (sym (spot_here s b at lo hi next e h))
        (row_says at lo hi next e (omega (arith, ap (λ (x : Row). x.next) r))))
    tells_row at lo hi next e more false k small =
        let h = leb-false b hi k in
        let r = row_later s at b lo hi next e h in
        subst (λ (x : Row). SaysRow s (entry_at s (spot_at s at b)) x) r
        (subst (λ (n : ℕ). SaysRow s (entry_at s n) (row_for (rows_at s (after_at s (at + 4))) b)) (sym (spot_later s b at lo hi next e h))
        (more (omega (arith, ap (λ (x : Row). x.next) r))))

    tells_item : (at : ℕ) (x : RowItem) → row_at s at ≡ x → Tells (after_at s (at + 4)) → Tells at
    tells_item at None e more = tells_none at e
    tells_item at (Some (lo, hi, next)) e more = tells_row at lo hi next e more (leb b hi) refl

    from : (n at : ℕ) → length s ≤ at + n → Tells at
    from zero at h = tells_none at (no_line s at (omega arith))
    from (suc n) at h = let g = after_past s at in tells_item at (row_at s at) refl (from n (after_at s (at + 4)) (omega arith))

    pub spot_says : (at : ℕ) → (row_for (rows_at s at) b).next < 128 → SaysRow s (entry_at s (spot_at s at b)) (row_for (rows_at s at) b)
    unfolding Tells
    spot_says at small = from (length s) at (omega arith) small
