-- The parts of a table beside its rows: ENDs, fields, the start, the largest need. Assumes nothing.
use mathlib.Core.Path.{◌≡◌, refl, sym, ap, ◌∙◌}
use mathlib.Core.Bool.{Bool, true, false, cond}
use mathlib.Core.List.{List, [], ◌∷◌, ◌++◌, map}
use mathlib.Core.Option.{Option, none, some}
use Prim.Native.Nat.{ℕ, suc, ◌+◌, ◌-◌, ◌*◌, ◌≤◌, ◌<◌, max}
use native.Mathlib.Numerals.{add-one}
use native.Mathlib.Omega.{arith}
use lib.Dec.{eqb}
use lib.ListN.{length, get_or, drop, replicate, length-map, drop_of_length-le}
use lib.Seq.{drop-cons}
use borrow.Author.Tests.{eqb-true}
use Rattle.std.specs.Prelude as std
use Rattle.std.specs.Prelude.{Some, None, unwrap_or}
use Rattle.ground.specs.Lists.{each}
use Rattle.net.specs.Rec.{Rec, range, mask, fork, tag, end, Net, rec}
use Rattle.paths.specs.Situation.{ending, first_end}
use Rattle.paths.specs.Registers.{registers, situation}
use Rattle.card.specs.Table.{put, cmd_bytes, row_bytes, sit_bytes, bytes_of}
use Rattle.explore.specs.Lists.{span}
use Rattle.explore.specs.States.{opt, tags_of, thread_of}
use Rattle.explore.specs.Onward.{closing_of}
use Rattle.explore.specs.Slots.{thread_at, threads_at, slot, slots}
use Rattle.explore.specs.declared.Entry.{Entry}
use Rattle.explore.proofs.Memory.{threads_at_length, threads_at_at}
use Rattle.explore.proofs.Exploration.{slots_length}
use Rattle.build.specs.Card.{State, need, most, byte_row, joined, answer_of, field_of, fields_of, sit_of, card_of}
use Rattle.build.specs.Writing.{Writes, Ends, rows_bytes, sits_bytes}
use Rattle.build.specs.declared.Pen.{Pen}
use Rattle.build.proofs.Writing.{Left, left_on, left_none}

-- ---- the first END of a list

module _ (s : List ℕ) where
  thread_here : (i : ℕ) (e : Entry) → i < get_or s 0 0 → thread_of e ≡ thread_at s (2 + 9 * i) → drop i (slot s 0) ≡ thread_of e ∷ drop (i + 1) (slot s 0)
  unfolding slot
  thread_here i e b at =
      let n = threads_at_length s 2 (get_or s 0 0) in
      drop-cons (threads_at s 2 (get_or s 0 0)) i (thread_of e) (omega arith)
      ∙ ap (λ v. v ∷ drop (suc i) (threads_at s 2 (get_or s 0 0))) (threads_at_at s 2 (get_or s 0 0) i (thread_of e) b ∙ sym at)
      ∙ ap (λ v. thread_of e ∷ drop v (threads_at s 2 (get_or s 0 0))) (sym (add-one i))

  threads_done : (i : ℕ) → get_or s 0 0 ≤ i → drop i (slot s 0) ≡ []
  unfolding slot
  threads_done i b = drop_of_length-le (threads_at s 2 (get_or s 0 0)) {i = i} (omega (arith, threads_at_length s 2 (get_or s 0 0)))

field_is : (v : ℕ) → field_of (opt v) ≡ v
field_is v = by (eqb v 255) refl
  where
    by : (c : Bool) → eqb v 255 ≡ c → field_of (cond c none (some v)) ≡ v
    by true e = sym (eqb-true v 255 e)
    by false e = refl

fields_are : (l : List ℕ) → map field_of (tags_of l) ≡ l
fields_are [] = refl
fields_are (v ∷ l) = let p = field_is v in let q = fields_are l in λ i. p i ∷ q i

open_rec : (c : Rec) {X : Type 0} (x : X) (o : Option (ℕ × X)) → None ≡ closing_of c → ending c x o ≡ o
open_rec (range lo hi n) x o e = refl
open_rec (mask bits n) x o e = refl
open_rec (fork p q) x o e = refl
open_rec (tag t n) x o e = refl
open_rec (end a) x o e = cc

end_rec : (c : Rec) {X : Type 0} (x : X) (o : Option (ℕ × X)) (a : ℕ) → Some a ≡ closing_of c → ending c x o ≡ some (a, x)
end_rec (range lo hi n) x o a e = cc
end_rec (mask bits n) x o a e = cc
end_rec (fork p q) x o a e = cc
end_rec (tag t n) x o a e = cc
end_rec (end b) x o a e = let z : a ≡ b = cc in ap (λ v. some (v, x)) (sym z)

module _ (A : Net) (s : List ℕ) (i : ℕ) (so : first_end A (slot s 0) ≡ first_end A (drop i (slot s 0))) where
  module _ (b : i < get_or s 0 0) (d : Entry) (at : thread_of d ≡ thread_at s (2 + 9 * i)) where
    at_it : first_end A (slot s 0) ≡ ending (rec A d.on) (tags_of d.had) (first_end A (drop (i + 1) (slot s 0)))
    unfolding thread_of
    at_it = so ∙ ap (first_end A) (thread_here s i d b at)

    pub no_end : None ≡ closing_of (rec A d.on) → first_end A (slot s 0) ≡ first_end A (drop (i + 1) (slot s 0))
    no_end e = at_it ∙ open_rec (rec A d.on) (tags_of d.had) (first_end A (drop (i + 1) (slot s 0))) e

    pub an_end : (a : ℕ) → Some a ≡ closing_of (rec A d.on) → Ends A (slot s 0) (Some (a, d.had))
    an_end a e = at_it ∙ end_rec (rec A d.on) (tags_of d.had) (first_end A (drop (i + 1) (slot s 0))) a e

  pub none_ends : get_or s 0 0 ≤ i → Ends A (slot s 0) None
  none_ends b = so ∙ ap (first_end A) (threads_done s i b)

-- what is written for it, 255 where there is none
written : (A : Net) (s : State) (o : std.Option (ℕ × List ℕ)) → Ends A s o → (e : ℕ × List ℕ) → e ≡ unwrap_or o (255, replicate 8 255) → (e.0 ≡ answer_of (first_end A s)) × (e.1 ≡ fields_of (first_end A s))
written A s None h e p = (ap (λ v. v.0) p ∙ sym (ap answer_of h), ap (λ v. v.1) p ∙ sym (ap fields_of h))
written A s (Some x) h e p = (ap (λ v. v.0) p ∙ sym (ap answer_of h), ap (λ v. v.1) p ∙ sym (ap fields_of h ∙ fields_are x.1))

-- ---- the start

sets_cons : (k n : ℕ) → k < n → each cmd_bytes (map put (span k (n - k))) ≡ (0x25 ∷ k ∷ []) ++ each cmd_bytes (map put (span (k + 1) (n - (k + 1))))
unfolding span
sets_cons k n b = let e : n - k ≡ suc (n - (k + 1)) = omega arith in ap (λ v. each cmd_bytes (map put (span k v))) e

sets_none : (k n : ℕ) → n ≤ k → each cmd_bytes (map put (span k (n - k))) ≡ []
unfolding span
sets_none k n b = let e : n - k ≡ 0 = omega arith in ap (λ v. each cmd_bytes (map put (span k v))) e

-- what is left of the start from register k on
abbrev pub rest_sets : ℕ → ℕ → List ℕ
rest_sets k n = each cmd_bytes (map put (span k (n - k)))

module _ {p₀ : Pen} {all : List ℕ} {p : Pen} (k n : ℕ) (h : Left p₀ all p (rest_sets k n)) where
  pub sets_on : k < n → {p' : Pen} → Writes p p' (0x25 ∷ k ∷ []) → Left p₀ all p' (rest_sets (k + 1) n)
  sets_on b w = left_on h (sets_cons k n b) w

  pub sets_done : n ≤ k → Writes p₀ p all
  sets_done b = left_none h (sets_none k n b)

-- ---- the largest need

slots_cons : (w : List ℕ) (j n m : ℕ) → n ≡ suc m → slots w j n ≡ slot w j ∷ slots w (j + 1) m
unfolding slots
slots_cons w j n m e = ap (slots w j) e

slots_none : (w : List ℕ) (j n : ℕ) → n ≡ 0 → slots w j n ≡ []
unfolding slots
slots_none w j n e = ap (slots w j) e

module _ (w : List ℕ) (count m j : ℕ) (h : max m (most (slots w j (count - j))) ≡ most (slots w 0 count)) where
  pub most_on : (k : ℕ) → j < count → k ≡ length (registers (slot w j)) → max (max m k) (most (slots w (j + 1) (count - (j + 1)))) ≡ most (slots w 0 count)
  most_on k b e =
      let z : count - j ≡ suc (count - (j + 1)) = omega arith in
      let c = ap most (slots_cons w j (count - j) (count - (j + 1)) z) in
      omega arith

  pub most_end : count ≤ j → m ≡ most (slots w 0 count)
  most_end b =
      let z : count - j ≡ 0 = omega arith in
      let c = ap most (slots_none w j (count - j) z) in
      omega arith

-- ---- one situation

pub sit_is : (A : Net) (S : List State) (s s₀ : State) → s ≡ s₀ → (o : std.Option (ℕ × List ℕ)) → Ends A s o → (e : ℕ × List ℕ) → e ≡ unwrap_or o (255, replicate 8 255) → 0x22 ∷ e.0 ∷ (e.1 ++ rows_bytes A S s) ≡ sit_bytes (sit_of A S s₀)
unfolding sit_of rows_bytes
sit_is A S s s₀ q o h e p =
    let w = written A s o h e p in
    let x = w.0 in
    let y = w.1 in
    (λ i. 0x22 ∷ x i ∷ (y i ++ each row_bytes (joined (map (byte_row A S s) (span 0 256))))) ∙ ap (λ v. sit_bytes (sit_of A S v)) q

-- ---- all of them

-- what is left from situation i on
abbrev pub rest_sits : Net → List ℕ → ℕ → ℕ → List ℕ
rest_sits A w count i = sits_bytes A (slots w 0 count) (slots w i (count - i))

module _ (A : Net) (w : List ℕ) (count : ℕ) where
  sits_cons : (i : ℕ) → i < count → rest_sits A w count i ≡ sit_bytes (sit_of A (slots w 0 count) (slot w i)) ++ rest_sits A w count (i + 1)
  unfolding sits_bytes
  sits_cons i b =
      let e : count - i ≡ suc (count - (i + 1)) = omega arith in
      ap (λ v. each sit_bytes (map (sit_of A (slots w 0 count)) v)) (slots_cons w i (count - i) (count - (i + 1)) e)

  sits_none : (i : ℕ) → count ≤ i → rest_sits A w count i ≡ []
  unfolding sits_bytes
  sits_none i b = let e : count - i ≡ 0 = omega arith in ap (λ v. each sit_bytes (map (sit_of A (slots w 0 count)) v)) (slots_none w i (count - i) e)

  module _ {p₀ : Pen} {all : List ℕ} {p : Pen} (i : ℕ) (h : Left p₀ all p (rest_sits A w count i)) where
    pub sits_on : i < count → {p' : Pen} → Writes p p' (sit_bytes (sit_of A (slots w 0 count) (slot w i))) → Left p₀ all p' (rest_sits A w count (i + 1))
    sits_on b v = left_on h (sits_cons i b) v

    pub sits_done : count ≤ i → Writes p₀ p all
    sits_done b = left_none h (sits_none i b)

-- ---- the whole table

pub table_is : (tags : ℕ) (A : Net) (w : List ℕ) (count m n : ℕ) → m ≡ most (slots w 0 count) → n ≡ need (situation A [])
    → (0x21 ∷ 1 ∷ tags ∷ m ∷ count ∷ []) ++ (each cmd_bytes (map put (span 0 n)) ++ sits_bytes A (slots w 0 count) (slots w 0 count)) ≡ bytes_of (card_of tags A (slots w 0 count))
unfolding bytes_of card_of sits_bytes
table_is tags A w count m n e f =
    let c = sym (slots_length w 0 count) ∙ sym (length-map (slots w 0 count) (sit_of A (slots w 0 count))) in
    λ i. 0x21 ∷ 1 ∷ tags ∷ e i ∷ c i ∷ (each cmd_bytes (map put (span 0 (f i))) ++ each sit_bytes (map (sit_of A (slots w 0 count)) (slots w 0 count)))
