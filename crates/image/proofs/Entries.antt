-- The entry of a row: the kind of its list, and where the list stands. Assumes nothing.
use Prim.Native.Nat.{ℕ, zero, suc, ◌+◌, ◌<◌, ◌≤◌}
use native.Mathlib.Omega.{arith}
use native.Mathlib.Numerals.{add-one}
use mathlib.Core.Path.{◌≡◌, refl, sym, ap, ap₂, ◌∙◌, subst}
use mathlib.Core.Bool.{Bool, true, false}
use mathlib.Core.Logic.{◌⊎◌}
use mathlib.Core.List.{List, [], ◌∷◌, ◌++◌}
use lib.Dec.{ltb}
use Rattle.ground.specs.Pick.{pick}
use Rattle.ground.proofs.Picks.{picked, passed, pick_lt, pick_not_lt}
use Rattle.card.specs.Table.{Cmd, move, put}
use Rattle.card.specs.Decode.{cmd_at, cmds_at, row_at}
use Rattle.card.specs.declared.Order.TheVariants.{Move, Put, Stop}
use Rattle.card.specs.Decode.{RowItem}
use Rattle.std.specs.Prelude.{Some, None}
use Rattle.card.proofs.Laws.{cmds_step}
use Rattle.run.specs.Carry.{Alone}
use Rattle.image.specs.Need.{stretch_of, on_with, Stretched, Begins, Sorted}
use Rattle.run.proofs.Carrying.{commands}
use Rattle.card.specs.declared.Order.{Order}
use Rattle.image.specs.Image.{puts, moves, block_bits, of_list, first_to, first_from, is_that, is_block, all_sets, list_kind, points, entry, row_entry, entry_at}
use Rattle.image.proofs.Sorting.{of_block, whole, no_from, is_block_lem, no_block}

-- ---- commands of one stretch

puts_on : (a n : ℕ) (l : List Cmd) → puts a n ++ (put (a + n) ∷ l) ≡ puts a (suc n) ++ l
puts_on a zero l = ap (λ (t : ℕ). put t ∷ l) (let h : a + 0 ≡ a = omega arith in h)
puts_on a (suc n) l =
    ap (λ (t : ℕ). put a ∷ (puts (suc a) n ++ (put t ∷ l))) (let h : a + suc n ≡ suc a + n = omega arith in h)
    ∙ ap (λ (m : List Cmd). put a ∷ m) (puts_on (suc a) n l)

moves_on : (a f n : ℕ) (l : List Cmd) → moves a f n ++ (move (a + n) (f + n) ∷ l) ≡ moves a f (suc n) ++ l
moves_on a f zero l = ap₂ (λ (t u : ℕ). move t u ∷ l) (let h : a + 0 ≡ a = omega arith in h) (let h : f + 0 ≡ f = omega arith in h)
moves_on a f (suc n) l =
    ap₂ (λ (t u : ℕ). move a f ∷ (moves (suc a) (suc f) n ++ (move t u ∷ l)))
    (let h : a + suc n ≡ suc a + n = omega arith in h) (let h : f + suc n ≡ suc f + n = omega arith in h)
    ∙ ap (λ (m : List Cmd). move a f ∷ m) (moves_on (suc a) (suc f) n l)

-- a stretch with one more
pub stretch_more : (first : Order) (n : ℕ) (l : List Cmd) → stretch_of first (n + 1) ++ l ≡ stretch_of first n ++ on_with first n l
stretch_more (Put a) n l = ap (λ (m : ℕ). puts a m ++ l) (add-one n) ∙ sym (puts_on a n l)
stretch_more (Move a f) n l = ap (λ (m : ℕ). moves a f m ++ l) (add-one n) ∙ sym (moves_on a f n l)
stretch_more Stop n l = refl

-- what a function that reads a stretch needs of it
pub ruleset stretches = (commands, stretch_more)

-- ---- the kind of the list at a place, and what its entry points to

module _ (s : List ℕ) (i : ℕ) where
  sorted : (l : List Cmd) → cmds_at s i ≡ l → (k n : ℕ) → k ≡ list_kind l → n ≡ points l i → Sorted s i k n
  sorted l e k n f g = record { kind = f ∙ sym (ap list_kind e); spot = g ∙ sym (ap (λ (x : List Cmd). points x i) e) }

  pub sort_stop : cmd_at s i ≡ Stop → Sorted s i 0 64
  sort_stop e = sorted [] (cmds_step s i Stop e) 0 64 refl refl

  -- no block
  sort_plain : (c : Cmd) (l : List Cmd) → cmds_at s i ≡ c ∷ l → is_block (c ∷ l) ≡ false → Sorted s i (pick (all_sets (c ∷ l)) 2 3) i
  sort_plain c l e h =
      sorted (c ∷ l) e (pick (all_sets (c ∷ l)) 2 3) i
      (sym (passed (pick (ltb (of_list block_bits (c ∷ l)) 64) 0 1) (pick (all_sets (c ∷ l)) 2 3) h)) (sym (passed (of_list block_bits (c ∷ l)) i h))

  pub sort_move : (t f : ℕ) → cmd_at s i ≡ Move t f → Sorted s i 3 i
  unfolding pick is_that
  sort_move t f e = sort_plain (move t f) (cmds_at s (i + 3)) (cmds_step s i (Move t f) e) refl

  -- a list that begins with a SET
  module _ {a k mid f n end : ℕ} (b : Begins s i a) (x : Stretched s i (Put a) k mid) (o : f ≡ first_from (cmds_at s mid)) (y : Stretched s mid (Move (a + k) f) n end) where
    begins : cmds_at s i ≡ put a ∷ cmds_at s (i + 2)
    begins = cmds_step s i (Put a) b.first

    pub a_set : k ≡ 0 → ⊥
    a_set z =
        x.stops (cmds_at s (i + 2))
        (sym (x.here ∙ ap (λ (m : ℕ). puts a m ++ cmds_at s mid) z) ∙ begins ∙ ap (λ (t : ℕ). put t ∷ cmds_at s (i + 2)) (let h : a ≡ a + k = omega arith in h))

    pub sort_other : (32 < k) ⊎ ((a + k < f) ⊎ (cmds_at s end ≡ [] → ⊥)) → {m p : ℕ} → (m ≡ pick (all_sets (cmds_at s i)) 2 3) × (p ≡ i) → Sorted s i m p
    sort_other h {m} (e, g) =
        let e' : pick (all_sets (put a ∷ cmds_at s (i + 2))) 2 3 ≡ m = ap (λ (l : List Cmd). pick (all_sets l) 2 3) (sym begins) ∙ sym e in
        subst (λ (q : ℕ). Sorted s i m q) (sym g) (subst (λ (q : ℕ). Sorted s i q i) e'
        (sort_plain (put a) (cmds_at s (i + 2)) begins
        (sym (ap is_block begins) ∙ no_block a k f n x.here x.stops y.here y.stops o (ap first_to begins) h)))

    -- a block
    module _ (few : k ≤ 32) (up : f ≤ a + k) {r : Bool} (d : Alone s end r) (z : r ≡ true) where
      abbrev bits : ℕ
      bits = block_bits a k f n

      sort_bits : {m : ℕ} → m ≡ pick (ltb bits 64) 0 1 → Sorted s i m bits
      sort_bits {m} g =
          let e = d.none z in
          let t = is_block_lem a k f n x.here x.stops y.here y.stops o e a_set few y.inside.0 up in
          let q : is_block (put a ∷ cmds_at s (i + 2)) ≡ true = sym (ap is_block begins) ∙ t in
          let w : of_list block_bits (cmds_at s i) ≡ bits =
          ap (of_list block_bits) (whole a k f n x.here x.stops y.here y.stops o e)
          ∙ of_block block_bits a k f n a_set (no_from a k f n x.here x.stops y.here y.stops o e) in
          let v : bits ≡ of_list block_bits (put a ∷ cmds_at s (i + 2)) = sym w ∙ ap (of_list block_bits) begins in
          sorted (put a ∷ cmds_at s (i + 2)) begins m bits (g ∙ ap (λ (b : ℕ). pick (ltb b 64) 0 1) v ∙ sym (picked _ _ q)) (v ∙ sym (picked _ i q))

      pub sort_one : bits < 64 → Sorted s i 0 bits
      sort_one l = sort_bits (sym (pick_lt bits 64 0 1 l))

      pub sort_block : 64 ≤ bits → Sorted s i 1 bits
      sort_block l = sort_bits (sym (pick_not_lt bits 64 0 1 l))

kind_of_tests : (b t c : Bool) → pick b (pick t 0 1) (pick c 2 3) ≤ 3
unfolding pick
kind_of_tests true true c = omega arith
kind_of_tests true false c = omega arith
kind_of_tests false t true = omega arith
kind_of_tests false t false = omega arith

pub kind_few : (l : List Cmd) → list_kind l ≤ 3
kind_few [] = omega arith
kind_few (c ∷ l) = kind_of_tests (is_block (c ∷ l)) (ltb (of_list block_bits (c ∷ l)) 64) (all_sets (c ∷ l))

-- ---- the entry of the row at a place

module _ (s : List ℕ) (at : ℕ) where
  pub entry_ends : row_at s at ≡ None → 64 ≡ entry_at s at
  unfolding entry_at
  entry_ends e = sym (ap (λ (x : RowItem). row_entry x (cmds_at s (at + 4)) (at + 4)) e)

  pub entry_leads : (lo hi next : ℕ) → row_at s at ≡ Some (lo, hi, next)
      → entry next (list_kind (cmds_at s (at + 4))) (points (cmds_at s (at + 4)) (at + 4)) ≡ entry_at s at
  unfolding entry_at
  entry_leads lo hi next e = sym (ap (λ (x : RowItem). row_entry x (cmds_at s (at + 4)) (at + 4)) e)

  pub entry_sorted : (lo hi next : ℕ) → row_at s at ≡ Some (lo, hi, next) → (k n : ℕ) → k ≡ list_kind (cmds_at s (at + 4)) → n ≡ points (cmds_at s (at + 4)) (at + 4)
      → entry next k n ≡ entry_at s at
  entry_sorted lo hi next e k n f g = ap₂ (entry next) f g ∙ entry_leads lo hi next e
