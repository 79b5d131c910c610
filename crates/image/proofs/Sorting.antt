-- Whether a list is a block. Assumes nothing.
use Prim.Native.Nat.{ℕ, zero, suc, ◌+◌, ◌<◌, ◌≤◌}
use native.Mathlib.Omega.{arith}
use mathlib.Core.Path.{◌≡◌, refl, sym, ap, ap₂, ◌∙◌, subst}
use mathlib.Core.Logic.{◌⊎◌, inl, inr}
use mathlib.Core.Bool.{Bool, true, false}
use mathlib.Core.List.{List, [], ◌∷◌, ◌++◌, append-nil}
use lib.ListN.{length}
use lib.Dec.{ltb, eqb}
use borrow.Author.Tests.{eq-eqb, ne_eqb, eqb-true, eqb-false, ltb-false, le-ltb}
use Rattle.ground.specs.Pick.{pick}
use Rattle.ground.proofs.Picks.{picked, passed}
use Rattle.card.specs.Table.{Cmd, move, put}
use Rattle.image.specs.Image.{puts, moves, block, misfit, first_to, first_from, leading, behind, of_list, same_cmd, same, is_that, is_block}
use Rattle.image.proofs.Blocks.{in_bank, no_misfit}

-- ---- tests

and_true : (a b : Bool) → pick a b false ≡ true → (a ≡ true) × (b ≡ true)
unfolding pick
and_true true b h = (refl, h)
and_true false b h = let z : ◌≡◌ {A = ℕ} 0 1 = cc in absurd (omega arith)

unless_true : (a b : Bool) → pick a false b ≡ true → (a ≡ false) × (b ≡ true)
unfolding pick
unless_true false b h = (refl, h)
unless_true true b h = let z : ◌≡◌ {A = ℕ} 0 1 = cc in absurd (omega arith)

not_true : (b : Bool) → (b ≡ true → ⊥) → b ≡ false
not_true true h = absurd (h refl)
not_true false h = refl

-- ---- the same list

same_cmd_lem : (c : Cmd) → same_cmd c c ≡ true
same_cmd_lem (put t) = eq-eqb t t refl
same_cmd_lem (move t f) = picked (eqb f f) false (eq-eqb t t refl) ∙ eq-eqb f f refl

same_list : (l : List Cmd) → same l l ≡ true
same_list [] = refl
same_list (c ∷ l) = picked (same l l) false (same_cmd_lem c) ∙ same_list l

cmd_is : (c d : Cmd) → same_cmd c d ≡ true → c ≡ d
cmd_is (put t) (put u) h = ap put (eqb-true t u h)
cmd_is (put t) (move u g) h = let z : ◌≡◌ {A = ℕ} 0 1 = cc in absurd (omega arith)
cmd_is (move t f) (put u) h = let z : ◌≡◌ {A = ℕ} 0 1 = cc in absurd (omega arith)
cmd_is (move t f) (move u g) h = let b = and_true (eqb t u) (eqb f g) h in ap₂ move (eqb-true t u b.0) (eqb-true f g b.1)

list_is : (l m : List Cmd) → same l m ≡ true → l ≡ m
list_is [] [] h = refl
list_is [] (d ∷ m) h = let z : ◌≡◌ {A = ℕ} 0 1 = cc in absurd (omega arith)
list_is (c ∷ l) [] h = let z : ◌≡◌ {A = ℕ} 0 1 = cc in absurd (omega arith)
list_is (c ∷ l) (d ∷ m) h =
    let b = and_true (same_cmd c d) (same l m) h in
    ap₂ (λ (x : Cmd) (y : List Cmd). x ∷ y) (cmd_is c d b.0) (list_is l m b.1)

-- ---- the block of four numbers

pub record That (l : List Cmd) (a k s n : ℕ) : Type 0 where
  pub some : k ≡ 0 → ⊥
  pub few : k ≤ 32
  pub held : misfit a k s n ≡ false
  pub is : l ≡ block a k s n

module _ (l : List Cmd) (a k s n : ℕ) where
  pub that_is : is_that l a k s n ≡ true → That l a k s n
  unfolding is_that
  that_is h =
      let x = unless_true (eqb k 0) _ h in
      let y = unless_true (ltb 32 k) _ x.1 in
      let z = unless_true (misfit a k s n) _ y.1 in
      record {
        some = eqb-false k 0 x.0;
        few = ltb-false 32 k y.0;
        held = z.0;
        is = list_is l (block a k s n) z.1;
      }

  is_that_lem : That l a k s n → is_that l a k s n ≡ true
  unfolding is_that
  is_that_lem t =
      passed false _ (ne_eqb k 0 t.some)
      ∙ passed false _ (le-ltb 32 k t.few)
      ∙ passed false _ t.held
      ∙ ap (same l) (sym t.is) ∙ same_list l

-- ---- the numbers of a block

module _ (l : List Cmd) where
  leading_puts : (a k : ℕ) → leading (puts a k ++ l) ≡ k + leading l
  leading_puts a zero = omega arith
  leading_puts a (suc k) = let h = leading_puts (suc a) k in omega arith

  behind_puts : (a k : ℕ) → behind (puts a k ++ l) ≡ behind l
  behind_puts a zero = refl
  behind_puts a (suc k) = behind_puts (suc a) k

leading_moves : (a f n : ℕ) → leading (moves a f n) ≡ 0
leading_moves a f zero = refl
leading_moves a f (suc n) = refl

behind_moves : (a f n : ℕ) → behind (moves a f n) ≡ moves a f n
behind_moves a f zero = refl
behind_moves a f (suc n) = refl

length_moves : (a f n : ℕ) → length (moves a f n) ≡ n
length_moves a f zero = refl
length_moves a f (suc n) = ap suc (length_moves (suc a) (suc f) n)

from_moves : (a f n : ℕ) → (n ≡ 0 → f ≡ 0) → first_from (moves a f n) ≡ f
from_moves a f zero h = sym (h refl)
from_moves a f (suc n) h = refl

to_puts : (a k : ℕ) (l : List Cmd) → (k ≡ 0 → ⊥) → first_to (puts a k ++ l) ≡ a
to_puts a zero l h = absurd (h refl)
to_puts a (suc k) l h = refl

pub of_block : {A : Type 0} (g : (a k s n : ℕ) → A) (a k s n : ℕ) → (k ≡ 0 → ⊥) → (n ≡ 0 → s ≡ 0) → of_list g (block a k s n) ≡ g a k s n
of_block g a k s n h z =
    let t = to_puts a k (moves (a + k) s n) h in
    let p = leading_puts (moves (a + k) s n) a k in
    let o = leading_moves (a + k) s n in
    let q : leading (block a k s n) ≡ k = omega arith in
    let m : behind (block a k s n) ≡ moves (a + k) s n = behind_puts (moves (a + k) s n) a k ∙ behind_moves (a + k) s n in
    let f : first_from (behind (block a k s n)) ≡ s = ap first_from m ∙ from_moves (a + k) s n z in
    let r : length (behind (block a k s n)) ≡ n = ap length m ∙ length_moves (a + k) s n in
    cc

-- a source no higher than targets that are in the bank is a register
pub from_low : (l : List Cmd) {b : ℕ} → (b + length l ≤ 64) × (first_from l ≤ b) → first_from l < 64
from_low [] h = omega arith
from_low (move t f ∷ l) h = omega arith
from_low (put t ∷ l) h = omega arith

-- ---- a list of SETs and MOVEs that is cut as it stands

cut_puts : (a k j : ℕ) (x z : List Cmd) → leading z ≡ 0 → ((m : List Cmd) → x ≡ put (a + k) ∷ m → ⊥) → puts a k ++ x ≡ puts a j ++ z → (k ≡ j) × (x ≡ z)
cut_puts a zero zero x z n s e = (refl, e)
cut_puts a zero (suc j) x z n s e =
    absurd (s (puts (suc a) j ++ z) (e ∙ ap (λ (t : ℕ). put t ∷ (puts (suc a) j ++ z)) (let h : a ≡ a + 0 = omega arith in h)))
cut_puts a (suc k) zero x z n s e = let h = ap leading e in absurd (omega arith)
cut_puts a (suc k) (suc j) x z n s e =
    let r = cut_puts (suc a) k j x z n (λ m f. s m (f ∙ ap (λ (t : ℕ). put t ∷ m) (let h : suc a + k ≡ a + suc k = omega arith in h))) (let h : puts (suc a) k ++ x ≡ puts (suc a) j ++ z = cc in h) in
    (ap suc r.0, r.1)

cut_moves : (a f n j : ℕ) (y : List Cmd) → ((m : List Cmd) → y ≡ move (a + n) (f + n) ∷ m → ⊥) → moves a f n ++ y ≡ moves a f j → y ≡ []
cut_moves a f zero zero y s e = e
cut_moves a f zero (suc j) y s e =
    absurd (s (moves (suc a) (suc f) j) (e ∙ ap₂ (λ (t u : ℕ). move t u ∷ moves (suc a) (suc f) j) (let h : a ≡ a + 0 = omega arith in h) (let h : f ≡ f + 0 = omega arith in h)))
cut_moves a f (suc n) zero y s e = let z : ◌≡◌ {A = ℕ} 0 1 = cc in absurd (omega arith)
cut_moves a f (suc n) (suc j) y s e =
    cut_moves (suc a) (suc f) n j y
    (λ m g. s m (g ∙ ap₂ (λ (t u : ℕ). move t u ∷ m) (let h : suc a + n ≡ a + suc n = omega arith in h) (let h : suc f + n ≡ f + suc n = omega arith in h)))
    (let h : moves (suc a) (suc f) n ++ y ≡ moves (suc a) (suc f) j = cc in h)

from_most : (a f n : ℕ) → first_from (moves a f n) ≤ f
from_most a f zero = omega arith
from_most a f (suc n) = omega arith

own_from : (x : List Cmd) (a f n : ℕ) → x ≡ moves a f n → x ≡ moves a (first_from x) n
own_from x a f zero e = e
own_from x a f (suc n) e = e ∙ ap (λ (u : ℕ). moves a u (suc n)) (sym (ap first_from e))

-- ---- SETs and MOVEs as far as they go, and what is left

module _ (a k f n : ℕ) {l x y : List Cmd}
    (sets : l ≡ puts a k ++ x) (next : (m : List Cmd) → x ≡ put (a + k) ∷ m → ⊥)
    (shifts : x ≡ moves (a + k) f n ++ y) (last : (m : List Cmd) → y ≡ move (a + k + n) (f + n) ∷ m → ⊥) (from : f ≡ first_from x) where
  -- nothing is left, and there is a SET
  pub whole : y ≡ [] → l ≡ block a k f n
  whole e = sets ∙ ap (λ (z : List Cmd). puts a k ++ z) (shifts ∙ ap (λ (z : List Cmd). moves (a + k) f n ++ z) e ∙ append-nil (moves (a + k) f n))

  pub no_from : y ≡ [] → n ≡ 0 → f ≡ 0
  no_from e z = from ∙ ap first_from (shifts ∙ ap₂ (λ (i : ℕ) (z : List Cmd). moves (a + k) f i ++ z) z e)

  pub is_block_lem : y ≡ [] → (k ≡ 0 → ⊥) → k ≤ 32 → a + k + n ≤ 64 → f ≤ a + k → is_block l ≡ true
  is_block_lem e s w t u =
      ap is_block (whole e) ∙ of_block (is_that (block a k f n)) a k f n s (no_from e)
      ∙ is_that_lem (block a k f n) a k f n (record { some = s; few = w; held = no_misfit a k f n t u; is = refl })

  -- what a block of the same first register would be
  module _ (j g i : ℕ) (t : That l a j g i) where
    cut : (k ≡ j) × (x ≡ moves (a + j) g i)
    cut = cut_puts a k j x (moves (a + j) g i) (leading_moves (a + j) g i) next (sym sets ∙ t.is)

    few_sets : k ≤ 32
    few_sets = let c = cut.0 in let w = t.few in omega arith

    upward : f ≤ a + k
    upward =
        let c = cut in
        let h = in_bank a j g i t.held in
        let m = from_most (a + j) g i in
        let e : f ≡ first_from (moves (a + j) g i) = from ∙ ap first_from c.1 in
        let k' = c.0 in
        omega arith

    none_left : y ≡ []
    none_left =
        let c = cut in
        let e : x ≡ moves (a + k) g i = c.1 ∙ ap (λ (q : ℕ). moves (a + q) g i) (sym c.0) in
        cut_moves (a + k) f n i y last (sym shifts ∙ own_from x (a + k) g i e ∙ ap (λ (u : ℕ). moves (a + k) u i) (sym from))

  pub no_block : first_to l ≡ a → (32 < k) ⊎ ((a + k < f) ⊎ (y ≡ [] → ⊥)) → is_block l ≡ false
  no_block t h = not_true (is_block l) (λ e. by h (that e))
    where
      that : is_block l ≡ true → That l a (leading l) (first_from (behind l)) (length (behind l))
      that e = subst (λ (q : ℕ). That l q (leading l) (first_from (behind l)) (length (behind l))) t
          (that_is l (first_to l) (leading l) (first_from (behind l)) (length (behind l)) e)

      by : (32 < k) ⊎ ((a + k < f) ⊎ (y ≡ [] → ⊥)) → That l a (leading l) (first_from (behind l)) (length (behind l)) → ⊥
      by (inl w) b = let c = few_sets _ _ _ b in omega arith
      by (inr (inl w)) b = let c = upward _ _ _ b in omega arith
      by (inr (inr w)) b = w (none_left _ _ _ b)
