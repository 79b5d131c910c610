-- Commands in an array, and their comparison. Assumes nothing.
use mathlib.Core.Path.{◌≡◌, refl, sym, ap, ◌∙◌}
use mathlib.Core.Bool.{Bool, true, false, ◌&&◌, cond}
use mathlib.Core.List.{List, [], ◌∷◌, ◌++◌, map, append_assoc, append-nil}
use Prim.Native.Nat.{ℕ, suc, ◌+◌, ◌*◌, ◌≤◌, ◌<◌}
use native.Mathlib.Numerals.{add-one}
use native.Mathlib.Omega.{arith}
use lib.Dec.{eqb}
use lib.ListN.{length, get_or, take, drop, length-map, drop_of_length-le}
use lib.Seq.{drop-cons}
use borrow.Author.Tests.{eq-eqb, ne_eqb}
use Rattle.ground.proofs.Lists.{get_or_map}
use Rattle.paths.specs.Registers.{Key}
use Rattle.paths.specs.Equal.{same_list}
use Rattle.card.specs.Table.{Cmd, move, put}
use Rattle.explore.specs.Keys.{key_of, keys_at}
use Rattle.explore.proofs.Naming.{keys_length, keys_at_at}
use Rattle.build.specs.Card.{commands, same_cmd}
use Rattle.build.specs.Orders.{order_of, orders_of}
use Rattle.build.specs.Writing.{command, alike_deeds}
use Rattle.build.specs.declared.Deed.{Deed}
use Rattle.build.specs.declared.orders.Order.{Order}
use Rattle.build.specs.declared.orders.Order.TheVariants.{Set, Move}
use lib.Pointwise.{pointwise}

-- ---- the commands of the registers

commands_cons : (fresh k o : ℕ) (os : List ℕ) → commands fresh k (o ∷ os) ≡ command fresh k o ++ commands fresh (k + 1) os
unfolding commands
commands_cons fresh k o os = by (eqb o fresh) (eqb o k) ∙ ap (λ v. command fresh k o ++ commands fresh v os) (sym (add-one k))
  where
    by : (a b : Bool) → cond a (put k ∷ commands fresh (suc k) os) (cond b (commands fresh (suc k) os) (move k o ∷ commands fresh (suc k) os)) ≡ cond a (put k ∷ []) (cond b [] (move k o ∷ [])) ++ commands fresh (suc k) os
    by true b = refl
    by false true = refl
    by false false = refl

pub commands_none : (fresh k : ℕ) → commands fresh k [] ≡ []
unfolding commands
commands_none fresh k = refl

-- where each of the n registers comes from
abbrev pub froms : List ℕ → ℕ → List ℕ
froms r n = map (λ (k : Key). k.1) (keys_at r 0 n)

module _ (fresh : ℕ) (r : List ℕ) (n : ℕ) where
  froms_length : length (froms r n) ≡ n
  froms_length = length-map (keys_at r 0 n) (λ k. k.1) ∙ keys_length r 0 n

  from_here : (i : ℕ) → i < n → drop i (froms r n) ≡ get_or r (2 * i + 1) 0 ∷ drop (i + 1) (froms r n)
  from_here i b =
      let m = froms_length in
      let l = keys_length r 0 n in
      let z : 0 + i ≡ i = omega arith in
      drop-cons (froms r n) i 0 (omega arith)
      ∙ ap (λ v. v ∷ drop (suc i) (froms r n))
      (get_or_map (λ (k : Key). k.1) (keys_at r 0 n) i (0, 0) 0 (omega arith) ∙ ap (λ (k : Key). k.1) (keys_at_at r 0 n i (0, 0) b ∙ ap (key_of r) z))
      ∙ ap (λ v. get_or r (2 * i + 1) 0 ∷ drop v (froms r n)) (sym (add-one i))

  -- l are the commands of the registers below i
  abbrev pub Filled : List Cmd → ℕ → Type 0
  Filled l i = l ++ commands fresh i (drop i (froms r n)) ≡ commands fresh 0 (froms r n)

  module _ (l l' : List Cmd) (i : ℕ) (b : i < n) (h : Filled l i) where
    more : l' ≡ l ++ command fresh i (get_or r (2 * i + 1) 0) → Filled l' (i + 1)
    more e =
        let rest = drop (i + 1) (froms r n) in
        ap (λ v. v ++ commands fresh (i + 1) rest) e
        ∙ append_assoc l (command fresh i (get_or r (2 * i + 1) 0)) (commands fresh (i + 1) rest)
        ∙ ap (λ v. l ++ v) (sym (commands_cons fresh i (get_or r (2 * i + 1) 0) rest) ∙ ap (commands fresh i) (sym (from_here i b)))
        ∙ h

    -- one register more: a SET, a MOVE, or nothing
    pub set_more : get_or r (2 * i + 1) 0 ≡ fresh → l' ≡ l ++ (put i ∷ []) → Filled l' (i + 1)
    set_more e p = more (rw (eq-eqb (get_or r (2 * i + 1) 0) fresh e) p)

    module _ (g : get_or r (2 * i + 1) 0 ≡ fresh → ⊥) where
      pub move_more : (get_or r (2 * i + 1) 0 ≡ i → ⊥) → l' ≡ l ++ (move i (get_or r (2 * i + 1) 0) ∷ []) → Filled l' (i + 1)
      move_more e p = more (rw (ne_eqb (get_or r (2 * i + 1) 0) fresh g, ne_eqb (get_or r (2 * i + 1) 0) i e) p)

      pub skip_more : get_or r (2 * i + 1) 0 ≡ i → l' ≡ l → Filled l' (i + 1)
      skip_more e p = more (rw (ne_eqb (get_or r (2 * i + 1) 0) fresh g, eq-eqb (get_or r (2 * i + 1) 0) i e) (p ∙ sym (append-nil l)))

  pub commands_done : (l : List Cmd) (i : ℕ) → n ≤ i → Filled l i → l ≡ commands fresh 0 (froms r n)
  commands_done l i b h =
      sym (append-nil l) ∙ ap (λ v. l ++ v) (sym (commands_none fresh i) ∙ ap (commands fresh i) (sym (drop_of_length-le (froms r n) {i = i} (omega (arith, froms_length))))) ∙ h

-- ---- comparison

-- a test of two commands of the array that is the one of two commands
pub record Compares (E : Order → Order → Bool) : Type 0 where
  pub sets : (a b : ℕ) → E (Set a) (Set b) ≡ eqb a b
  pub set_move : (a c d : ℕ) → E (Set a) (Move c d) ≡ false
  pub move_set : (a b c : ℕ) → E (Move a b) (Set c) ≡ false
  pub moves : (a b c d : ℕ) → E (Move a b) (Move c d) ≡ (eqb a c && eqb b d)

module _ {E : Order → Order → Bool} (h : Compares E) where
  compares : (x y : Order) → E x y ≡ same_cmd (order_of x) (order_of y)
  compares (Set a) (Set b) = h.sets a b
  compares (Set a) (Move c d) = h.set_move a c d
  compares (Move a b) (Set c) = h.move_set a b c
  compares (Move a b) (Move c d) = h.moves a b c d

  compares_all : (xs ys : List Order) → pointwise E xs ys ≡ same_list same_cmd (map order_of xs) (map order_of ys)
  compares_all [] [] = refl
  compares_all [] (y ∷ ys) = refl
  compares_all (x ∷ xs) [] = refl
  compares_all (x ∷ xs) (y ∷ ys) = rw (compares x y, compares_all xs ys)

pub compared : {E : Order → Order → Bool} {r : Bool} (a b : Deed) → r ≡ (eqb a.next b.next && pointwise E (take a.orders.n a.orders.list) (take b.orders.n b.orders.list)) → Compares E → r ≡ alike_deeds a b
unfolding orders_of
compared a b e h = e ∙ ap (λ v. eqb a.next b.next && v) (compares_all h (take a.orders.n a.orders.list) (take b.orders.n b.orders.list))
