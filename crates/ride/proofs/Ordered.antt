-- What an entry orders, by its kind. Assumes nothing.
use Prim.Native.Nat.{ℕ, ◌<◌, ◌≤◌}
use native.Mathlib.Omega.{arith}
use mathlib.Core.Path.{◌≡◌, refl, ap, ap₂, ◌∙◌}
use mathlib.Core.Bool.{Bool, true, false}
use mathlib.Core.List.{List, [], ◌∷◌}
use lib.ListN.{length}
use lib.Dec.{leb, ltb, eqb}
use borrow.Author.Tests.{eq-eqb, ne_eqb}
use Rattle.ground.specs.Pick.{pick}
use Rattle.ground.proofs.Picks.{pick_lt, pick_not_lt}
use Rattle.card.specs.Table.{Cmd, put}
use Rattle.card.specs.Decode.{cmds_at}
use Rattle.image.specs.Image.{block, misfit, of_bits, kind_of, cell_of, list_of}
use Rattle.ride.specs.Ride.{only_sets, orders, listless}

module _ (s : List ℕ) (e : ℕ) where
  listless_is : (a b : Bool) → eqb (kind_of e) 0 ≡ a → eqb (kind_of e) 1 ≡ b → listless s e ≡ pick a false (pick b (of_bits misfit (list_of e)) (leb (length s) (list_of e)))
  unfolding listless
  listless_is a b f g = ap₂ (λ (x y : Bool). pick x false (pick y (of_bits misfit (list_of e)) (leb (length s) (list_of e)))) f g

  -- the one SET of a cell, or none
  abbrev one : List Cmd
  one = pick (ltb (cell_of e) 64) (put (cell_of e) ∷ []) []

  orders_are : (a b c : Bool) → eqb (kind_of e) 0 ≡ a → eqb (kind_of e) 1 ≡ b → eqb (kind_of e) 2 ≡ c
      → orders s e ≡ pick a one (pick b (of_bits block (list_of e)) (pick c (only_sets (cmds_at s (list_of e))) (cmds_at s (list_of e))))
  unfolding orders
  orders_are a b c f g h =
      ap₂ (λ (x : Bool) (y : List Cmd). pick x one y) f
      (ap₂ (λ (x : Bool) (y : List Cmd). pick x (of_bits block (list_of e)) y) g
      (ap (λ (x : Bool). pick x (only_sets (cmds_at s (list_of e))) (cmds_at s (list_of e))) h))

  -- none, or one SET
  module _ (k : kind_of e ≡ 0) where
    pub none_listed : listless s e ≡ false
    unfolding pick
    none_listed = listless_is true (eqb (kind_of e) 1) (eq-eqb (kind_of e) 0 k) refl

    one_or_none : orders s e ≡ one
    unfolding pick
    one_or_none = orders_are true (eqb (kind_of e) 1) (eqb (kind_of e) 2) (eq-eqb (kind_of e) 0 k) refl refl

    pub none_ordered : 64 ≤ cell_of e → orders s e ≡ []
    none_ordered l = one_or_none ∙ pick_not_lt (cell_of e) 64 (put (cell_of e) ∷ []) [] l

    pub one_ordered : cell_of e < 64 → orders s e ≡ put (cell_of e) ∷ []
    one_ordered l = one_or_none ∙ pick_lt (cell_of e) 64 (put (cell_of e) ∷ []) [] l

  -- a block
  module _ (k : kind_of e ≡ 1) where
    some : kind_of e ≡ 0 → ⊥
    some z = omega arith

    pub block_listed : listless s e ≡ of_bits misfit (list_of e)
    unfolding pick
    block_listed = listless_is false true (ne_eqb (kind_of e) 0 some) (eq-eqb (kind_of e) 1 k)

    pub block_ordered : orders s e ≡ of_bits block (list_of e)
    unfolding pick
    block_ordered = orders_are false true (eqb (kind_of e) 2) (ne_eqb (kind_of e) 0 some) (eq-eqb (kind_of e) 1 k) refl

  -- a list
  module _ (k : kind_of e ≡ 0 → ⊥) (h : kind_of e ≡ 1 → ⊥) where
    pub list_listed : (b : Bool) → leb (length s) (list_of e) ≡ b → listless s e ≡ b
    unfolding pick
    list_listed b l = listless_is false false (ne_eqb (kind_of e) 0 k) (ne_eqb (kind_of e) 1 h) ∙ l

    pub all_ordered : (kind_of e ≡ 2 → ⊥) → orders s e ≡ cmds_at s (list_of e)
    unfolding pick
    all_ordered z = orders_are false false false (ne_eqb (kind_of e) 0 k) (ne_eqb (kind_of e) 1 h) (ne_eqb (kind_of e) 2 z)

  pub sets_ordered : kind_of e ≡ 2 → orders s e ≡ only_sets (cmds_at s (list_of e))
  unfolding pick
  sets_ordered k = orders_are false false true (ne_eqb (kind_of e) 0 (λ z. omega arith)) (ne_eqb (kind_of e) 1 (λ z. omega arith)) (eq-eqb (kind_of e) 2 k)
