-- What a byte does, from the next situation and where its registers come from. Assumes nothing.
use mathlib.Core.Path.{◌≡◌, refl, sym, ap, ◌∙◌, subst}
use mathlib.Core.Bool.{false}
use mathlib.Core.List.{List, [], map}
use Prim.Native.Nat.{ℕ, ◌+◌, ◌≤◌, ◌<◌}
use native.Mathlib.Omega.{arith}
use lib.ListN.{length, get_or}
use Rattle.std.specs.Prelude.{Option, None, Some, IsSome}
use Rattle.std.proofs.lemmas.Bool.{true≢false}
use Rattle.paths.specs.Registers.{registers, next, origins}
use Rattle.paths.specs.Equal.{same_situation}
use Rattle.paths.specs.Numbering.{among}
use Rattle.explore.specs.Lists.{position}
use Rattle.explore.specs.Keys.{keys_at, Is, Stepped}
use Rattle.explore.specs.Slots.{slot, Placed}
use Rattle.explore.proofs.Exploration.{slots_length, slots_at}
use Rattle.explore.proofs.Closed.{found_at}
use Rattle.build.specs.Card.{commands}
use Rattle.build.specs.Orders.{orders_of}
use Rattle.build.specs.Writing.{Does, net_in, all_in, Sound, Stands}
use Rattle.build.specs.declared.Found.{Found}
use Rattle.build.specs.declared.orders.Orders.{Orders}

module _ {f : Found} {s : List ℕ} {b : ℕ} (h : Sound f) (g : Stands f s) (lt : b < 256) where
  -- what is stored needs at most 64 registers
  small : length (registers (next (net_in f) b (slot s 0))) ≤ 64
  small =
      let l = next (net_in f) b (slot s 0) in
      let w = f.work.now in
      let e = found_at l (all_in f) (g.leads b lt) in
      let c : e.0 < f.count = omega (arith, e.1.0, slots_length w 0 f.count) in
      let z : 0 + e.0 ≡ e.0 = omega arith in
      subst (λ v. length (registers v) ≤ 64) (ap (slot w) (sym z) ∙ sym (slots_at w 0 f.count e.0 [] c) ∙ e.1.1) (h.explored.0.holds e.0 c).small

  module _ {v r : List ℕ} where
    pub steps : (a : Option ℕ) → Stepped (net_in f) (length f.offs.now) b (slot s 0) v r a → IsSome a
    steps None step = let o : 64 < length (registers (next (net_in f) b (slot s 0))) = step.what in absurd (omega (arith, o, small))
    steps (Some t) step = refl

    module _ (a : Option ℕ) (step : Stepped (net_in f) (length f.offs.now) b (slot s 0) v r a) {t : ℕ} (fine : a ≡ Some t) where
      goes : Stepped (net_in f) (length f.offs.now) b (slot s 0) v r (Some t)
      goes = subst (λ x. Stepped (net_in f) (length f.offs.now) b (slot s 0) v r x) fine step

      it : Is (next (net_in f) b (slot s 0)) v t
      it = goes.what.0

      pub few : t ≤ 64
      few = it.few

      pub stored : (p : Option ℕ) → Placed f.work.now f.count (slot v 0) p → IsSome p
      stored None h = absurd (true≢false (sym (g.leads b lt) ∙ subst (λ v. among same_situation v (all_in f) ≡ false) it.sit h))
      stored (Some j) h = refl

      pub does : (p : Option ℕ) → Placed f.work.now f.count (slot v 0) p → {j : ℕ} → p ≡ Some j → {c : Orders} → orders_of c ≡ commands (get_or s 1 0) 0 (map (λ k. k.1) (keys_at r 0 t))
          → Does (net_in f) (all_in f) (slot s 0) b (record { next = j; orders = c })
      does p placed at e =
          record {
            next = (subst (λ x. Placed f.work.now f.count (slot v 0) x) at placed).first ∙ ap (λ v. position same_situation v (all_in f)) it.sit;
            cmds = e ∙ ap (commands (get_or s 1 0) 0) goes.what.1 ∙ ap (λ v. commands v 0 (origins (net_in f) b (slot s 0))) g.holds.count;
          }
