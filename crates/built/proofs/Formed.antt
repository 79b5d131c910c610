-- The builder's table has the form of document 01. Assumes nothing.
use mathlib.Core.Path.{◌≡◌, refl, sym, ◌∙◌, subst}
use mathlib.Core.Logic.{inl, inr}
use mathlib.Core.List.{List, [], ◌∷◌, map, Memᴰ}
use mathlib.Core.Option.{Option, none, some}
use Prim.Native.Nat.{ℕ, ◌≤◌, ◌<◌}
use native.Mathlib.Omega.{arith}
use lib.ListN.{length, get_or, replicate, length-map, length-replicate, get_or-replicate}
use Rattle.ground.proofs.Lists.{get_or_map}
use Rattle.net.specs.Rec.{Net}
use Rattle.paths.specs.Situation.{first_end}
use Rattle.paths.specs.Registers.{Tags, situation, next, origins}
use Rattle.paths.specs.Equal.{same_situation}
use Rattle.paths.proofs.Builder.{situation_test}
use Rattle.explore.specs.Lists.{span}
use Rattle.card.specs.Table.{put, Rising, Field, FormedSit, FormedSits, Formed}
use Rattle.build.specs.Card.{State, states, need, most, byte_row, answer_of, field_of, fields_of, sit_of, card_of, table_of}
use Rattle.built.specs.Fits.{Fits}
use Rattle.built.proofs.Spans.{position_at, replicate_in}
use Rattle.built.proofs.States.{first_state, next_state, most_bound, most_least}
use Rattle.built.proofs.Commands.{origins_bound, origins_many, rising, start_commands, start_sets}
use Rattle.built.proofs.Rows.{rows_upward}
use Rattle.built.proofs.Ends.{state_sound, ended}

module _ {tags : ℕ} {A : Net} (fits : Fits tags A) where
  -- ---- a row

  good_row : (s : State) → Memᴰ s (states A) → (b : ℕ) → b < 256
      → ((byte_row A (states A) s b).next < length (states A)) × Rising (most (states A)) 0 (byte_row A (states A) s b).cmds
  good_row s m b h =
      let n = next_state fits m h in
      let q = most_bound (next A b s) n in
      let z = most_bound s m in
      let l = origins_many A b s in
      ((position_at same_situation situation_test [] (next A b s) n).0, rising (most (states A)) (need s) 0 0 (origins A b s) (omega arith) (omega arith) (omega arith) (origins_bound A b s (state_sound A s m)))

  -- ---- a situation

  field_formed : (R e t : ℕ) (o : Option ℕ) → (tags ≤ t → o ≡ none) → e ≤ 254 → ((r : ℕ) → o ≡ some r → r < R) → Field tags R e t (field_of o)
  field_formed R e t none g l b = record { register = inl refl; past = λ _. refl; none = λ _. refl }
  field_formed R e t (some r) g l b =
      record { register = inr (b r refl); past = λ k. let q = g k in let z : ◌≡◌ {A = ℕ} 0 1 = cc in absurd (omega arith); none = λ k. absurd (omega arith) }

  fields_formed : (s : State) → Memᴰ s (states A) → (o : Option (ℕ × Tags)) → first_end A s ≡ o
      → (answer_of o ≤ 255) × (length (fields_of o) ≡ 8) × ((t : ℕ) → t < 8 → Field tags (most (states A)) (answer_of o) t (get_or (fields_of o) t 0))
  fields_formed s m none p = (omega arith, refl, λ t h. let q = get_or-replicate {A = ℕ} 8 t 255 0 h in record { register = inl q; past = λ _. q; none = λ _. q })
  fields_formed s m (some x) p =
      let d = ended fits s m x.0 x.1 p in
      let z = most_bound s m in (
        omega (arith, d.small),
        length-map x.1 field_of ∙ d.eight.size,
        λ t h. (
            let g = get_or_map field_of x.1 t none 0 (omega (arith, d.eight.size)) in
            subst (Field tags (most (states A)) x.0 t) (sym g)
            (field_formed (most (states A)) x.0 t (get_or x.1 t none) (d.eight.past t) d.small (λ r q. omega (arith, d.below t r q)))
            ),
      )

  sit_formed : (s : State) → Memᴰ s (states A) → FormedSit tags (most (states A)) (length (states A)) (sit_of A (states A) s)
  unfolding sit_of
  sit_formed s m =
      let f = fields_formed s m (first_end A s) refl in
      record { answer = f.0; eight = f.1; fields = f.2; rows = rows_upward (byte_row A (states A) s) (λ b. refl) (λ b. refl) (most (states A)) (length (states A)) (good_row s m) }

  sits_formed : (l : List State) → ((s : State) → Memᴰ s l → Memᴰ s (states A)) → FormedSits tags (most (states A)) (length (states A)) (map (sit_of A (states A)) l)
  sits_formed [] h = tt
  sits_formed (s ∷ l) h = (sit_formed s (h s (Memᴰ.head refl)), sits_formed l (λ t m. h t (Memᴰ.tail m)))

  -- THE FORM
  pub table_formed : Formed (table_of tags A)
  unfolding table_of card_of
  table_formed =
      let n = length-map (states A) (sit_of A (states A)) in
      let z = (first_state A).0 in
      let k = fits.few in
      record {
        tags = fits.legal.few_tags;
        registers = most_least 64 (states A) fits.slim;
        some = omega arith;
        most = omega arith;
        sets = start_sets 0 (need (situation A []));
        start = start;
        sits = subst (λ v. FormedSits tags (most (states A)) v (map (sit_of A (states A)) (states A))) (sym n) (sits_formed (states A) (λ s m. m));
      }
    where
      start : Rising (most (states A)) 0 (map put (span 0 (need (situation A []))))
      start =
          let l = length-replicate {A = ℕ} (need (situation A [])) 0 in
          let q = most_bound (situation A []) (fits.complete [] tt) in
          subst (Rising (most (states A)) 0) (sym (start_commands 0 (need (situation A []))))
          (rising (most (states A)) 0 0 0 (replicate (need (situation A [])) 0) (omega arith) (omega arith) (omega arith) (λ o m. omega (arith, replicate_in (need (situation A [])) m)))
