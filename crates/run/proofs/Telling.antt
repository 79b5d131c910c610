-- What the situation at the end of a line tells. Assumes nothing.
use Prim.Native.Nat.{ℕ, ◌+◌, ◌<◌, ◌≤◌}
use native.Mathlib.Omega.{arith}
use mathlib.Core.Path.{◌≡◌, sym, ap, ◌∙◌, subst}
use mathlib.Core.Bool.{Bool}
use mathlib.Core.Logic.{◌⊎◌, inl, inr, ⊎_elim}
use mathlib.Core.List.{List, map}
use lib.ListN.{length, get_or, take, drop}
use lib.Seq.{get_or-take, get_or-drop}
use lib.IntN.{ℤ}
use borrow.Author.Tests.{eq-eqb, ne_eqb}
use Rattle.ground.specs.Pick.{pick}
use Rattle.card.specs.Table.{Sit, FormedSit}
use Rattle.card.specs.Run.{Bank, at, over, sit, Told, refused, place_at, ends, tells}
use Rattle.card.specs.Decode.{sit_at, table_at}
use Rattle.loader.specs.Flow.{Ready}
use Rattle.loader.proofs.Shape.{in_table}
use Rattle.loader.proofs.Situated.{table_long, sit_here, room_here, fields_here}
use Rattle.run.specs.Carry.{Eight}

module _ {s places : List ℕ} (ready : Ready s places) {q : ℕ} (l : q < get_or s 4 0) where
  pub answer_room : get_or places q 0 + 14 ≤ length s
  answer_room = room_here ready l

  formed_sit : FormedSit (table_at s).tags (table_at s).registers (length (table_at s).sits) (sit (table_at s) q)
  formed_sit = in_table (table_at s) ready.formed q (omega (arith, table_long s))

  -- the eight fields of a situation
  pub eight : Eight s (get_or places q 0 + 2)
  eight = record {
    room = let r = answer_room in omega arith;
    fields = λ t h.
        subst (λ (x : ℕ). (x ≡ 255) ⊎ (x < 64)) (at_field t h)
        (⊎_elim (λ (e : get_or (sit (table_at s) q).fields t 0 ≡ 255). inl e)
        (λ (e : get_or (sit (table_at s) q).fields t 0 < (table_at s).registers). inr (let k = ready.formed.registers in omega arith))
        (formed_sit.fields t h).register);
  }
    where
      at_field : (t : ℕ) → t < 8 → get_or (sit (table_at s) q).fields t 0 ≡ get_or s (get_or places q 0 + 2 + t) 0
      at_field t h =
          ap (λ (x : List ℕ). get_or x t 0) (sym (fields_here ready l)) ∙ get_or-take 8 (drop (get_or places q 0 + 2) s) t 0 h
          ∙ get_or-drop (get_or places q 0 + 2) s t 0

  answer_here : get_or s (get_or places q 0 + 1) 0 ≡ (sit (table_at s) q).answer
  unfolding sit_at
  answer_here = sym (ap (λ (x : Sit). x.answer) (sit_here ready l))

  -- the result where there is an answer
  abbrev matched : Bank → Told
  matched bank = record { code = 0; answer = (sit (table_at s) q).answer; places = map (place_at bank) (sit (table_at s) q).fields }

  module _ {bank : Bank} (w : List ℕ) (e : at q bank ≡ over (table_at s) w) where
    pub tells_none : get_or s (get_or places q 0 + 1) 0 ≡ 255 → refused 16 ≡ tells (table_at s) w
    unfolding pick
    tells_none a =
        sym (ap (λ (b : Bool). pick b (refused 16) (matched bank)) (eq-eqb (sit (table_at s) q).answer 255 (sym answer_here ∙ a)))
        ∙ ap (ends (table_at s)) e

    pub tells_some : (get_or s (get_or places q 0 + 1) 0 ≡ 255 → ⊥) → (fields : List ℤ)
        → fields ≡ map (place_at bank) (take 8 (drop (get_or places q 0 + 2) s))
        → record { code = 0; answer = get_or s (get_or places q 0 + 1) 0; places = fields } ≡ tells (table_at s) w
    unfolding pick
    tells_some n fields f =
        ap (λ (x : ℕ). record { code = 0; answer = x; places = fields }) answer_here
        ∙ ap (λ (x : List ℤ). record { code = 0; answer = (sit (table_at s) q).answer; places = x })
        (f ∙ ap (λ (x : List ℕ). map (place_at bank) x) (fields_here ready l))
        ∙ sym (ap (λ (b : Bool). pick b (refused 16) (matched bank))
        (ne_eqb (sit (table_at s) q).answer 255 (λ a. n (answer_here ∙ a))))
        ∙ ap (ends (table_at s)) e
