-- Laws of a reading. Assumes nothing.
use Prim.Native.Nat.{ℕ, ◌≤◌}
use mathlib.Core.Path.{◌≡◌, refl, sym, ap, ap₂, ◌∙◌}
use mathlib.Core.List.{List}
use denote.Ref.{Bor}
use lib.IntN.{ℤ}
use lib.ListN.{length, get_or-eq_default}
use mir.Syntax.{w16}
use mir.Val.{SFits, to_z, of_z}
use mir.ValLaws.{to_z-of_z}
use Rattle.std.specs.Prelude.{Some, None, Err}
use Rattle.ground.specs.Place.{Place, place_of, absent}
use Rattle.ground.proofs.Places.{at_none}
use Rattle.answers.specs.declared.Refusal.TheVariants.{FieldAbsent}
use Rattle.field.specs.Field.{cut_of, code_of, Handed}
use Rattle.field.proofs.Cuts.{one_part}
use Rattle.reading.specs.Reading.{position_of, cut_by}
use Rattle.reading.specs.declared.Reading.{Reading}

-- the two positions as the field call gets them: numbers of their bits
pub cut_found : (line : List ℕ) (places : List ℤ) (a b : ℕ) {x y : ℤ} → SFits w16 x → SFits w16 y → x ≡ position_of places a → y ≡ position_of places b
    → cut_of (length line) (place_of (to_z w16 (of_z w16 x))) (place_of (to_z w16 (of_z w16 y))) ≡ cut_by line places a b
unfolding cut_by
cut_found line places a b {x} {y} f g e h =
    ap₂ (λ (v w : ℤ). cut_of (length line) (place_of v) (place_of w)) (to_z-of_z w16 x f ∙ e) (to_z-of_z w16 y g ∙ h)

-- "a tag above 7 counting as absent"
pub above_seven : (places : List ℤ) (t : ℕ) → length places ≤ t → place_of (position_of places t) ≡ None
unfolding position_of
above_seven places t h = ap place_of (get_or-eq_default places absent h) ∙ at_none

second_absent : (n : ℕ) (p : Place) → cut_of n p None ≡ Err FieldAbsent
unfolding cut_of
second_absent n None = refl
second_absent n (Some a) = refl

first_absent : (n : ℕ) (q : Place) → cut_of n None q ≡ Err FieldAbsent
unfolding cut_of
first_absent n q = refl

-- so, whichever of the two it is, the answer is 17
pub from_above_seven : (line : List ℕ) (places : List ℤ) (a b : ℕ) → length places ≤ a → cut_by line places a b ≡ Err FieldAbsent
unfolding cut_by
from_above_seven line places a b h =
    ap (λ (p : Place). cut_of (length line) p (place_of (position_of places b))) (above_seven places a h) ∙ first_absent (length line) _

pub to_above_seven : (line : List ℕ) (places : List ℤ) (a b : ℕ) → length places ≤ b → cut_by line places a b ≡ Err FieldAbsent
unfolding cut_by
to_above_seven line places a b h =
    ap (cut_of (length line) (place_of (position_of places a))) (above_seven places b h) ∙ second_absent (length line) _

-- a second result that meets the promise of `position`, of `hold`, of `code` and `code_of`, or of
-- `part` and `part_of` is equal (a part: the same bytes at the same place of memory)
pub one_position : (places : List ℤ) (t : ℕ) {v w : ℤ} → v ≡ position_of places t → w ≡ position_of places t → v ≡ w
one_position places t e f = e ∙ sym f

pub one_reading : (line : Bor (List ℕ)) (places : List ℤ) {r s : Reading} → (r.line ≡ line) × (r.places ≡ places) → (s.line ≡ line) × (s.places ≡ places) → r ≡ s
one_reading line places e f = ap₂ (λ (l : Bor (List ℕ)) (p : List ℤ). record { line = l; places = p }) (e.0 ∙ sym f.0) (e.1 ∙ sym f.1)

pub one_code : (line : List ℕ) (places : List ℤ) (a b : ℕ) {v w : ℕ} → v ≡ code_of (cut_by line places a b) → w ≡ code_of (cut_by line places a b) → v ≡ w
one_code line places a b e f = e ∙ sym f

pub one_part_between : (line : Bor (List ℕ)) (places : List ℤ) (a b : ℕ) {r s : Bor (List ℕ)}
    → Handed line (cut_by line.now places a b) r → Handed line (cut_by line.now places a b) s → (r.now ≡ s.now) × (r.ref_ptr ≡ s.ref_ptr)
one_part_between line places a b h k = one_part line (cut_by line.now places a b) h k
