-- What the situation at a place tells. Assumes nothing.
use Prim.Native.Nat.{ℕ, ◌+◌, ◌<◌, ◌≤◌}
use mathlib.Core.Path.{◌≡◌, refl, sym, ap, ap₂, ◌∙◌}
use mathlib.Core.Bool.{Bool, true, false}
use mathlib.Core.Logic.{◌⊎◌, inl, inr}
use mathlib.Core.List.{List, [], ◌∷◌, map}
use lib.ListN.{length, get_or, take, drop}
use lib.Seq.{get_or-take}
use lib.IntN.{ℤ, pos}
use lib.Dec.{ltb, eqb}
use borrow.Author.Tests.{eq-eqb, ne_eqb, lt-ltb, le-ltb}
use Rattle.ground.specs.Pick.{pick}
use Rattle.ground.proofs.Tests.{lt_or_le}
use Rattle.card.specs.Run.{Bank, reg, absent, Told, refused}
use Rattle.run.specs.Carry.{field_at}
use Rattle.ride.specs.Ride.{end_at}
use Rattle.ride.specs.Need.{regs}

module _ (s : List ℕ) (bank : Bank) (at : ℕ) where
  abbrev matched : Told
  matched = record { code = 0; answer = get_or s (at + 1) 0; places = map (field_at bank) (take 8 (drop (at + 2) s)) }

  end_is : (a b : Bool) → ltb (length s) (at + 10) ≡ a → eqb (get_or s (at + 1) 0) 255 ≡ b
      → pick a (refused 13) (pick b (refused 16) matched) ≡ end_at s bank at
  unfolding end_at
  end_is a b h k = sym (ap₂ (λ (x y : Bool). pick x (refused 13) (pick y (refused 16) matched)) h k)

  pub tell_short : length s < at + 10 → refused 13 ≡ end_at s bank at
  unfolding pick
  tell_short l = end_is true (eqb (get_or s (at + 1) 0) 255) (lt-ltb (length s) (at + 10) l) refl

  module _ (l : at + 10 ≤ length s) where
    pub end_of : pick (eqb (get_or s (at + 1) 0) 255) (refused 16) matched ≡ end_at s bank at
    unfolding pick
    end_of = end_is false (eqb (get_or s (at + 1) 0) 255) (le-ltb (length s) (at + 10) l) refl

    pub tell_none : get_or s (at + 1) 0 ≡ 255 → refused 16 ≡ end_at s bank at
    unfolding pick
    tell_none e = end_is false true (le-ltb (length s) (at + 10) l) (eq-eqb (get_or s (at + 1) 0) 255 e)

    pub tell_some : (get_or s (at + 1) 0 ≡ 255 → ⊥) → {fields : List ℤ} → fields ≡ map (field_at bank) (take 8 (drop (at + 2) s))
        → record { code = 0; answer = get_or s (at + 1) 0; places = fields } ≡ end_at s bank at
    unfolding pick
    tell_some n f =
        ap (λ (x : List ℤ). record { code = 0; answer = get_or s (at + 1) 0; places = x }) f
        ∙ end_is false false (le-ltb (length s) (at + 10) l) (ne_eqb (get_or s (at + 1) 0) 255 n)

-- ---- the fields name registers, so no other cell is told

regs_field : (bank : Bank) (f : ℕ) → (f < 64) ⊎ (64 ≤ f) → field_at bank f ≡ field_at (regs bank) f
unfolding pick
regs_field bank f (inl h) = ap (λ (x : ℤ). pick (ltb f 64) x absent) (sym (get_or-take 64 bank f (pos 0) h))
regs_field bank f (inr h) =
    ap (λ (b : Bool). pick b (reg bank f) absent) (le-ltb f 64 h)
    ∙ sym (ap (λ (b : Bool). pick b (reg (regs bank) f) absent) (le-ltb f 64 h))

pub regs_fields : (bank : Bank) (l : List ℕ) → map (field_at bank) l ≡ map (field_at (regs bank)) l
regs_fields bank [] = refl
regs_fields bank (f ∷ l) = ap₂ (λ (x : ℤ) (m : List ℤ). x ∷ m) (regs_field bank f (lt_or_le f 64)) (regs_fields bank l)
