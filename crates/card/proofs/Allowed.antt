-- Laws of which kind of item may come where the form pass stands. Assumes nothing.
use Prim.Native.Nat.{ℕ, ◌<◌, ◌≤◌}
use native.Mathlib.Omega.{arith}
use mathlib.Core.Path.{◌≡◌, refl, sym, ap, ◌∙◌}
use mathlib.Core.Bool.{Bool, true, false}
use mathlib.Core.List.{List}
use lib.ListN.{get_or}
use lib.Dec.{leb}
use borrow.Author.Tests.{eq-eqb, ne_eqb, eqb-true, eqb-false, le-leb, leb-true, leb-false, lt-leb}
use Rattle.ground.specs.Pick.{pick}
use Rattle.card.specs.declared.form.Head.{Head}
use Rattle.card.specs.declared.form.Cursor.{Cursor}
use Rattle.std.proofs.Common.{Result, Ok, Err}
use Rattle.card.specs.declared.form.Kind.{Kind}
use Rattle.card.specs.declared.form.Kind.TheVariants.{Misplaced, Rows, Extra}
use Rattle.card.specs.Form.{whole, kind_fault, sit_step, row_step, move_step, set_step, body_step, fault_of, if_fine, step_form}
use Rattle.ground.proofs.Picks.{by_test}

-- ---- every situation has begun, and the last one has its row to 255

module _ (begun lo sits : ℕ) where
  Ready : Bool → Type 0
  Ready b = b ≡ true → (sits ≤ begun) × (lo ≡ 256)

  pub whole_told : whole begun lo sits ≡ true → (sits ≤ begun) × (lo ≡ 256)
  unfolding whole Ready
  whole_told = by_test Ready _ _ _ (λ a b. (leb-true sits begun a, eqb-true lo 256 b)) (λ _ z. absurd (let e : ◌≡◌ {A = ℕ} 0 1 = cc in omega arith))

  pub whole_made : sits ≤ begun → lo ≡ 256 → whole begun lo sits ≡ true
  unfolding pick whole
  whole_made a b = simp (le-leb sits begun a, eq-eqb lo 256 b)

  pub whole_short : begun < sits → whole begun lo sits ≡ false
  unfolding pick whole
  whole_short l = simp (lt-leb sits begun l)

  whole_by : (b : Bool) → leb sits begun ≡ b → (lo ≡ 256 → ⊥) → whole begun lo sits ≡ false
  unfolding pick whole
  whole_by true e n = simp (e, ne_eqb lo 256 n)
  whole_by false e n = simp e

  pub whole_open : (lo ≡ 256 → ⊥) → whole begun lo sits ≡ false
  whole_open n = whole_by (leb sits begun) refl n

-- ---- a kind with no fault

pub record Allowed (kind begun lo sits : ℕ) : Type 0 where
  pub least : 0x22 ≤ kind
  pub most : kind ≤ 0x25
  pub move : kind ≡ 0x24 → (0 < begun) × (0 < lo)
  pub set : kind ≡ 0x25 → 0 < lo
  pub row : kind ≡ 0x23 → (0 < begun) × (lo ≡ 256 → ⊥)
  pub sit : kind ≡ 0x22 → (lo ≡ 256) × (begun < sits)

module _ (kind begun lo sits : ℕ) where
  May : Result (Unit {0}) Kind → Type 0
  May r = r ≡ Ok tt → Allowed kind begun lo sits

  never : (k : Kind) → May (Err k)
  unfolding May
  never k z = cc

  below : (b : Bool) → leb sits begun ≡ b → lo ≡ 256 → whole begun lo sits ≡ false → begun < sits
  below true e h w = absurd (let z : ◌≡◌ {A = Bool} true false = sym (whole_made begun lo sits (leb-true sits begun e) h) ∙ w in let n : ◌≡◌ {A = ℕ} 0 1 = cc in omega arith)
  below false e h w = leb-false sits begun e

  pub kind_told : kind_fault kind begun lo sits ≡ Ok tt → Allowed kind begun lo sits
  unfolding kind_fault May
  kind_told =
      by_test May _ _ _
      (λ k. let k' = eqb-true kind 0x24 k in by_test May _ _ _ (λ _. never Misplaced) (λ a. by_test May _ _ _ (λ _. never Misplaced) (λ b _.
      let a' = eqb-false begun 0 a in
      let b' = eqb-false lo 0 b in
      record {
        least = omega arith;
        most = omega arith;
        move = λ _. (omega arith, omega arith);
        set = λ n. absurd (omega arith);
        row = λ n. absurd (omega arith);
        sit = λ n. absurd (omega arith);
      })))
      (λ _. by_test May _ _ _
      (λ k. let k' = eqb-true kind 0x25 k in by_test May _ _ _ (λ _. never Misplaced) (λ b _.
      let b' = eqb-false lo 0 b in
      record {
        least = omega arith;
        most = omega arith;
        move = λ n. absurd (omega arith);
        set = λ _. omega arith;
        row = λ n. absurd (omega arith);
        sit = λ n. absurd (omega arith);
      }))
      (λ _. by_test May _ _ _ (λ _. never Extra) (λ w. by_test May _ _ _
      (λ k. let k' = eqb-true kind 0x23 k in by_test May _ _ _ (λ _. never Misplaced) (λ a. by_test May _ _ _ (λ _. never Rows) (λ b _.
      let a' = eqb-false begun 0 a in
      record {
        least = omega arith;
        most = omega arith;
        move = λ n. absurd (omega arith);
        set = λ n. absurd (omega arith);
        row = λ _. (omega arith, eqb-false lo 256 b);
        sit = λ n. absurd (omega arith);
      })))
      (λ _. by_test May _ _ _
      (λ k. let k' = eqb-true kind 0x22 k in by_test May _ _ _ (λ b _.
      record {
        least = omega arith;
        most = omega arith;
        move = λ n. absurd (omega arith);
        set = λ n. absurd (omega arith);
        row = λ n. absurd (omega arith);
        sit = λ _. (eqb-true lo 256 b, below (leb sits begun) refl (eqb-true lo 256 b) w);
      }) (λ _. never Rows))
      (λ _. never Misplaced)))))

module _ (begun lo sits : ℕ) where
  pub kind_move : 0 < begun → 0 < lo → kind_fault 0x24 begun lo sits ≡ Ok tt
  unfolding pick kind_fault
  kind_move a b = simp (ne_eqb begun 0 (λ h. omega arith), ne_eqb lo 0 (λ h. omega arith))

  pub kind_set : 0 < lo → kind_fault 0x25 begun lo sits ≡ Ok tt
  unfolding pick kind_fault
  kind_set b = simp (ne_eqb lo 0 (λ h. omega arith))

  pub kind_row : 0 < begun → (lo ≡ 256 → ⊥) → kind_fault 0x23 begun lo sits ≡ Ok tt
  unfolding pick kind_fault
  kind_row a b = simp (ne_eqb begun 0 (λ h. omega arith), whole_open begun lo sits b, ne_eqb lo 256 b)

  pub kind_sit : lo ≡ 256 → begun < sits → kind_fault 0x22 begun lo sits ≡ Ok tt
  unfolding pick kind_fault
  kind_sit a b = simp (whole_short begun lo sits b, eq-eqb lo 256 a)

-- ---- the step is that of the item's kind

module _ (s : List ℕ) (h : Head) (f : Cursor) where
  pub step_bad : (k : Kind) → fault_of s h f ≡ Err k → Err k ≡ step_form s h f
  unfolding step_form
  step_bad k e = sym (ap (λ (r : Result (Unit {0}) Kind). if_fine r (body_step s h f)) e)

  step_body : fault_of s h f ≡ Ok tt → body_step s h f ≡ step_form s h f
  unfolding step_form
  step_body z = sym (ap (λ (r : Result (Unit {0}) Kind). if_fine r (body_step s h f)) z)

  pub step_sit : fault_of s h f ≡ Ok tt → get_or s f.at 0 ≡ 0x22 → sit_step s h f ≡ step_form s h f
  unfolding pick body_step
  step_sit z k = simp (eq-eqb _ 0x22 k) at (step_body z)

  pub step_row : fault_of s h f ≡ Ok tt → get_or s f.at 0 ≡ 0x23 → row_step s h f ≡ step_form s h f
  unfolding pick body_step
  step_row z k = simp (ne_eqb (get_or s f.at 0) 0x22 (λ n. omega arith), eq-eqb _ 0x23 k) at (step_body z)

  pub step_move : fault_of s h f ≡ Ok tt → get_or s f.at 0 ≡ 0x24 → move_step s h f ≡ step_form s h f
  unfolding pick body_step
  step_move z k = simp (ne_eqb (get_or s f.at 0) 0x22 (λ n. omega arith), ne_eqb (get_or s f.at 0) 0x23 (λ n. omega arith), eq-eqb _ 0x24 k) at (step_body z)

  pub step_set : fault_of s h f ≡ Ok tt → (get_or s f.at 0 ≡ 0x22 → ⊥) → (get_or s f.at 0 ≡ 0x23 → ⊥) → (get_or s f.at 0 ≡ 0x24 → ⊥) → set_step s h f ≡ step_form s h f
  unfolding pick body_step
  step_set z a b c = simp (ne_eqb (get_or s f.at 0) 0x22 a, ne_eqb (get_or s f.at 0) 0x23 b, ne_eqb (get_or s f.at 0) 0x24 c) at (step_body z)
