-- Laws of the eight fields of a SITUATION, as the form pass tests them. Assumes nothing.
use Prim.Native.Nat.{ℕ, zero, suc, ◌+◌, ◌<◌, ◌≤◌}
use native.Mathlib.Omega.{arith}
use native.Mathlib.Nat.{eq-or-lt_of_le}
use mathlib.Core.Path.{◌≡◌, refl, sym, ap, ◌∙◌}
use mathlib.Core.Logic.{inl, inr, ⊎_elim}
use mathlib.Core.Bool.{Bool, true, false, ◌&&◌}
use mathlib.Core.List.{List}
use lib.ListN.{get_or}
use lib.Dec.{leb, eqb}
use borrow.Author.Tests.{ne_eqb, eqb-true, eqb-false, leb-true, leb-false, lt-leb, lt-ltb, ltb-true}
use Rattle.std.specs.List.{list_all, range_with_len}
use Rattle.ground.specs.Pick.{pick}
use Rattle.card.specs.Table.{Field}
use Rattle.card.specs.Form.{field_ok, fields_ok}
use Rattle.ground.proofs.Picks.{by_test}
use Rattle.ground.proofs.Tests.{both_yes}

module _ (x t answer tags regs : ℕ) where
  Right : Bool → Type 0
  Right b = b ≡ true → Field tags regs answer t x

  -- a field that passes is right, and a right one passes
  pub field_told : field_ok x t answer tags regs ≡ true → Field tags regs answer t x
  unfolding field_ok Right
  field_told =
      by_test Right _ _ _
      (λ e _. let h = eqb-true x 255 e in record { register = inl h; past = λ _. h; none = λ _. h })
      (λ _. by_test Right _ _ _ (λ _ z. absurd (never z)) (λ a. by_test Right _ _ _ (λ _ z. absurd (never z)) (λ b c.
      record {
        register = inr (ltb-true x regs c);
        past = λ l. absurd (omega (arith, leb-false tags t b));
        none = λ z. absurd (eqb-false answer 255 a z);
      })))
    where
      never : false ≡ true → ⊥
      never z = let e : ◌≡◌ {A = ℕ} 0 1 = cc in omega arith

  below : (b : Bool) → leb tags t ≡ b → (x ≡ 255 → ⊥) → Field tags regs answer t x → t < tags
  below true e ne f = absurd (ne (f.past (leb-true tags t e)))
  below false e ne f = leb-false tags t e

  by_255 : (b : Bool) → eqb x 255 ≡ b → Field tags regs answer t x → field_ok x t answer tags regs ≡ true
  unfolding pick field_ok
  by_255 true e f = simp e
  by_255 false e f =
      let ne = eqb-false x 255 e in
      let r : x < regs = ⊎_elim (λ h. absurd (ne h)) (λ h. h) f.register in
      simp (e, ne_eqb answer 255 (λ h. ne (f.none h)), lt-leb tags t (below (leb tags t) refl ne f), lt-ltb x regs r)

  pub field_made : Field tags regs answer t x → field_ok x t answer tags regs ≡ true
  field_made f = by_255 (eqb x 255) refl f

-- ---- a test of all numbers from a on

module _ (p : ℕ → Bool) where
  all_told : (n a : ℕ) → list_all p (range_with_len a n) ≡ true → (k : ℕ) → a ≤ k → k < a + n → p k ≡ true
  all_told zero a e k g l = absurd (omega arith)
  all_told (suc n) a e k g l =
      let b = both_yes (p a) _ e in
      ⊎_elim (λ (h : a ≡ k). sym (ap p h) ∙ b.0) (λ (h : a < k). all_told n (a + 1) b.1 k (omega arith) (omega arith)) (eq-or-lt_of_le g)

  all_made : (n a : ℕ) → ((k : ℕ) → a ≤ k → k < a + n → p k ≡ true) → list_all p (range_with_len a n) ≡ true
  all_made zero a f = refl
  all_made (suc n) a f = ap (λ (b : Bool). b && list_all p (range_with_len (a + 1) n)) (f a (omega arith) (omega arith)) ∙ all_made n (a + 1) (λ k g l. f k (omega arith) (omega arith))

module _ (s : List ℕ) (at answer tags regs : ℕ) where
  pub fields_told : fields_ok s at answer tags regs ≡ true → (t : ℕ) → t < 8 → Field tags regs answer t (get_or s (at + t) 0)
  unfolding fields_ok
  fields_told e t l =
      field_told (get_or s (at + t) 0) t answer tags regs
      (all_told (λ t. field_ok (get_or s (at + t) 0) t answer tags regs) 8 0 e t (omega arith) (omega arith))

  pub fields_made : ((t : ℕ) → t < 8 → Field tags regs answer t (get_or s (at + t) 0)) → fields_ok s at answer tags regs ≡ true
  unfolding fields_ok
  fields_made f = all_made (λ t. field_ok (get_or s (at + t) 0) t answer tags regs) 8 0 (λ t g l. field_made (get_or s (at + t) 0) t answer tags regs (f t (omega arith)))
