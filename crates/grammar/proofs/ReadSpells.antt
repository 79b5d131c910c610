-- Reading is the grammar: a text is read to its end exactly as what it spells. Assumes nothing.
use Prim.Native.Nat.{ℕ, ◌≤◌, ◌<◌}
use mathlib.Core.Path.{◌≡◌, refl, ap, ◌∙◌}
use mathlib.Core.Logic.{◌↔◌, ◌⊎◌, inl, inr}
use mathlib.Core.List.{List}
use native.Mathlib.Omega.{arith}
use native.Mathlib.Decide.{dec_lt}
use lib.ListN.{length}
use Rattle.ground.specs.Lists.{Bytes}
use Rattle.pattern.specs.Pat.{Pat}
use Rattle.pattern.specs.Reader.{Res, ok, form, deep, alts, read}
use Rattle.pattern.specs.Grammar.{Spells, Legal, FormAt}
use Rattle.pattern.proofs.Laws.{Went, went, read_good}
use Rattle.grammar.specs.Answer.{Shallow}
use Rattle.grammar.proofs.Place.{form_place, close_place, whole_text, deep_place, never_deep, ok_not_deep}
use Rattle.grammar.proofs.Spelled.{read_legal, spells_one}

module _ (s : List ℕ) (bs : Bytes s) where
  -- without a limit of open groups
  pub read_spells : (p : Pat) → (read s alts 17 0 ≡ ok (length s) p) ↔ Spells alts s p
  read_spells p = (λ r. whole_text s bs 17 (length s) p r (omega arith), read_legal s p)

  -- A text is a legal pattern, or FORM has a place in it.
  legal_or : (r : Res) → read s alts 17 0 ≡ r → Legal s ⊎ ((q : ℕ) × FormAt s q)
  legal_or (form q) e = inr (q, form_place s bs 17 q e)
  legal_or (deep q) e = absurd (never_deep s bs 17 q (omega arith) e)
  legal_or (ok e' p) e = go (dec_lt e' (length s))
    where
      go : Dec (e' < length s) → Legal s ⊎ ((q : ℕ) × FormAt s q)
      go (yes l) = inr (e', close_place s bs 17 e' p e l)
      go (no l) = inl (p, whole_text s bs 17 e' p e (omega arith))

  pub legal_or_form : Legal s ⊎ ((q : ℕ) × FormAt s q)
  legal_or_form = legal_or (read s alts 17 0) refl

  ends : (e : ℕ) (p : Pat) → read s alts 0 0 ≡ ok e p → e ≤ length s
  ends e p r = let w : Went s alts 0 e p = went s alts 0 e p (read s alts 0 0) (read_good s alts 0 0 (omega arith)) r in w.inside

  read_shallow : (p : Pat) → Spells alts s p → Shallow s → (r : Res) → read s alts 0 0 ≡ r → read s alts 0 0 ≡ ok (length s) p
  read_shallow p x z (form q) e = absurd ((form_place s bs 0 q e).illegal (p, x))
  read_shallow p x z (deep q) e = absurd (z q (deep_place s bs q e))
  read_shallow p x z (ok e' p') e = go (dec_lt e' (length s))
    where
      go : Dec (e' < length s) → read s alts 0 0 ≡ ok (length s) p
      go (yes l) = absurd ((close_place s bs 0 e' p' e l).illegal (p, x))
      go (no l) = let h = ends e' p' e in let n : e' ≡ length s = omega arith in e ∙ ap (λ k. ok k p') n ∙ ap (ok (length s)) (spells_one s p' p (whole_text s bs 0 e' p' e (omega arith)) x)

  -- within the sixteen
  pub read_spells_16 : (p : Pat) → (read s alts 0 0 ≡ ok (length s) p) ↔ (Spells alts s p × Shallow s)
  read_spells_16 p = (λ r. (whole_text s bs 0 (length s) p r (omega arith), ok_not_deep s bs (length s) p r (omega arith)), λ x. read_shallow p x.0 x.1 (read s alts 0 0) refl)
