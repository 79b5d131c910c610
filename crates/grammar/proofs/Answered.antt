-- The pattern maker's answer, in the words of the grammar: it is one of the cases of document 01's checks, and there is one such answer.
-- Assumes nothing.
use Prim.Native.Nat.{ℕ, ◌≤◌, ◌<◌}
use mathlib.Core.Path.{◌≡◌, refl, sym, ap, subst, ◌∙◌}
use mathlib.Core.Logic.{◌↔◌}
use mathlib.Core.List.{List}
use native.Mathlib.Omega.{arith}
use native.Mathlib.Decide.{dec_lt, dec_le}
use lib.ListN.{length}
use Rattle.ground.proofs.Picks.{pick_lt, pick_not_lt, pick_le, pick_not_le}
use Rattle.ground.specs.Lists.{Bytes}
use Rattle.answers.specs.Answers.{PATTERN_LONG, PATTERN_FORM, PATTERN_DEEP, PATTERN_BIG, OUT_SMALL}
use Rattle.pattern.specs.Pat.{Pat, size}
use Rattle.pattern.specs.Reader.{Res, alts, read}
use Rattle.pattern.specs.Reader.Res.{ok, form, deep}
use Rattle.pattern.specs.Grammar.{FormAt, DeepAt}
use Rattle.pattern.specs.Maker as maker
use Rattle.pattern.specs.Maker.{Given, refuse, written, file, judged}
use Rattle.grammar.specs.Answer as answer
use Rattle.grammar.specs.Answer.{Legible, Fault, Answered}
use Rattle.grammar.proofs.Place.{one_place, deep_before_form, form_place, close_place, whole_text, deep_place, deep_first, form_not_deep, close_not_deep, ok_not_deep}
use Rattle.grammar.proofs.ReadSpells.{read_spells_16}

module _ (s out : List ℕ) where
  -- the checks of a text that is not too long, and of one that is read
  pub maker_long : 255 < length s → maker.maker s out ≡ refuse PATTERN_LONG 0 out
  unfolding maker.maker
  maker_long h = pick_lt 255 (length s) _ _ h

  pub maker_short : length s ≤ 255 → (r : Res) → read s alts 0 0 ≡ r → maker.maker s out ≡ judged r s out
  unfolding maker.maker
  maker_short h r e = pick_not_lt 255 (length s) _ _ h ∙ ap (λ x. judged x s out) e

  made_big : (p : Pat) → 64 ≤ size p → maker.made p out ≡ refuse PATTERN_BIG 0 out
  made_big p h = pick_le 64 (size p) _ _ h

  made_small : (p : Pat) → size p < 64 → length out < length (file p) → maker.made p out ≡ refuse OUT_SMALL 0 out
  made_small p h g = pick_not_le 64 (size p) _ _ h ∙ pick_lt (length out) (length (file p)) _ _ g

  made_whole : (p : Pat) → size p < 64 → length (file p) ≤ length out → maker.made p out ≡ written (file p) out
  made_whole p h g = pick_not_le 64 (size p) _ _ h ∙ pick_not_lt (length out) (length (file p)) _ _ g

  module _ (bs : Bytes s) where
    -- of a good text
    good_read : (p : Pat) → Legible s p → maker.maker s out ≡ maker.made p out
    good_read p g = maker_short g.short (ok (length s) p) ((read_spells_16 s bs p).1 (g.spells, g.shallow)) ∙ pick_not_lt (length s) (length s) _ _ (omega arith)

    -- Whatever the grammar says is answered is what the maker answers.
    form_answered : (q : ℕ) → length s ≤ 255 → FormAt s q → ((k : ℕ) → DeepAt s k → q < k) → (r : Res) → read s alts 0 0 ≡ r → refuse PATTERN_FORM q out ≡ maker.maker s out
    form_answered q h f d (form q') e = sym (maker_short h (form q') e ∙ ap (λ k. refuse PATTERN_FORM k out) (one_place s q' q (form_place s bs 0 q' e) f))
    form_answered q h f d (deep q') e = let z = deep_place s bs q' e in let a = d q' z in let b = deep_before_form s bs q' q z f in absurd (omega arith)
    form_answered q h f d (ok e' p) e = go (dec_lt e' (length s))
      where
        go : Dec (e' < length s) → refuse PATTERN_FORM q out ≡ maker.maker s out
        go (yes l) = sym (maker_short h (ok e' p) e ∙ pick_lt e' (length s) _ _ l ∙ ap (λ k. refuse PATTERN_FORM k out) (one_place s e' q (close_place s bs 0 e' p e l) f))
        go (no l) = absurd (f.illegal (p, whole_text s bs 0 e' p e (omega arith)))

    deep_answered : (q : ℕ) → length s ≤ 255 → DeepAt s q → ((k : ℕ) → DeepAt s k → q ≤ k) → (r : Res) → read s alts 0 0 ≡ r → refuse PATTERN_DEEP q out ≡ maker.maker s out
    deep_answered q h z d (form q') e = absurd (form_not_deep s bs q' e q z)
    deep_answered q h z d (deep q') e = go (dec_lt q q')
      where
        go : Dec (q < q') → refuse PATTERN_DEEP q out ≡ maker.maker s out
        go (yes l) = absurd (deep_first s bs q' e q z l)
        go (no l) = let a = d q' (deep_place s bs q' e) in let n : q' ≡ q = omega arith in sym (maker_short h (deep q') e ∙ ap (λ k. refuse PATTERN_DEEP k out) n)
    deep_answered q h z d (ok e' p) e = go (dec_lt e' (length s))
      where
        go : Dec (e' < length s) → refuse PATTERN_DEEP q out ≡ maker.maker s out
        go (yes l) = absurd (close_not_deep s bs e' p e l q z)
        go (no l) = absurd (ok_not_deep s bs e' p e (omega arith) q z)

    pub answered_maker : {g : Given} → Answered s out g → g ≡ maker.maker s out
    answered_maker (answer.long h) = sym (maker_long h)
    answered_maker (answer.form {q = q} h f d) = form_answered q h f d (read s alts 0 0) refl
    answered_maker (answer.deep {q = q} h z d f) = deep_answered q h z d (read s alts 0 0) refl
    answered_maker (answer.big {p = p} g h) = sym (good_read p g ∙ made_big p h)
    answered_maker (answer.small {p = p} g h l) = sym (good_read p g ∙ made_small p h l)
    answered_maker (answer.made {p = p} g h l) = sym (good_read p g ∙ made_whole p h l)

    -- Of every text one of the cases holds.
    made_answered : (p : Pat) → Legible s p → Answered s out (maker.maker s out)
    made_answered p g = go (dec_le 64 (size p)) (dec_lt (length out) (length (file p)))
      where
        go : Dec (64 ≤ size p) → Dec (length out < length (file p)) → Answered s out (maker.maker s out)
        go (yes b) x = subst (Answered s out) (sym (good_read p g ∙ made_big p b)) (answer.big g b)
        go (no b) (yes l) = subst (Answered s out) (sym (good_read p g ∙ made_small p (omega arith) l)) (answer.small g (omega arith) l)
        go (no b) (no l) = subst (Answered s out) (sym (good_read p g ∙ made_whole p (omega arith) (omega arith))) (answer.made g (omega arith) (omega arith))

    read_answered : length s ≤ 255 → (r : Res) → read s alts 0 0 ≡ r → Answered s out (maker.maker s out)
    read_answered h (form q) e = subst (Answered s out) (sym (maker_short h (form q) e)) (answer.form h (form_place s bs 0 q e) (λ k z. absurd (form_not_deep s bs q e k z)))
    read_answered h (deep q) e = subst (Answered s out) (sym (maker_short h (deep q) e)) (answer.deep h z (λ k y. first k y (dec_lt k q)) (λ k f. deep_before_form s bs q k z f))
      where
        z : DeepAt s q
        z = deep_place s bs q e

        first : (k : ℕ) → DeepAt s k → Dec (k < q) → q ≤ k
        first k y (yes l) = absurd (deep_first s bs q e k y l)
        first k y (no l) = omega arith
    read_answered h (ok e' p) e = go (dec_lt e' (length s))
      where
        go : Dec (e' < length s) → Answered s out (maker.maker s out)
        go (yes l) = subst (Answered s out) (sym (maker_short h (ok e' p) e ∙ pick_lt e' (length s) _ _ l)) (answer.form h (close_place s bs 0 e' p e l) (λ k z. absurd (close_not_deep s bs e' p e l k z)))
        go (no l) = made_answered p (record { short = h; spells = whole_text s bs 0 e' p e (omega arith); shallow = ok_not_deep s bs e' p e (omega arith) })

    pub maker_answered : Answered s out (maker.maker s out)
    maker_answered = go (dec_lt 255 (length s))
      where
        go : Dec (255 < length s) → Answered s out (maker.maker s out)
        go (yes h) = subst (Answered s out) (sym (maker_long h)) (answer.long h)
        go (no h) = read_answered (omega arith) (read s alts 0 0) refl

    -- The answer is unique.
    pub answered_one : {g h : Given} → Answered s out g → Answered s out h → g ≡ h
    answered_one a b = answered_maker a ∙ sym (answered_maker b)

    -- The maker's promise is the grammar's: an answer is the maker's exactly if document 01's checks give it.
    pub maker_exactly : (g : Given) → (g ≡ maker.maker s out) ↔ Answered s out g
    maker_exactly g = (λ e. subst (Answered s out) (sym e) maker_answered, answered_maker)

    -- "the leftmost of PATTERN_FORM and PATTERN_DEEP" is answered
    pub leftmost : {c q : ℕ} → length s ≤ 255 → Fault s c q → ((c' q' : ℕ) → Fault s c' q' → q ≤ q') → maker.maker s out ≡ refuse c q out
    leftmost h (answer.form_fault {q = q} f) first = sym (form_answered q h f (λ k z. let a = first PATTERN_DEEP k (answer.deep_fault z) in let b = deep_before_form s bs k q z f in absurd (omega arith)) (read s alts 0 0) refl)
    leftmost h (answer.deep_fault {q = q} z) first = sym (deep_answered q h z (λ k y. first PATTERN_DEEP k (answer.deep_fault y)) (read s alts 0 0) refl)
