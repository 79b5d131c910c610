-- The names of the classes, compared. Assumes nothing.
use Rattle.std.proofs.Common.{◌≡◌, ℕ, ◌+◌, ◌<◌, Bool, true, false, ◌&&◌, List, [], ◌∷◌, Some, map, length, get_or, drop, refl, sym, ap, ◌∙◌, eqb, add-one, drop-cons}
use Rattle.std.proofs.Math.ListN as nth
use Rattle.std.proofs.Math.Dec.{eqb-zero-suc, eqb-suc-suc}
use Rattle.std.proofs.lemmas.List as list
use Rattle.std.specs.List.{starts_with}
use Rattle.std.specs.Borrow.{Bor}
use Rattle.ground.specs.Pick.{pick}
use Rattle.pattern.specs.Sets.{names, word_of, against, or_else, seek, whole, begun, none}
use Rattle.pattern.specs.Standing.{word, told}
use Rattle.pattern.specs.declared.sets.Word.{Word}
use Rattle.pattern.specs.declared.sets.Word.TheVariants.{Whole, Begun}

-- the table of the words
pub now_at : (xs : List (Bor (List ℕ))) (d : Bor (List ℕ)) (k : ℕ) → (get_or xs k d).now ≡ get_or (map (λ (x : Bor (List ℕ)). x.now) xs) k d.now
now_at xs d k = sym (nth.get_or-map (λ (x : Bor (List ℕ)). x.now) xs k d)

pub word_at : (k : ℕ) (d : List ℕ) → k < 12 → get_or (map word_of names) k d ≡ word k
unfolding word
word_at k d h = list.get_or-map word_of names k [] d h

-- bytes against a word: as the library tells it
pub against_is : (w v : List ℕ) (k : ℕ) → against w v k ≡ pick (starts_with eqb v w) (pick (eqb (length w) (length v)) (whole k) begun) none
unfolding pick
against_is [] [] k = refl
against_is [] (d ∷ v) k = rw eqb-zero-suc
against_is (c ∷ w) [] k = refl
against_is (c ∷ w) (d ∷ v) k = rw eqb-suc-suc (same (against_is w v k) (eqb c d))
  where
    same : against w v k ≡ pick (starts_with eqb v w) (pick (eqb (length w) (length v)) (whole k) begun) none → (t : Bool) → pick t (against w v k) none ≡ pick (t && starts_with eqb v w) (pick (eqb (length w) (length v)) (whole k) begun) none
    same e true = e
    same e false = refl

-- all words, one after the other
module _ (w : List ℕ) (k : ℕ) (h : k < 12) where
  seek_on : seek w (drop k names) k ≡ or_else (against w (word k) k) (seek w (drop (k + 1) names) (k + 1))
  unfolding word
  seek_on = ap (λ x. seek w x k) (drop-cons names k [] h) ∙ ap (λ j. or_else (against w (word_of (get_or names k [])) k) (seek w (drop j names) j)) (sym (add-one k))

  pub seek_hit : (r : Word) → told (Some r) ≡ against w (word k) k → seek w names 0 ≡ seek w (drop k names) k → told (Some r) ≡ seek w names 0
  seek_hit (Whole j) e o = ap (λ x. or_else x (seek w (drop (k + 1) names) (k + 1))) e ∙ sym (o ∙ seek_on)
  seek_hit Begun e o = ap (λ x. or_else x (seek w (drop (k + 1) names) (k + 1))) e ∙ sym (o ∙ seek_on)

  pub seek_miss : none ≡ against w (word k) k → seek w (drop k names) k ≡ seek w (drop (k + 1) names) (k + 1)
  seek_miss e = seek_on ∙ ap (λ x. or_else x (seek w (drop (k + 1) names) (k + 1))) (sym e)
