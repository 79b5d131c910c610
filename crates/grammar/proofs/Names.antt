-- The words of the classes: what `seek` says of bytes, and the walk over a word. Assumes nothing.
use Prim.Native.Nat.{ℕ, suc, ◌+◌, ◌<◌}
use mathlib.Core.Path.{◌≡◌, refl, sym, ap, ◌∙◌}
use mathlib.Core.Bool.{Bool, true, false}
use mathlib.Core.List.{List, [], ◌∷◌, ◌++◌}
use native.Mathlib.Omega.{arith}
use lib.ListN.{length, get_or}
use lib.Dec.{eqb}
use borrow.Author.Tests.{eqb-true}
use Rattle.ground.specs.Pick.{pick}
use Rattle.ground.proofs.Picks.{picked, passed}
use Rattle.ground.proofs.Tested.{tested_below}
use Rattle.ground.specs.Lists.{Bytes}
use Rattle.ground.proofs.Tests.{true_false, T_true}
use Rattle.ground.proofs.Every.{small, bytes_of}
use Rattle.pattern.specs.Sets.{Item, span, class, Step, fresh, ready, held, quote, dash, dash_quote, name, shut, bad, set_on, gained, Named, whole, begun, none, names, word_of, against, or_else, seek}
use Rattle.grammar.proofs.SetRun.{set_run, got}

-- A word of a class leads from its `[` to a complete item, that class. Twelve words, each computed.
abbrev is_ready : Step → Bool
is_ready fresh = false
is_ready ready = true
is_ready (held c) = false
is_ready quote = false
is_ready (dash c) = false
is_ready (dash_quote c) = false
is_ready (name w) = false
is_ready shut = false
is_ready bad = false

ready_of : (st : Step) → is_ready st ≡ true → st ≡ ready
ready_of fresh e = absurd (true_false (sym e))
ready_of ready e = refl
ready_of (held c) e = absurd (true_false (sym e))
ready_of quote e = absurd (true_false (sym e))
ready_of (dash c) e = absurd (true_false (sym e))
ready_of (dash_quote c) e = absurd (true_false (sym e))
ready_of (name w) e = absurd (true_false (sym e))
ready_of shut e = absurd (true_false (sym e))
ready_of bad e = absurd (true_false (sym e))

abbrev is_class : ℕ → List Item → Bool
is_class k [] = false
is_class k (span c d ∷ xs) = false
is_class k (class j ∷ []) = eqb j k
is_class k (class j ∷ (x ∷ xs)) = false

class_is : (k : ℕ) (xs : List Item) → is_class k xs ≡ true → xs ≡ class k ∷ []
class_is k [] e = absurd (true_false (sym e))
class_is k (span c d ∷ xs) e = absurd (true_false (sym e))
class_is k (class j ∷ []) e = ap (λ n. class n ∷ []) (eqb-true j k e)
class_is k (class j ∷ (x ∷ xs)) e = absurd (true_false (sym e))

module _ (k : ℕ) (h : k < 12) where
  pub word_bytes : Bytes (word_of (get_or names k []))
  word_bytes = bytes_of (word_of (get_or names k [])) (T_true _ (tested_below (λ k. small (word_of (get_or names k []))) 12 tt k h))

  pub word_run : set_run (name []) (word_of (get_or names k [])) ≡ ready
  unfolding set_on pick
  word_run = ready_of _ (T_true _ (tested_below (λ k. is_ready (set_run (name []) (word_of (get_or names k [])))) 12 tt k h))

  pub word_got : got (name []) (word_of (get_or names k [])) ≡ class k ∷ []
  unfolding set_on gained pick
  word_got = class_is k _ (T_true _ (tested_below (λ k. is_class k (got (name []) (word_of (get_or names k [])))) 12 tt k h))

-- What `seek` says: these bytes are the word of a class, or more bytes make them one.
against_whole : (w v : List ℕ) (j k : ℕ) → against w v j ≡ whole k → (w ≡ v) × (j ≡ k)
against_whole [] [] j k e = (refl, cc)
against_whole [] (d ∷ v) j k e = absurd (let z : ◌≡◌ {A = ℕ} 0 1 = cc in omega arith)
against_whole (c ∷ w) [] j k e = absurd (let z : ◌≡◌ {A = ℕ} 0 1 = cc in omega arith)
against_whole (c ∷ w) (d ∷ v) j k e = by (eqb c d) refl (against_whole w v j k)
  where
    by : (b : Bool) → eqb c d ≡ b → (against w v j ≡ whole k → (w ≡ v) × (j ≡ k)) → (c ∷ w ≡ d ∷ v) × (j ≡ k)
    by true t ih = let r = ih (sym (picked (against w v j) none t) ∙ e) in let q = eqb-true c d t in let x = r.0 in (cc, r.1)
    by false t ih = let y : none ≡ whole k = sym (passed (against w v j) none t) ∙ e in absurd (let z : ◌≡◌ {A = ℕ} 0 1 = cc in omega arith)

against_begun : (w v : List ℕ) (j : ℕ) → against w v j ≡ begun → (r : List ℕ) × (w ++ r ≡ v)
against_begun [] [] j e = absurd (let z : ◌≡◌ {A = ℕ} 0 1 = cc in omega arith)
against_begun [] (d ∷ v) j e = (d ∷ v, refl)
against_begun (c ∷ w) [] j e = absurd (let z : ◌≡◌ {A = ℕ} 0 1 = cc in omega arith)
against_begun (c ∷ w) (d ∷ v) j e = by (eqb c d) refl (against_begun w v j)
  where
    by : (b : Bool) → eqb c d ≡ b → (against w v j ≡ begun → (r : List ℕ) × (w ++ r ≡ v)) → (r : List ℕ) × ((c ∷ w) ++ r ≡ d ∷ v)
    by true t ih = let r = ih (sym (picked (against w v j) none t) ∙ e) in let q = eqb-true c d t in let x = r.1 in (r.0, cc)
    by false t ih = let y : none ≡ begun = sym (passed (against w v j) none t) ∙ e in absurd (let z : ◌≡◌ {A = ℕ} 0 1 = cc in omega arith)

-- of a list of names, numbered from j on
seek_whole_from : (w : List ℕ) (vs : List (List ℕ)) (j k : ℕ) → seek w vs j ≡ whole k → (n : ℕ) × (n < length vs) × (j + n ≡ k) × (w ≡ word_of (get_or vs n []))
seek_whole_from w [] j k e = absurd (let z : ◌≡◌ {A = ℕ} 0 1 = cc in omega arith)
seek_whole_from w (v ∷ vs) j k e = by (against w (word_of v) j) refl (seek_whole_from w vs (suc j) k)
  where
    by : (n : Named) → against w (word_of v) j ≡ n → (seek w vs (suc j) ≡ whole k → (n : ℕ) × (n < length vs) × (suc j + n ≡ k) × (w ≡ word_of (get_or vs n []))) → (n : ℕ) × (n < length (v ∷ vs)) × (j + n ≡ k) × (w ≡ word_of (get_or (v ∷ vs) n []))
    by (whole i) h ih = let x : whole i ≡ whole k = ap (λ n. or_else n (seek w vs (suc j))) (sym h) ∙ e in let a = against_whole w (word_of v) j i h in let b = a.1 in let y : i ≡ k = cc in (0, omega arith, omega arith, a.0)
    by begun h ih = let x : begun ≡ whole k = ap (λ n. or_else n (seek w vs (suc j))) (sym h) ∙ e in absurd (let z : ◌≡◌ {A = ℕ} 0 1 = cc in omega arith)
    by none h ih = let r = ih (ap (λ n. or_else n (seek w vs (suc j))) (sym h) ∙ e) in let a = r.1 in let b = r.2 in (suc r.0, omega arith, omega arith, r.3)

seek_begun_from : (w : List ℕ) (vs : List (List ℕ)) (j : ℕ) → seek w vs j ≡ begun → (n : ℕ) × (n < length vs) × ((r : List ℕ) × (w ++ r ≡ word_of (get_or vs n [])))
seek_begun_from w [] j e = absurd (let z : ◌≡◌ {A = ℕ} 0 1 = cc in omega arith)
seek_begun_from w (v ∷ vs) j e = by (against w (word_of v) j) refl (seek_begun_from w vs (suc j))
  where
    by : (n : Named) → against w (word_of v) j ≡ n → (seek w vs (suc j) ≡ begun → (n : ℕ) × (n < length vs) × ((r : List ℕ) × (w ++ r ≡ word_of (get_or vs n [])))) → (n : ℕ) × (n < length (v ∷ vs)) × ((r : List ℕ) × (w ++ r ≡ word_of (get_or (v ∷ vs) n [])))
    by (whole i) h ih = let x : whole i ≡ begun = ap (λ n. or_else n (seek w vs (suc j))) (sym h) ∙ e in absurd (let z : ◌≡◌ {A = ℕ} 0 1 = cc in omega arith)
    by begun h ih = (0, omega arith, against_begun w (word_of v) j h)
    by none h ih = let r = ih (ap (λ n. or_else n (seek w vs (suc j))) (sym h) ∙ e) in let a = r.1 in (suc r.0, omega arith, r.2)

pub seek_whole : (w : List ℕ) (k : ℕ) → seek w names 0 ≡ whole k → (k < 12) × (w ≡ word_of (get_or names k []))
seek_whole w k e =
    let r = seek_whole_from w names 0 k e in
    let a = r.1 in
    let b = r.2 in
    let n : r.0 ≡ k = omega arith in
    (omega arith, r.3 ∙ ap (λ i. word_of (get_or names i [])) n)

pub seek_begun : (w : List ℕ) → seek w names 0 ≡ begun → (k : ℕ) × (k < 12) × ((r : List ℕ) × (w ++ r ≡ word_of (get_or names k [])))
seek_begun w e = seek_begun_from w names 0 e
