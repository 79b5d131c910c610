-- What follows from the promise of the pattern maker in document 01's words. Assumes nothing.
use Prim.Native.Nat.{ℕ}
use mathlib.Core.Path.{◌≡◌, refl, sym, ap, ◌∙◌}
use mathlib.Core.Bool.{Bool, true, false}
use mathlib.Core.List.{List}
use native.Mathlib.Omega.{arith}
use lib.ListN.{length, drop}
use lib.Seq.{sets}
use lib.Dec.{ltb, leb}
use Rattle.ground.specs.Pick.{pick}
use Rattle.ground.proofs.Stores.{sets_after}
use Rattle.answers.specs.Answers.{OK}
use Rattle.pattern.specs.Pat.{Pat, size}
use Rattle.pattern.specs.Reader.{Res, ok, form, deep, alts, read}
use Rattle.pattern.specs.Maker.{Given, given, file, made, judged, maker}
use Rattle.pattern.specs.Made.{Made}

-- the promise leaves one answer and one output
pub one_answer : (s out : List ℕ) (m m' : Made) (l l' : List ℕ) → given m l ≡ maker s out → given m' l' ≡ maker s out → (m ≡ m') × (l ≡ l')
one_answer s out m m' l l' a b = let e : given m l ≡ given m' l' = a ∙ sym b in (ap (λ g. g.answer) e, ap (λ g. g.after) e)

either_way : (P : Given → Type 0) (t : Bool) (a b : Given) → P a → P b → P (pick t a b)
unfolding pick
either_way P true a b x y = x
either_way P false a b x y = y

module _ (out : List ℕ) (P : Given → Type 0) where
  made_so : (p : Pat) → ((code place : ℕ) → P (record { answer = record { code = code; place = place; length = 0 }; after = out })) → P (record { answer = record { code = OK; place = 0; length = length (file p) }; after = sets out 0 (file p) }) → P (made p out)
  made_so p x y = either_way P (leb 64 (size p)) _ _ (x _ 0) (either_way P (ltb (length out) (length (file p))) _ _ (x _ 0) y)

  judged_so : (r : Res) (s : List ℕ) → ((code place : ℕ) → P (record { answer = record { code = code; place = place; length = 0 }; after = out })) → ((p : Pat) → P (record { answer = record { code = OK; place = 0; length = length (file p) }; after = sets out 0 (file p) })) → P (judged r s out)
  judged_so (ok e p) s x y = either_way P (ltb e (length s)) _ _ (x _ e) (made_so p x (y p))
  judged_so (form q) s x y = x _ q
  judged_so (deep q) s x y = x _ q

  maker_so : (s : List ℕ) → ((code place : ℕ) → P (record { answer = record { code = code; place = place; length = 0 }; after = out })) → ((p : Pat) → P (record { answer = record { code = OK; place = 0; length = length (file p) }; after = sets out 0 (file p) })) → P (maker s out)
  unfolding maker
  maker_so s x y = either_way P (ltb 255 (length s)) _ _ (x _ 0) (judged_so (read s alts 0 0) s x y)

-- "Output beyond the result keeps its bytes"
pub beyond_kept : (s out : List ℕ) → drop (maker s out).answer.length (maker s out).after ≡ drop (maker s out).answer.length out
beyond_kept s out = maker_so out (λ g. drop g.answer.length g.after ≡ drop g.answer.length out) s (λ code place. refl) (λ p. sets_after (file p) out 0 (length (file p)) (omega arith))

-- "and all of it on refusal": an answer that is no OK has length 0 and the output as it was
pub refusal_keeps : (s out : List ℕ) → ((maker s out).answer.code ≡ OK → ⊥) → ((maker s out).answer.length ≡ 0) × ((maker s out).after ≡ out)
refusal_keeps s out = maker_so out (λ g. (g.answer.code ≡ OK → ⊥) → (g.answer.length ≡ 0) × (g.after ≡ out)) s (λ code place n. (refl, refl)) (λ p n. absurd (n refl))
