-- The lines of an input, one after the other, and what is left to write. Assumes nothing.
use mathlib.Core.Path.{◌≡◌, refl, sym, ap, ◌∙◌, subst}
use mathlib.Core.Bool.{Bool, true, false, cond, not}
use mathlib.Core.List.{List, [], ◌∷◌, ◌++◌, append-nil, append_assoc}
use Prim.Native.Nat.{ℕ, zero, suc, ◌+◌, ◌-◌, ◌≤◌, ◌<◌}
use native.Mathlib.Omega.{arith}
use native.Mathlib.Numerals.{add-one}
use lib.ListN.{length, take, drop, length-drop}
use lib.Seq.{drop-drop, take_all}
use lib.Dec.{eqb, ltb}
use borrow.Author.Tests.{ltb-false}
use Rattle.std.specs.Prelude.{Option, Some, None, unwrap_or}
use Rattle.std.specs.List.{position_or_len}
use Rattle.std.proofs.lemmas.List.Recursion.{is_position_or_len}
use Rattle.std.proofs.lemmas.List.Sums.{prefix_len-le-length}
use Rattle.ground.specs.Pick.{pick}
use Rattle.ground.specs.Lists.{each}
use Rattle.report.specs.Text.{Wrote}
use Rattle.report.specs.Printed.{longer, lines, pattern_lines, report}
use Rattle.report.specs.Steps.{line_length, Going}
use Rattle.report.proofs.Writing.{wrote_none, wrote_then}

-- ---- the first line

line_step : (b : ℕ) (s : List ℕ) (c : Bool) → (0 < length s → lines s ≡ take (line_length s) s ∷ lines (drop (suc (line_length s)) s))
    → pick c ([] ∷ lines s) (longer b (lines s))
    ≡ take (pick c 0 (suc (line_length s))) (b ∷ s) ∷ lines (drop (suc (pick c 0 (suc (line_length s)))) (b ∷ s))
unfolding pick lines line_length
line_step b s true h = refl
line_step b [] false h = refl
line_step b (x ∷ s) false h = ap (longer b) (h (omega arith))

pub first_line : (s : List ℕ) → 0 < length s → lines s ≡ take (line_length s) s ∷ lines (drop (suc (line_length s)) s)
unfolding lines line_length
first_line [] h = absurd (omega arith)
first_line (b ∷ s) h = line_step b s (eqb b 10) (first_line s)

no_line : (s : List ℕ) (k : ℕ) → length s ≤ k → lines (drop k s) ≡ []
unfolding lines
no_line [] zero h = refl
no_line [] (suc k) h = refl
no_line (b ∷ s) zero h = absurd (omega arith)
no_line (b ∷ s) (suc k) h = no_line s k (omega arith)

-- the pattern is the first line and the records are the others, also where there is no line at all
pub as_reported : (s : List ℕ) → report (lines s) ≡ pattern_lines (take (line_length s) s) (lines (drop (line_length s + 1) s))
unfolding lines line_length
as_reported [] = refl
as_reported (b ∷ s) =
    ap report (first_line (b ∷ s) (omega arith)) ∙ ap (λ n. pattern_lines (take (line_length (b ∷ s)) (b ∷ s)) (lines (drop n (b ∷ s)))) (sym (add-one (line_length (b ∷ s))))

-- ---- its end

line_end : (s : List ℕ) → line_length s ≡ position_or_len (λ b. eqb b 10) s
unfolding line_length pick
line_end = is_position_or_len line_length (λ b. eqb b 10) refl (λ x s. step (eqb x 10) (line_length s))
  where
    step : (t : Bool) (n : ℕ) → pick t 0 (suc n) ≡ cond t 0 (1 + n)
    step true n = refl
    step false n = omega arith

-- the first byte 10, as the library finds it
abbrev pub Found : List ℕ → Option ℕ → Type 0
Found s r = r ≡ cond (ltb (position_or_len (λ b. eqb b 10) s) (length s)) (Some (position_or_len (λ b. eqb b 10) s)) None

found_at : (k l : ℕ) → k ≤ l → (t : Bool) → t ≡ ltb k l → unwrap_or (cond t (Some k) None) l ≡ k
found_at k l h true q = refl
found_at k l h false q = let g : l ≤ k = ltb-false k l (sym q) in omega arith

pub line_found : (s : List ℕ) (r : Option ℕ) → Found s r → (unwrap_or r (length s) ≡ line_length s) × (line_length s ≤ length s)
line_found s r h =
    let k = prefix_len-le-length (λ b. not (eqb b 10)) s in
    let e = line_end s in
    (rw h (found_at (position_or_len (λ b. eqb b 10) s) (length s) k (ltb (position_or_len (λ b. eqb b 10) s) (length s)) refl ∙ sym e), omega (arith, k, e))

-- from a place on
pub tail_all : (s : List ℕ) (n : ℕ) → take (length s - n) (drop n s) ≡ drop n s
tail_all s n = take_all (length s - n) (drop n s) (simp length-drop (omega arith))

-- ---- one record after the other

pub going_none : (a : List ℕ) (at : ℕ) (whole : List ℕ) → Going a a at at whole whole
going_none a at whole = record { text = []; wrote = wrote_none a at; rest = refl }

module _ {a b : List ℕ} {at m : ℕ} {whole left : List ℕ} where
  pub going_on : {c : List ℕ} {r : ℕ} {t more : List ℕ} → left ≡ t ++ more → Going a b at m whole left → Wrote b c m r t → Going a c at r whole more
  going_on {c} {r} {t} {more} e g w =
      record { text = g.text ++ t; wrote = wrote_then g.wrote w; rest = append_assoc g.text t more ∙ ap (λ l. g.text ++ l) (sym e) ∙ g.rest }

  pub going_done : left ≡ [] → Going a b at m whole left → Wrote a b at m whole
  going_done e g = subst (Wrote a b at m) (sym (append-nil g.text) ∙ ap (λ l. g.text ++ l) (sym e) ∙ g.rest) g.wrote

module _ (f : List ℕ → List ℕ) (s : List ℕ) (place : ℕ) where
  -- the line at a place and those after it
  pub next_line : place < length s → (stop : ℕ) → stop ≡ place + line_length (drop place s)
      → each f (lines (drop place s)) ≡ f (take (stop - place) (drop place s)) ++ each f (lines (drop (stop + 1) s))
  next_line h stop e =
      let l : 0 < length (drop place s) = omega (arith, length-drop place s) in
      let n : line_length (drop place s) ≡ stop - place = omega arith in
      let k : place + suc (stop - place) ≡ stop + 1 = omega arith in
      ap (each f) (first_line (drop place s) l)
      ∙ ap (λ m. f (take m (drop place s)) ++ each f (lines (drop (suc m) (drop place s)))) n
      ∙ ap (λ t. f (take (stop - place) (drop place s)) ++ each f (lines t)) (drop-drop (suc (stop - place)) place s)
      ∙ ap (λ m. f (take (stop - place) (drop place s)) ++ each f (lines (drop m s))) k

  pub no_line_left : length s ≤ place → each f (lines (drop place s)) ≡ []
  no_line_left h = ap (each f) (no_line s place h)

-- the line at a place, the one after it, and those after both
pub next_two : (f : List ℕ → List ℕ) (s : List ℕ) (place : ℕ) → place < length s → (stop : ℕ) → stop ≡ place + line_length (drop place s) → stop + 1 < length s
    → (last : ℕ) → last ≡ stop + 1 + line_length (drop (stop + 1) s)
    → each f (lines (drop place s)) ≡ (f (take (stop - place) (drop place s)) ++ f (take (last - (stop + 1)) (drop (stop + 1) s))) ++ each f (lines (drop (last + 1) s))
next_two f s place h stop e k last d =
    rw append_assoc
    (next_line f s place h stop e
    ∙ ap (λ t. f (take (stop - place) (drop place s)) ++ t) (next_line f s (stop + 1) k last d))
