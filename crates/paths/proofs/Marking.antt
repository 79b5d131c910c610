-- The search with its marks apart gives the list of `close`, RANGE, MASK and END records only. Assumes nothing.
use mathlib.Core.Path.{◌≡◌, refl, sym, ap, ◌∙◌}
use mathlib.Core.Bool.{Bool, true, false, cond}
use mathlib.Core.List.{List, [], ◌∷◌, ◌++◌, foldl}
use Prim.Native.Nat.{ℕ, zero, suc}
use lib.ListN.{length}
use Rattle.net.specs.Rec.{Net, rec}
use Rattle.paths.specs.Ways.{Move}
use Rattle.paths.specs.Search.{choose, has, Thread, ons, visit}
use Rattle.paths.specs.Situation.{on_quiet, close}
use Rattle.paths.specs.Registers.{stands, standing}
use Rattle.paths.specs.Marks.{Marked, marked_with, marking, marked_close}
use Rattle.paths.proofs.Member.{ons_append}

module _ {X : Type 0} (f : Move → X → X) (A : Net) where
  -- what code keeps of what has been found
  abbrev pub kept_of : List (Thread X) → Marked X
  kept_of O = record { marks = ons O; list = standing A O }

  standing_append : (l k : List (Thread X)) → standing A (l ++ k) ≡ standing A l ++ standing A k
  standing_append [] k = refl
  standing_append (s ∷ l) k = by (standing_append l k) (stands (rec A s.on))
    where
      by : standing A (l ++ k) ≡ standing A l ++ standing A k → (c : Bool)
          → cond c (s ∷ standing A (l ++ k)) (standing A (l ++ k)) ≡ cond c (s ∷ standing A l) (standing A l) ++ standing A k
      by e true = ap (λ r. s ∷ r) e
      by e false = e

  with_of : (O : List (Thread X)) (s : Thread X) → marked_with f A (kept_of O) s ≡ kept_of (O ++ (s ∷ []))
  with_of O s = λ i. record { marks = sym (ons_append O (s ∷ [])) i; list = list i }
    where
      one : (c : Bool) → cond c (standing A O ++ (s ∷ [])) (standing A O) ≡ standing A O ++ cond c (s ∷ []) []
      one true = refl
      one false = sym (mathlib.Core.List.append-nil (standing A O))

      list : cond (stands (rec A s.on)) (standing A O ++ (s ∷ [])) (standing A O) ≡ standing A (O ++ (s ∷ []))
      list = one (stands (rec A s.on)) ∙ sym (standing_append O (s ∷ []))

  fold_of : (g : Marked X → Thread X → Marked X) (v : List (Thread X) → Thread X → List (Thread X)) → ((O : List (Thread X)) (s : Thread X) → g (kept_of O) s ≡ kept_of (v O s))
      → (l O : List (Thread X)) → foldl g (kept_of O) l ≡ kept_of (foldl v O l)
  fold_of g v h [] O = refl
  fold_of g v h (s ∷ l) O = ap (λ m. foldl g m l) (h O s) ∙ fold_of g v h l (v O s)

  marking_of : (n : ℕ) (O : List (Thread X)) (s : Thread X) → marking f A n (kept_of O) s ≡ kept_of (visit (on_quiet f A) n O s)
  unfolding marking visit
  marking_of zero O s = refl
  marking_of (suc n) O s = by (marking_of n) (has s.on (ons O))
    where
      by : ((O : List (Thread X)) (s : Thread X) → marking f A n (kept_of O) s ≡ kept_of (visit (on_quiet f A) n O s)) → (c : Bool)
          → choose c (kept_of O) (λ _. foldl (marking f A n) (marked_with f A (kept_of O) s) (on_quiet f A s))
          ≡ kept_of (choose c O (λ _. foldl (visit (on_quiet f A) n) (O ++ (s ∷ [])) (on_quiet f A s)))
      by ih true = refl
      by ih false = ap (λ m. foldl (marking f A n) m (on_quiet f A s)) (with_of O s) ∙ fold_of (marking f A n) (visit (on_quiet f A) n) ih (on_quiet f A s) (O ++ (s ∷ []))

  pub marked_right : (ss : List (Thread X)) → marked_close f A ss ≡ kept_of (close f A ss)
  unfolding marked_close close
  marked_right ss = fold_of (marking f A (suc (length A))) (visit (on_quiet f A) (suc (length A))) (marking_of (suc (length A))) ss []
