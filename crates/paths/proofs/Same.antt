-- What a thread gathers does not steer the search: it may be gathered in one form or in another. Assumes nothing.
use mathlib.Core.Path.{◌≡◌, refl, sym, ap, ◌∙◌}
use mathlib.Core.Logic.{◌⊎◌, inl, inr}
use mathlib.Core.Bool.{Bool, true, false, ◌&&◌, cond}
use mathlib.Core.List.{List, [], ◌∷◌, ◌++◌, foldl}
use mathlib.Core.Option.{Option, none, some}
use Prim.Native.Nat.{ℕ, zero, suc}
use lib.Dec.{leb, eqb}
use lib.ListN.{length}
use Rattle.net.specs.Rec.{Rec, range, mask, fork, tag, end, Net, rec, bit}
use Rattle.paths.specs.Ways.{Turn, first, second, mark, Move, eat, turn}
use Rattle.ground.specs.Lists.{each}
use Rattle.paths.specs.Search.{has, Thread, ons, visit}
use Rattle.paths.specs.Situation.{quiet, bite, follow, on_quiet, on_byte, close, threads, ending, first_end}
use Rattle.paths.proofs.Member.{Bool-cases}

module _ {X Y : Type 0} (φ : X → Y) where
  abbrev pub lift : Thread X → Thread Y
  lift s = record { on = s.on; had = φ s.had }

  abbrev pub lifts : List (Thread X) → List (Thread Y)
  lifts [] = []
  lifts (s ∷ l) = lift s ∷ lifts l

  ons_lifts : (l : List (Thread X)) → ons (lifts l) ≡ ons l
  ons_lifts [] = refl
  ons_lifts (s ∷ l) = ap (λ r. s.on ∷ r) (ons_lifts l)

  lifts_append : (l k : List (Thread X)) → lifts (l ++ k) ≡ lifts l ++ lifts k
  lifts_append [] k = refl
  lifts_append (s ∷ l) k = ap (λ r. lift s ∷ r) (lifts_append l k)

  lifts_fold : (g : List (Thread X) → Thread X → List (Thread X)) (h : List (Thread Y) → Thread Y → List (Thread Y))
      → ((O : List (Thread X)) (s : Thread X) → h (lifts O) (lift s) ≡ lifts (g O s))
      → (l O : List (Thread X)) → foldl h (lifts O) (lifts l) ≡ lifts (foldl g O l)
  lifts_fold g h e [] O = refl
  lifts_fold g h e (s ∷ l) O = ap (λ o. foldl h o (lifts l)) (e O s) ∙ lifts_fold g h e l (g O s)

  lifts_visit : (g : Thread X → List (Thread X)) (h : Thread Y → List (Thread Y)) → ((s : Thread X) → h (lift s) ≡ lifts (g s))
      → (n : ℕ) (O : List (Thread X)) (s : Thread X) → visit h n (lifts O) (lift s) ≡ lifts (visit g n O s)
  unfolding visit
  lifts_visit g h e zero O s = refl
  lifts_visit g h e (suc n) O s = by (lifts_visit g h e n) (Bool-cases (has s.on (ons O)))
    where
      by : ((O : List (Thread X)) (s : Thread X) → visit h n (lifts O) (lift s) ≡ lifts (visit g n O s))
          → (has s.on (ons O) ≡ true) ⊎ (has s.on (ons O) ≡ false) → visit h (suc n) (lifts O) (lift s) ≡ lifts (visit g (suc n) O s)
      by ih (inl t) = rw (ons_lifts O, t)
      by ih (inr t) = rw (ons_lifts O, t, e s, ← lifts_append O (s ∷ [])) (lifts_fold (visit g n) (visit h n) ih (g s) (O ++ (s ∷ [])))

  module _ (f : Move → X → X) (g : Move → Y → Y) (A : Net) where
    -- for the moves that consume nothing
    module _ (e : (u : Turn) (x : X) → g (turn u) (φ x) ≡ φ (f (turn u) x)) where
      lifts_turns : (x : X) (k : Rec) → follow g (φ x) (quiet k) ≡ lifts (follow f x (quiet k))
      lifts_turns x (range lo hi n) = refl
      lifts_turns x (mask bits n) = refl
      lifts_turns x (fork y z) = rw (e first x, e second x)
      lifts_turns x (tag t n) = rw (e (mark t) x)
      lifts_turns x (end a) = refl

      pub lifts_quiet : (s : Thread X) → on_quiet g A (lift s) ≡ lifts (on_quiet f A s)
      unfolding on_quiet
      lifts_quiet s = lifts_turns s.had (rec A s.on)

      pub lifts_close : (ss : List (Thread X)) → close g A (lifts ss) ≡ lifts (close f A ss)
      unfolding close
      lifts_close ss = lifts_fold (visit (on_quiet f A) (suc (length A))) (visit (on_quiet g A) (suc (length A)))
          (lifts_visit (on_quiet f A) (on_quiet g A) lifts_quiet (suc (length A))) ss []

  -- the first END is the same, with what was gathered in the other form
  abbrev pub lift_end : Option (ℕ × X) → Option (ℕ × Y)
  lift_end none = none
  lift_end (some r) = some (r.0, φ r.1)

  lift_ending : (k : Rec) (x : X) (o : Option (ℕ × X)) → ending k (φ x) (lift_end o) ≡ lift_end (ending k x o)
  lift_ending (range lo hi n) x o = refl
  lift_ending (mask bits n) x o = refl
  lift_ending (fork p q) x o = refl
  lift_ending (tag t n) x o = refl
  lift_ending (end a) x o = refl

  pub lifts_end : (A : Net) (l : List (Thread X)) → first_end A (lifts l) ≡ lift_end (first_end A l)
  lifts_end A [] = refl
  lifts_end A (s ∷ l) = ap (λ o. ending (rec A s.on) (φ s.had) o) (lifts_end A l) ∙ lift_ending (rec A s.on) s.had (first_end A l)

-- for a byte, which may change the form
module _ {X Y : Type 0} (φ ψ : X → Y) (f : Move → X → X) (g : Move → Y → Y) (A : Net) (b : ℕ) (e : (x : X) → g (eat b) (φ x) ≡ ψ (f (eat b) x)) where
  lifts_test : (x : X) (n : ℕ) (c : Bool) → follow g (φ x) (cond c ((eat b, n) ∷ []) []) ≡ lifts ψ (follow f x (cond c ((eat b, n) ∷ []) []))
  lifts_test x n true = rw (e x)
  lifts_test x n false = refl

  lifts_bite : (x : X) (k : Rec) → follow g (φ x) (bite b k) ≡ lifts ψ (follow f x (bite b k))
  lifts_bite x (range lo hi n) = lifts_test x n (leb lo b && leb b hi)
  lifts_bite x (mask bits n) = lifts_test x n (eqb (bit bits b) 1)
  lifts_bite x (fork y z) = refl
  lifts_bite x (tag t n) = refl
  lifts_bite x (end a) = refl

  pub lifts_byte : (l : List (Thread X)) → each (on_byte g A b) (lifts φ l) ≡ lifts ψ (each (on_byte f A b) l)
  unfolding on_byte
  lifts_byte [] = refl
  lifts_byte (s ∷ l) = rw (lifts_bite s.had (rec A s.on), lifts_byte l) (sym (lifts_append ψ (on_byte f A b s) (each (on_byte f A b) l)))

module _ {X Y : Type 0} (φ : X → Y) (f : Move → X → X) (g : Move → Y → Y) (e : (m : Move) (x : X) → g m (φ x) ≡ φ (f m x)) (A : Net) where
  pub lifts_threads : (w : List ℕ) (ss : List (Thread X)) → threads g A w (lifts φ ss) ≡ lifts φ (threads f A w ss)
  unfolding threads
  lifts_threads [] ss = lifts_close φ f g A (λ u. e (turn u)) ss
  lifts_threads (b ∷ w) ss =
      ap (λ l. threads g A w (each (on_byte g A b) l)) (lifts_close φ f g A (λ u. e (turn u)) ss)
      ∙ ap (λ l. threads g A w l) (lifts_byte φ φ f g A b (e (eat b)) (close f A ss))
      ∙ lifts_threads w (each (on_byte f A b) (close f A ss))
