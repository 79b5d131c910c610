-- The list that the builder keeps, RANGE, MASK and END records only and tags only, gives the answer. Assumes nothing.
use mathlib.Core.Path.{◌≡◌, refl, sym, ap, ◌∙◌}
use mathlib.Core.Bool.{Bool, true, false, cond}
use mathlib.Core.List.{List, [], ◌∷◌, ◌++◌}
use mathlib.Core.Option.{Option}
use Prim.Native.Nat.{ℕ, suc, ◌+◌}
use native.Mathlib.Numerals.{add-one}
use native.Mathlib.Omega.{arith}
use lib.ListN.{length}
use Rattle.net.specs.Rec.{Rec, range, mask, fork, tag, end, Net, rec}
use Rattle.paths.specs.Ways.{Turn, first, second, mark, Move, eat, turn, Held, empty_handed, act, held}
use Rattle.ground.specs.Lists.{each}
use Rattle.paths.specs.Search.{Thread}
use Rattle.paths.specs.Situation.{bite, follow, on_byte, close, threads, ending, first_end, answer}
use Rattle.paths.specs.Registers.{Tags, no_tags, tagged, stands, standing, step, begin, after}
use Rattle.paths.proofs.Same.{lift, lifts, lifts_close, lifts_byte, lifts_threads, lift_end, lifts_end}
use Rattle.paths.proofs.Faithful.{onto}
use Rattle.paths.proofs.Answers.{held_snoc}

-- a FORK or a TAG consumes nothing, and is no END
no_bite : (b : ℕ) (k : Rec) → stands k ≡ false → bite b k ≡ []
no_bite b (range lo hi n) e = let z : ◌≡◌ {A = ℕ} 0 1 = cc in absurd (omega arith)
no_bite b (mask bits n) e = let z : ◌≡◌ {A = ℕ} 0 1 = cc in absurd (omega arith)
no_bite b (fork x y) e = refl
no_bite b (tag t n) e = refl
no_bite b (end a) e = refl

no_end : {X : Type 0} (k : Rec) (x : X) (o : Option (ℕ × X)) → stands k ≡ false → ending k x o ≡ o
no_end (range lo hi n) x o e = refl
no_end (mask bits n) x o e = refl
no_end (fork y z) x o e = refl
no_end (tag t n) x o e = refl
no_end (end a) x o e = let z : ◌≡◌ {A = ℕ} 0 1 = cc in absurd (omega arith)

module _ {X : Type 0} (A : Net) where
  pub byte_standing : (f : Move → X → X) (b : ℕ) (l : List (Thread X)) → each (on_byte f A b) (standing A l) ≡ each (on_byte f A b) l
  unfolding on_byte
  byte_standing f b [] = refl
  byte_standing f b (s ∷ l) = by (byte_standing f b l) (stands (rec A s.on)) (λ e. ap (follow f s.had) (no_bite b (rec A s.on) e))
    where
      g : Thread X → List (Thread X)
      g = on_byte f A b

      by : each g (standing A l) ≡ each g l → (c : Bool) → (c ≡ false → g s ≡ []) → each g (cond c (s ∷ standing A l) (standing A l)) ≡ g s ++ each g l
      by ih true h = ap (λ r. g s ++ r) ih
      by ih false h = ih ∙ ap (λ r. r ++ each g l) (sym (h refl))

  pub end_standing : (l : List (Thread X)) → first_end A (standing A l) ≡ first_end A l
  end_standing [] = refl
  end_standing (s ∷ l) = by (end_standing l) (stands (rec A s.on)) (λ e. no_end (rec A s.on) s.had (first_end A l) e)
    where
      by : first_end A (standing A l) ≡ first_end A l → (c : Bool) → (c ≡ false → first_end A (s ∷ l) ≡ first_end A l) → first_end A (cond c (s ∷ standing A l) (standing A l)) ≡ first_end A (s ∷ l)
      by ih true h = ap (λ o. ending (rec A s.on) s.had o) ih
      by ih false h = ih ∙ sym (h refl)

standing_lifts : {X Y : Type 0} (φ : X → Y) (A : Net) (l : List (Thread X)) → standing A (lifts φ l) ≡ lifts φ (standing A l)
standing_lifts φ A [] = refl
standing_lifts {X} φ A (s ∷ l) = rw (standing_lifts φ A l) (by (stands (rec A s.on)))
  where
    by : (c : Bool) → cond c (lift φ s ∷ lifts φ (standing A l)) (lifts φ (standing A l)) ≡ lifts φ (cond c (s ∷ standing A l) (standing A l))
    by true = refl
    by false = refl

-- tags, held at a place
abbrev pub at_place : ℕ → Tags → Held
at_place p τ = record { place = p; tags = τ }

turn_at : (p : ℕ) (u : Turn) (τ : Tags) → act (turn u) (at_place p τ) ≡ at_place p (tagged p (turn u) τ)
turn_at p first τ = refl
turn_at p second τ = refl
turn_at p (mark t) τ = refl

eat_at : (p b : ℕ) (τ : Tags) → act (eat b) (at_place p τ) ≡ at_place (suc p) (tagged (suc p) (eat b) τ)
eat_at p b τ = ap (λ q. at_place q τ) (add-one p)

along : (A : Net) (w : List ℕ) (p : ℕ) (ss : List (Thread Tags))
    → standing A (threads act A w (lifts (at_place p) ss)) ≡ lifts (at_place (p + length w)) (after A p (standing A (close (tagged p) A ss)) w)
unfolding threads after step
along A [] p ss =
    ap (λ l. standing A l) (lifts_close (at_place p) (tagged p) act A (turn_at p) ss)
    ∙ standing_lifts (at_place p) A (close (tagged p) A ss)
    ∙ ap (λ q. lifts (at_place q) (standing A (close (tagged p) A ss))) (omega arith)
along A (b ∷ w) p ss =
    ap (λ l. standing A (threads act A w (each (on_byte act A b) l))) (lifts_close (at_place p) (tagged p) act A (turn_at p) ss)
    ∙ ap (λ l. standing A (threads act A w l)) (lifts_byte (at_place p) (at_place (suc p)) (tagged (suc p)) act A b (eat_at p b) (close (tagged p) A ss))
    ∙ along A w (suc p) (each (on_byte (tagged (suc p)) A b) (close (tagged p) A ss))
    ∙ ap (λ l. lifts (at_place (suc p + length w)) (after A (suc p) (standing A (close (tagged (suc p)) A l)) w)) (sym (byte_standing A (tagged (suc p)) b (close (tagged p) A ss)))
    ∙ ap (λ q. lifts (at_place q) (after A (suc p) (step A (suc p) b (standing A (close (tagged p) A ss))) w)) (omega arith)

-- THE BUILDER'S LIST: its first END has the answer
pub answer_after : (A : Net) (w : List ℕ) → answer A w ≡ lift_end (at_place (length w)) (first_end A (after A 0 (begin A) w))
unfolding answer begin
answer_after A w =
    sym (end_standing A (threads act A w (lifts (at_place 0) start)))
    ∙ ap (λ l. first_end A l) (along A w 0 start)
    ∙ lifts_end (at_place (0 + length w)) A (after A 0 (standing A (close (tagged 0) A start)) w)
    ∙ ap (λ q. lift_end (at_place q) (first_end A (after A 0 (begin A) w))) (omega arith)
  where
    start : List (Thread Tags)
    start = record { on = 0; had = no_tags } ∷ []

-- the builder's list is the situation's (`Meant.threads_right`), with the places that each path has stored
pub after_paths : (A : Net) (w : List ℕ)
    → lifts (at_place (length w)) (after A 0 (begin A) w) ≡ lifts (λ p. held p empty_handed) (standing A (threads onto A w (record { on = 0; had = [] } ∷ [])))
unfolding begin
after_paths A w =
    ap (λ q. lifts (at_place q) (after A 0 (begin A) w)) (omega arith)
    ∙ sym (along A w 0 (record { on = 0; had = no_tags } ∷ []))
    ∙ ap (λ l. standing A l) (lifts_threads (λ p. held p empty_handed) onto act (λ m p. held_snoc p m empty_handed) A w (record { on = 0; had = [] } ∷ []))
    ∙ standing_lifts (λ p. held p empty_handed) A (threads onto A w (record { on = 0; had = [] } ∷ []))
