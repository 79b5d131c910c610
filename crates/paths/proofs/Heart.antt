-- After any input the builder's list is the first of all admissible paths to each record, in order. Assumes nothing.
use mathlib.Core.Path.{◌≡◌, refl, sym, ap, ◌∙◌, fun_ext}
use mathlib.Core.Logic.{◌⊎◌, inl, inr}
use mathlib.Core.List.{List, [], ◌∷◌, ◌++◌, Memᴰ, head-eq_of_cons-eq, tail-eq_of_cons-eq, nil≢cons, cons≢nil}
use Prim.Native.Nat.{ℕ, zero, suc, ◌<◌, suc-le-suc}
use native.Mathlib.Omega.{arith}
use lib.ListN.{length}
use Rattle.net.specs.Rec.{Net, rec}
use Rattle.paths.specs.Ways.{Move}
use Rattle.ground.specs.Lists.{each}
use Rattle.paths.specs.Search.{Thread, ons, firsts, paths}
use Rattle.paths.specs.Situation.{quiet, bite, follow, on_quiet, on_byte, every, close, threads}
pub use Rattle.ground.proofs.Lists.{each_append}
pub use Rattle.ground.proofs.Members.{each_each}
use Rattle.paths.proofs.Firsts.{optimal_from}
use Rattle.paths.proofs.Member.{mem→has, not→hasnt, mem_or_not, ons_append}
use Rattle.paths.proofs.Closure.{by_record, Done, search_finds}

module _ {X : Type 0} where
  -- ---- a step whose records depend only on the record that it starts from

  abbrev pub Even : (Thread X → List (Thread X)) → Type 0
  Even g = (s t : Thread X) → s.on ≡ t.on → ons (g s) ≡ ons (g t)

  pub even_each : (g : Thread X → List (Thread X)) → Even g → (l k : List (Thread X)) → ons l ≡ ons k → ons (each g l) ≡ ons (each g k)
  even_each g h [] [] e = refl
  even_each g h [] (t ∷ k) e = absurd (nil≢cons e)
  even_each g h (s ∷ l) [] e = absurd (cons≢nil e)
  even_each g h (s ∷ l) (t ∷ k) e =
      ons_append (g s) (each g l)
      ∙ ap (λ r. r ++ ons (each g l)) (h s t (head-eq_of_cons-eq e))
      ∙ ap (λ r. ons (g t) ++ r) (even_each g h l k (tail-eq_of_cons-eq e))
      ∙ sym (ons_append (g t) (each g k))

  -- ---- prefix optimality: from a list of threads, only the first on each record matter

  pub optimal : (g : Thread X → List (Thread X)) → Even g → (l : List (Thread X)) → firsts [] (each g (firsts [] l)) ≡ firsts [] (each g l)
  optimal g h l = optimal_from by_record g (λ s t e y m. rw (h s t e) at m) [] l []

  -- ---- `paths` is even where its graph is

  abbrev EvenAt : (Thread X → List (Thread X)) → ℕ → Type 0
  EvenAt out n = (S : List ℕ) (s t : Thread X) → s.on ≡ t.on → ons (paths out n S s) ≡ ons (paths out n S t)

  even_paths : (out : Thread X → List (Thread X)) → Even out → (n : ℕ) → EvenAt out n
  unfolding paths
  even_paths out h zero S s t e = refl
  even_paths out h (suc n) S s t e = by (even_paths out h n) (mem_or_not s.on S)
    where
      by : EvenAt out n → Memᴰ s.on S ⊎ (¬ Memᴰ s.on S) → ons (paths out (suc n) S s) ≡ ons (paths out (suc n) S t)
      by ih (inl m) = rw (← e, mem→has m)
      by ih (inr m) =
          let t' : Thread X = record { on = s.on; had = t.had } in
          rw (← e, not→hasnt m) (ap (λ r. s.on ∷ r) (even_each (paths out n (s.on ∷ S)) (ih (s.on ∷ S)) (out s) (out t') (h s t' refl)))

-- ---- the automaton's own steps

abbrev pub leads : List (Move × ℕ) → List ℕ
leads [] = []
leads (e ∷ es) = e.1 ∷ leads es

unfoldable pub nexts : Net → ℕ → List ℕ
nexts A r = leads (quiet (rec A r))

-- a record past the end has no quiet move
pub inner : (A : Net) (r y : ℕ) → Memᴰ y (nexts A r) → r < length A
unfolding nexts
inner [] r y m = absurd (elim m [ ])
inner (x ∷ A) zero y m = omega arith
inner (x ∷ A) (suc r) y m = suc-le-suc (inner A r y m)

module _ {X : Type 0} (f : Move → X → X) where
  ons_follow : (x : X) (es : List (Move × ℕ)) → ons (follow f x es) ≡ leads es
  ons_follow x [] = refl
  ons_follow x (e ∷ es) = ap (λ r. e.1 ∷ r) (ons_follow x es)

  module _ (A : Net) where
    even_quiet : Even (on_quiet f A)
    unfolding on_quiet
    even_quiet s t e = ons_follow s.had (quiet (rec A s.on)) ∙ ap (λ r. leads (quiet (rec A r))) e ∙ sym (ons_follow t.had (quiet (rec A t.on)))

    even_byte : (b : ℕ) → Even (on_byte f A b)
    unfolding on_byte
    even_byte b s t e = ons_follow s.had (bite b (rec A s.on)) ∙ ap (λ r. leads (bite b (rec A r))) e ∙ sym (ons_follow t.had (bite b (rec A t.on)))

    even_every : (w : List ℕ) → Even (every f A w)
    unfolding every
    even_every [] s t e = even_paths (on_quiet f A) even_quiet (suc (length A)) [] s t e
    even_every (b ∷ w) s t e =
        even_each (every f A w) (even_every w) (each (on_byte f A b) (from s)) (each (on_byte f A b) (from t))
        (even_each (on_byte f A b) (even_byte b) (from s) (from t) (even_paths (on_quiet f A) even_quiet (suc (length A)) [] s t e))
      where
        from : Thread X → List (Thread X)
        from = paths (on_quiet f A) (suc (length A)) []

    pub shape : (s : Thread X) → ons (on_quiet f A s) ≡ nexts A s.on
    unfolding on_quiet nexts
    shape s = ons_follow s.had (quiet (rec A s.on))

    pub closing : (ss : List (Thread X)) → Done (nexts A) [] [] ss (each (paths (on_quiet f A) (suc (length A)) []) ss) (close f A ss)
    unfolding close
    closing ss = search_finds (on_quiet f A) (nexts A) shape (length A) (inner A) ss

    -- THE HEART
    pub heart : (w : List ℕ) (ss : List (Thread X)) → threads f A w ss ≡ firsts [] (each (every f A w) ss)
    unfolding threads every
    heart [] ss = (closing ss).found
    heart (b ∷ w) ss =
        heart w (each byte (close f A ss))
        ∙ ap (λ l. firsts [] (each (every f A w) (each byte l))) (closing ss).found
        ∙ ap (λ l. firsts [] l) (each_each (every f A w) byte (firsts [] (each from ss)))
        ∙ optimal onward (λ s t e. even_each (every f A w) (even_every w) (byte s) (byte t) (even_byte b s t e)) (each from ss)
        ∙ ap (λ l. firsts [] l) (each_each onward from ss)
        ∙ ap (λ g. firsts [] (each g ss)) (fun_ext (λ s. sym (each_each (every f A w) byte (from s))))
      where
        from : Thread X → List (Thread X)
        from = paths (on_quiet f A) (suc (length A)) []

        byte : Thread X → List (Thread X)
        byte = on_byte f A b

        onward : Thread X → List (Thread X)
        onward s = each (every f A w) (byte s)
