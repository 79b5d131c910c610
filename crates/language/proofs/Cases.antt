-- Document 01's cases P, from the patterns, and the numbering of some, by computation. Assumes nothing.
use mathlib.Core.Path.{◌≡◌, refl}
use mathlib.Core.List.{List, [], ◌∷◌}
use mathlib.Core.Option.{Option, none, some}
use Prim.Native.Nat.{ℕ}
use lib.ListN.{take}
use Rattle.net.specs.Rec.{range, fork, tag, end}
use Rattle.paths.specs.Ways.{Held}
use Rattle.paths.specs.Situation.{answer, threads, close, on_quiet, on_byte}
use Rattle.paths.specs.Search.{visit}
use Rattle.pattern.specs.Pat.{Pat, Empty, Byte, Tag, Seq, Alt, Star, Plus, Opt, automaton}

-- END 0 with t0 and t1, or nothing
abbrev Told : Type 0
Told = Option (ℕ × List (Option ℕ))

abbrev told : Option (ℕ × Held) → Told
told none = none
told (some r) = some (r.0, take 2 r.1.tags)

abbrev gives : Option ℕ → Option ℕ → Told
gives x y = some (0, x ∷ y ∷ [])

-- each case: a pattern, a record, what it gives
abbrev Case : Type 0
Case = Pat × List ℕ × Told

abbrev Right : List Case → Type 0
Right [] = Unit {0}
Right (c ∷ cs) = (told (answer (automaton c.0) c.1) ≡ c.2) × Right cs

abbrev a : Pat
a = Byte 97

abbrev b : Pat
b = Byte 98

abbrev cases : List Case
cases =
    (Seq (Star a) (Seq (Tag 0) (Star b)), 97 ∷ 97 ∷ 98 ∷ [], gives (some 2) none)
    ∷ (Seq (Star a) (Seq (Tag 0) (Star b)), [], gives (some 0) none)
    ∷ (Seq (Star a) (Seq (Tag 0) (Star b)), 98 ∷ 97 ∷ [], none)
    ∷ (Seq (Star (Alt a b)) (Seq (Tag 0) (Seq b (Star (Alt a b)))), 97 ∷ 98 ∷ 98 ∷ 97 ∷ [], gives (some 2) none)
    ∷ (Seq (Star a) (Seq (Tag 0) (Seq (Star a) a)), 97 ∷ 97 ∷ 97 ∷ [], gives (some 2) none)
    ∷ (Star (Seq (Tag 0) (Seq (Star a) (Tag 1))), [], gives none none)
    ∷ (Star (Seq (Tag 0) (Seq (Star a) (Tag 1))), 97 ∷ 97 ∷ [], gives (some 0) (some 2))
    ∷ (Star (Alt (Seq (Tag 0) (Seq a (Tag 1))) b), 97 ∷ 98 ∷ [], gives (some 0) (some 1))
    ∷ (Seq (Alt a (Seq a b)) (Seq (Tag 0) (Alt b Empty)), 97 ∷ 98 ∷ [], gives (some 1) none)
    ∷ (Seq (Opt a) (Seq (Tag 0) (Opt a)), 97 ∷ [], gives (some 1) none)
    ∷ (Empty, [], gives none none)
    ∷ (Empty, 120 ∷ [], none)
    ∷ []

pub cases_right : Right cases
unfolding answer threads close on_quiet on_byte visit
cases_right = (refl, (refl, (refl, (refl, (refl, (refl, (refl, (refl, (refl, (refl, (refl, (refl, tt))))))))))))

-- `()*` is a FORK to itself; `()+` too; `a+`, `a?`, `(a|)b`, `(@0a*@1)*`
pub numbers : (automaton (Star Empty) ≡ fork 0 1 ∷ end 0 ∷ [])
    × (automaton (Plus Empty) ≡ fork 0 1 ∷ end 0 ∷ [])
    × (automaton (Plus a) ≡ range 97 97 1 ∷ fork 0 2 ∷ end 0 ∷ [])
    × (automaton (Opt a) ≡ fork 1 2 ∷ range 97 97 2 ∷ end 0 ∷ [])
    × (automaton (Seq (Alt a Empty) b) ≡ fork 1 2 ∷ range 97 97 2 ∷ range 98 98 3 ∷ end 0 ∷ [])
    × (automaton (Star (Seq (Tag 0) (Seq (Star a) (Tag 1)))) ≡ fork 1 5 ∷ tag 0 2 ∷ fork 3 4 ∷ range 97 97 2 ∷ tag 1 0 ∷ end 0 ∷ [])
numbers = (refl, refl, refl, refl, refl, refl)
