-- Document 01's checked examples, by computation: the cases P, the sizes, two of its traps. The automata are those that the pattern maker writes.
-- Assumes nothing.
use mathlib.Core.Path.{◌≡◌, refl}
use mathlib.Core.List.{List, [], ◌∷◌}
use mathlib.Core.Option.{Option, none, some}
use Prim.Native.Nat.{ℕ, zero, suc}
use mathlib.Core.Bool.{true, false}
use lib.Dec.{ltb}
use lib.ListN.{take, replicate, length}
use Rattle.net.specs.Rec.{Rec, range, fork, tag, end, Net}
use Rattle.paths.specs.Ways.{Held}
use Rattle.paths.specs.Situation.{answer, threads, close, on_quiet, on_byte}
use Rattle.paths.specs.Search.{visit}
use Rattle.paths.specs.Registers.{situation, next, number, registers, after, begin, step}
use Rattle.paths.specs.Numbering.{explored}
use Rattle.paths.specs.Equal.{same_situation}
use Rattle.paths.specs.Limits.{Sit, bytes}

-- END 0 with t0 and t1, or nothing
abbrev two : Option (ℕ × Held) → Option (List (Option ℕ))
two none = none
two (some r) = some (take 2 r.1.tags)

abbrev gives : Option ℕ → Option ℕ → Option (List (Option ℕ))
gives x y = some (x ∷ y ∷ [])

abbrev no_match : Option (List (Option ℕ))
no_match = none

-- each case: an automaton, a record, what it gives
abbrev Case : Type 0
Case = Net × List ℕ × Option (List (Option ℕ))

abbrev Right : List Case → Type 0
Right [] = Unit {0}
Right (c ∷ cs) = (two (answer c.0 c.1) ≡ c.2) × Right cs

abbrev p1 : Net  -- a*@0b*
p1 = fork 1 2 ∷ range 97 97 0 ∷ tag 0 3 ∷ fork 4 5 ∷ range 98 98 3 ∷ end 0 ∷ []

abbrev p2 : Net  -- (a|b)*@0b(a|b)*
p2 = fork 1 4 ∷ fork 2 3 ∷ range 97 97 0 ∷ range 98 98 0 ∷ tag 0 5 ∷ range 98 98 6 ∷ fork 7 10 ∷ fork 8 9 ∷ range 97 97 6 ∷ range 98 98 6 ∷ end 0 ∷ []

abbrev p3 : Net  -- a*@0a*a
p3 = fork 1 2 ∷ range 97 97 0 ∷ tag 0 3 ∷ fork 4 5 ∷ range 97 97 3 ∷ range 97 97 6 ∷ end 0 ∷ []

abbrev p4 : Net  -- (@0a*@1)*
p4 = fork 1 5 ∷ tag 0 2 ∷ fork 3 4 ∷ range 97 97 2 ∷ tag 1 0 ∷ end 0 ∷ []

abbrev p5 : Net  -- (@0a@1|b)*
p5 = fork 1 6 ∷ fork 2 5 ∷ tag 0 3 ∷ range 97 97 4 ∷ tag 1 0 ∷ range 98 98 0 ∷ end 0 ∷ []

abbrev p6 : Net  -- (a|ab)@0(b|)
p6 = fork 1 2 ∷ range 97 97 4 ∷ range 97 97 3 ∷ range 98 98 4 ∷ tag 0 5 ∷ fork 6 7 ∷ range 98 98 7 ∷ end 0 ∷ []

abbrev p7 : Net  -- a?@0a?
p7 = fork 1 2 ∷ range 97 97 2 ∷ tag 0 3 ∷ fork 4 5 ∷ range 97 97 5 ∷ end 0 ∷ []

abbrev p8 : Net  -- the empty pattern
p8 = end 0 ∷ []

abbrev cases : List Case
cases =
    (p1, 97 ∷ 97 ∷ 98 ∷ [], gives (some 2) none)
    ∷ (p1, [], gives (some 0) none)
    ∷ (p1, 98 ∷ 97 ∷ [], no_match)
    ∷ (p2, 97 ∷ 98 ∷ 98 ∷ 97 ∷ [], gives (some 2) none)
    ∷ (p3, 97 ∷ 97 ∷ 97 ∷ [], gives (some 2) none)
    ∷ (p4, [], gives none none)
    ∷ (p4, 97 ∷ 97 ∷ [], gives (some 0) (some 2))
    ∷ (p5, 97 ∷ 98 ∷ [], gives (some 0) (some 1))
    ∷ (p6, 97 ∷ 98 ∷ [], gives (some 1) none)
    ∷ (p7, 97 ∷ [], gives (some 1) none)
    ∷ (p8, [], gives none none)
    ∷ (p8, 120 ∷ [], no_match)
    ∷ []

-- CASES P
pub cases_right : Right cases
unfolding answer threads close on_quiet on_byte visit
cases_right = (refl, (refl, (refl, (refl, (refl, (refl, (refl, (refl, (refl, (refl, (refl, (refl, tt))))))))))))

-- ---- sizes. More than one byte of a kind leads to the same situations: one or two bytes are enough to count them.

abbrev found : List ℕ → Net → ℕ → List Sit
found B A n = explored same_situation B (next A) (situation A []) n

-- `.*a` and k `.`
abbrev dots : ℕ → ℕ → List Rec
dots zero r = end 0 ∷ []
dots (suc k) r = range 0 255 (suc r) ∷ dots k (suc r)

abbrev shift : ℕ → Net
shift k = fork 1 2 ∷ range 0 255 0 ∷ range 97 97 3 ∷ dots k 3

-- `.*`, `@0` to `@7`, k `.`
abbrev fields : ℕ → Net
fields k = fork 1 2 ∷ range 0 255 0 ∷ tag 0 3 ∷ tag 1 4 ∷ tag 2 5 ∷ tag 3 6 ∷ tag 4 7 ∷ tag 5 8 ∷ tag 6 9 ∷ tag 7 10 ∷ dots k 10

-- "`.*a` and five `.`: 64 situations", over `a` and a byte that is not
five_dots : length (found (97 ∷ 98 ∷ []) (shift 5) 64) ≡ 64
unfolding explored situation next number registers after begin step close on_quiet on_byte visit
five_dots = refl

-- "six `.`: SITUATIONS": there is a 97th
six_dots : ltb 96 (length (found (97 ∷ 98 ∷ []) (shift 6) 49)) ≡ true
unfolding explored situation next number registers after begin step close on_quiet on_byte visit
six_dots = refl

-- "`.*`, `@0` to `@7`, seven `.`: 8 situations, 64 registers; eight `.`: REGISTERS"
seven_dots : length (found (97 ∷ []) (fields 7) 9) ≡ 8
unfolding explored situation next number registers after begin step close on_quiet on_byte visit
seven_dots = refl

seven_registers : length (registers (situation (fields 7) (replicate 9 97))) ≡ 64
unfolding situation number registers after begin step close on_quiet on_byte visit
seven_registers = refl

eight_registers : length (registers (situation (fields 8) (replicate 8 97))) ≡ 72
unfolding situation number registers after begin step close on_quiet on_byte visit
eight_registers = refl

-- `a*@0b*`: 3 situations, over all 256 bytes
three : length (found (bytes 0 256) p1 4) ≡ 3
unfolding bytes explored situation next number registers after begin step close on_quiet on_byte visit
three = refl

-- ---- traps: after `a` and after `b` the same two ENDs are in the list, in another order; the first in the list is the answer, not the lowest record

abbrev two_ends : Net
two_ends = fork 1 2 ∷ range 97 97 3 ∷ range 98 98 4 ∷ fork 5 6 ∷ fork 6 5 ∷ end 1 ∷ end 2 ∷ []

abbrev ends_at : Option (ℕ × Held) → Option ℕ
ends_at none = none
ends_at (some r) = some r.0

order_told : same_situation (situation two_ends (97 ∷ [])) (situation two_ends (98 ∷ [])) ≡ false
unfolding situation number registers after begin step close on_quiet on_byte visit
order_told = refl

first_answers : (ends_at (answer two_ends (97 ∷ [])) ≡ some 1) × (ends_at (answer two_ends (98 ∷ [])) ≡ some 2)
unfolding answer threads close on_quiet on_byte visit
first_answers = (refl, refl)
