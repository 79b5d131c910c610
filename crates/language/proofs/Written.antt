-- The records of a pattern stand as written, and none leads outside. Assumes nothing.
use mathlib.Core.Path.{◌≡◌, sym, ap, ◌∙◌, subst}
use mathlib.Core.List.{List, [], ◌∷◌, ◌++◌}
use Prim.Native.Nat.{ℕ, zero, suc, ◌+◌, ◌≤◌, ◌<◌}
use native.Mathlib.Omega.{arith}
use lib.ListN.{length, get_or, length-append}
use Rattle.net.specs.Rec.{Rec, mask, fork, end}
use Rattle.pattern.specs.Pat.{Pat, Empty, Byte, Any, Set, Tag, Seq, Alt, Star, Plus, Opt, size, start_at, compile, automaton}
use Rattle.language.specs.Written.{Inside, Written}
use Rattle.language.proofs.Walk.{stands, ends, begins, length_compile}

abbrev AllInside : ℕ → List Rec → Type 0
AllInside N [] = Unit {0}
AllInside N (r ∷ rs) = Inside N r × AllInside N rs

inside_append : (N : ℕ) (xs ys : List Rec) → AllInside N xs → AllInside N ys → AllInside N (xs ++ ys)
inside_append N [] ys a b = b
inside_append N (x ∷ xs) ys a b = (a.0, inside_append N xs ys a.1 b)

inside_at : (N : ℕ) (xs : List Rec) (r : ℕ) (d : Rec) → AllInside N xs → r < length xs → Inside N (get_or xs r d)
inside_at N [] r d a h = absurd (omega arith)
inside_at N (x ∷ xs) zero d a h = a.0
inside_at N (x ∷ xs) (suc r) d a h = inside_at N xs r d a.1 (omega arith)

start_inside : (k n f N : ℕ) → n + k ≤ N → f < N → start_at k n f < N
start_inside zero n f N h g = g
start_inside (suc k) n f N h g = omega arith

-- a piece that is written from n on, within N records, and followed by one of them
pub compile_inside : (p : Pat) (n f N : ℕ) → n + size p ≤ N → f < N → AllInside N (compile p n f)
compile_inside Empty n f N h g = tt
compile_inside (Byte b) n f N h g = (g, tt)
compile_inside Any n f N h g = (g, tt)
compile_inside (Set s) n f N h g = (g, tt)
compile_inside (Tag t) n f N h g = (g, tt)
compile_inside (Seq p q) n f N h g =
    inside_append N (compile p n (start_at (size q) (n + size p) f)) (compile q (n + size p) f)
    (compile_inside p n (start_at (size q) (n + size p) f) N (omega arith) (start_inside (size q) (n + size p) f N (omega arith) g))
    (compile_inside q (n + size p) f N (omega arith) g)
compile_inside (Alt p q) n f N h g = (
  (start_inside (size p) (n + 1) f N (omega arith) g, start_inside (size q) (n + 1 + size p) f N (omega arith) g),
  inside_append N (compile p (n + 1) f) (compile q (n + 1 + size p) f) (compile_inside p (n + 1) f N (omega arith) g) (compile_inside q (n + 1 + size p) f N (omega arith) g),
)
compile_inside (Star p) n f N h g = ((start_inside (size p) (n + 1) n N (omega arith) (omega arith), g), compile_inside p (n + 1) n N (omega arith) (omega arith))
compile_inside (Plus p) n f N h g =
    inside_append N (compile p n (n + size p)) (fork (start_at (size p) n (n + size p)) f ∷ []) (compile_inside p n (n + size p) N (omega arith) (omega arith))
    ((start_inside (size p) n (n + size p) N (omega arith) (omega arith), g), tt)
compile_inside (Opt p) n f N h g = ((start_inside (size p) (n + 1) f N (omega arith) g, g), compile_inside p (n + 1) f N (omega arith) g)

count : (p : Pat) → length (automaton p) ≡ size p + 1
count p = length-append (compile p 0 (size p)) (end 0 ∷ []) ∙ ap (λ n. n + 1) (length_compile p 0 (size p))

pub written : (p : Pat) → Written p
written p =
    record {
      count = count p;
      as_written = stands p;
      from_zero = begins p;
      last = ends p;
      inside = λ r h. inside_at (length (automaton p)) (automaton p) r (mask [] 0) (subst (λ n. AllInside n (automaton p)) (sym (count p)) all) h;
    }
  where
    all : AllInside (size p + 1) (automaton p)
    all = inside_append (size p + 1) (compile p 0 (size p)) (end 0 ∷ []) (compile_inside p 0 (size p) (size p + 1) (omega arith) (omega arith)) (tt, tt)
