-- What the maker writes is a legal automaton: every next, first and second is below the count, every tag below the HEAD's tags. Assumes nothing.
use Prim.Native.Nat.{ℕ, zero, suc, ◌+◌, ◌≤◌, ◌<◌}
use mathlib.Core.Path.{◌≡◌, sym, subst}
use mathlib.Core.List.{List, [], ◌∷◌, ◌++◌}
use native.Mathlib.Omega.{arith}
use lib.ListN.{length, get_or, length-append}
use Rattle.net.specs.Rec.{Rec, fork, end}
use Rattle.net.specs.File.{Fits, Legal}
use Rattle.ground.specs.Lists.{Every}
use Rattle.pattern.specs.Pat.{Pat, size, start_at, compile, automaton}
use Rattle.pattern.specs.Pat.Pat.{Empty, Byte, Any, Set, Tag, Seq, Alt, Star, Plus, Opt}
use Rattle.pattern.specs.Reader.{ok, alts, read}
use Rattle.pattern.specs.Measured.{tags}
use Rattle.pattern.proofs.Sane.{Sane, read_sane}
use Rattle.pattern.proofs.Top.{compile_long}

both_parts : (t count : ℕ) (a b : List Rec) → Every (Fits t count) a → Every (Fits t count) b → Every (Fits t count) (a ++ b)
both_parts t count [] b x y = y
both_parts t count (r ∷ a) b x y = (x.0, both_parts t count a b x.1 y)

-- a piece starts at its first record, or at what follows
start_fits : (k n f count : ℕ) → n + k ≤ count → f < count → start_at k n f < count
start_fits zero n f count h g = g
start_fits (suc k) n f count h g = omega arith

-- the records of a piece at n, with f what follows, where count records stand
pub piece_fits : (p : Pat) → Sane p → (t count n f : ℕ) → tags p ≤ t → n + size p ≤ count → f < count → Every (Fits t count) (compile p n f)
piece_fits Empty h t count n f a b g = tt
piece_fits (Byte x) h t count n f a b g = ((omega arith, omega arith, g), tt)
piece_fits Any h t count n f a b g = ((omega arith, omega arith, g), tt)
piece_fits (Set s) h t count n f a b g = ((h.0, h.1, g), tt)
piece_fits (Tag x) h t count n f a b g = ((omega arith, g), tt)
piece_fits (Seq p q) h t count n f a b g =
    let f' = start_at (size q) (n + size p) f in
    both_parts t count (compile p n f') (compile q (n + size p) f)
    (piece_fits p h.0 t count n f' (omega arith) (omega arith) (start_fits (size q) (n + size p) f count (omega arith) g))
    (piece_fits q h.1 t count (n + size p) f (omega arith) (omega arith) g)
piece_fits (Alt p q) h t count n f a b g = (
  (start_fits (size p) (n + 1) f count (omega arith) g, start_fits (size q) (n + 1 + size p) f count (omega arith) g),
  both_parts t count (compile p (n + 1) f) (compile q (n + 1 + size p) f)
      (piece_fits p h.0 t count (n + 1) f (omega arith) (omega arith) g)
      (piece_fits q h.1 t count (n + 1 + size p) f (omega arith) (omega arith) g),
)
piece_fits (Star p) h t count n f a b g =
    ((start_fits (size p) (n + 1) n count (omega arith) (omega arith), g), piece_fits p h t count (n + 1) n a (omega arith) (omega arith))
piece_fits (Plus p) h t count n f a b g =
    both_parts t count (compile p n (n + size p)) (fork (start_at (size p) n (n + size p)) f ∷ [])
    (piece_fits p h t count n (n + size p) a (omega arith) (omega arith))
    ((start_fits (size p) n (n + size p) count (omega arith) (omega arith), g), tt)
piece_fits (Opt p) h t count n f a b g =
    ((start_fits (size p) (n + 1) f count (omega arith) g, g), piece_fits p h t count (n + 1) f a (omega arith) g)

-- eight tags at most
pub few_tags : (p : Pat) → Sane p → tags p ≤ 8
few_tags Empty h = omega arith
few_tags (Byte x) h = omega arith
few_tags Any h = omega arith
few_tags (Set s) h = omega arith
few_tags (Tag x) h = omega arith
few_tags (Seq p q) h = let a = few_tags p h.0 in let b = few_tags q h.1 in omega arith
few_tags (Alt p q) h = let a = few_tags p h.0 in let b = few_tags q h.1 in omega arith
few_tags (Star p) h = few_tags p h
few_tags (Plus p) h = few_tags p h
few_tags (Opt p) h = few_tags p h

pub automaton_long : (p : Pat) → length (automaton p) ≡ size p + 1
automaton_long p = let a = compile_long p 0 (size p) in let b = length-append (compile p 0 (size p)) (end 0 ∷ []) in omega arith

pub automaton_legal : (p : Pat) → Sane p → size p < 64 → Legal (tags p) (automaton p)
automaton_legal p h g =
    let n = automaton_long p in
    record {
      few_tags = few_tags p h;
      some = omega arith;
      few = omega arith;
      fits = subst (λ (k : ℕ). Every (Fits (tags p) k) (automaton p)) (sym n)
          (both_parts (tags p) (size p + 1) (compile p 0 (size p)) (end 0 ∷ []) (piece_fits p h (tags p) (size p + 1) 0 (size p) (omega arith) (omega arith) (omega arith)) (omega arith, tt));
    }

-- so is that of every pattern that is read of bytes and makes no more than 64 records
pub read_legal : (s : List ℕ) → ((i : ℕ) → get_or s i 0 < 256) → (e : ℕ) (p : Pat) → read s alts 0 0 ≡ ok e p → size p < 64 → Legal (tags p) (automaton p)
read_legal s bs e p r g = automaton_legal p (read_sane s bs alts 0 0 e p r) g
