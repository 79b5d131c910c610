-- Document 01, "Pattern text": "Records are numbered as written." Assumes nothing.
use Rattle.std.specs.Prelude.{◌≡◌, ℕ, ◌+◌, ◌<◌, length}
use Rattle.net.specs.Rec.{Rec, range, mask, fork, tag, end, Net, rec}
use Rattle.pattern.specs.Pat.{Pat, Empty, Byte, Any, Set, Tag, Seq, Alt, Star, Plus, Opt, size, automaton}

-- The number of a piece's first record, where the piece is written from n on and f is what follows. "Empty: nothing; its start is what follows it."
abbrev pub start : Pat → ℕ → ℕ → ℕ
start Empty n f = f
start (Byte b) n f = n
start Any n f = n
start (Set s) n f = n
start (Tag t) n f = n
start (Seq p q) n f = start p n (start q (n + size p) f)
start (Alt p q) n f = n
start (Star p) n f = n
start (Plus p) n f = n
start (Opt p) n f = n

-- A piece's records stand in A as written, from n on. "Byte and `.`: a RANGE. Set: a MASK. `X|Y`: FORK (X, Y), X, Y. `X*`: FORK (X, what follows), X leading
-- back to the FORK. `X+`: X, FORK (X, what follows). `X?`: FORK (X, what follows), X. Empty: nothing."
abbrev pub At : Net → Pat → ℕ → ℕ → Type 0
At A Empty n f = Unit {0}
At A (Byte b) n f = rec A n ≡ range b b f
At A Any n f = rec A n ≡ range 0 255 f
At A (Set s) n f = rec A n ≡ mask s f
At A (Tag t) n f = rec A n ≡ tag t f
At A (Seq p q) n f = At A p n (start q (n + size p) f) × At A q (n + size p) f
At A (Alt p q) n f = (rec A n ≡ fork (start p (n + 1) f) (start q (n + 1 + size p) f)) × At A p (n + 1) f × At A q (n + 1 + size p) f
At A (Star p) n f = (rec A n ≡ fork (start p (n + 1) n) f) × At A p (n + 1) n
At A (Plus p) n f = (rec A (n + size p) ≡ fork (start p n (n + size p)) f) × At A p n (n + size p)
At A (Opt p) n f = (rec A n ≡ fork (start p (n + 1) f) f) × At A p (n + 1) f

-- "A next, first or second is below count"
abbrev pub Inside : ℕ → Rec → Type 0
Inside count (range lo hi next) = next < count
Inside count (mask bits next) = next < count
Inside count (fork x y) = (x < count) × (y < count)
Inside count (tag t next) = next < count
Inside count (end a) = Unit {0}

-- the automaton of p: its records as written, then "Last, END 0", and none leads outside
pub record Written (p : Pat) : Type 0 where
  pub count : length (automaton p) ≡ size p + 1
  pub as_written : At (automaton p) p 0 (size p)
  pub from_zero : start p 0 (size p) ≡ 0
  pub last : rec (automaton p) (size p) ≡ end 0
  pub inside : (r : ℕ) → r < length (automaton p) → Inside (length (automaton p)) (rec (automaton p) r)
