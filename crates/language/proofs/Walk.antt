-- Paths through the records of a pattern, and its readings: one and the same. Assumes nothing.
use mathlib.Core.Path.{◌≡◌, refl, sym, ap, ◌∙◌}
use mathlib.Core.Logic.{◌⊎◌, inl, inr}
use mathlib.Core.List.{List, [], ◌∷◌, ◌++◌, append_assoc}
use Prim.Native.Nat.{ℕ, zero, suc, ◌+◌, ◌≤◌, ◌<◌}
use native.Mathlib.Omega.{arith}
use native.Mathlib.Numerals.{add-one}
use lib.ListN.{length, length-append}
use lib.Seq.{append_snoc, get_or-append_seam, get_or_at}
use Rattle.net.specs.Rec.{Rec, range, mask, fork, tag, end, Net, rec, bit}
use Rattle.paths.specs.Ways.{first, second, mark, Move, eat, turn, Step, by_range, by_mask, by_first, by_second, by_tag, Way, stay, go, eaten}
use Rattle.pattern.specs.Pat.{Pat, Empty, Byte, Any, Set, Tag, Seq, Alt, Star, Plus, Opt, size, start_at, compile, automaton}
pub use Rattle.language.specs.Written.{start, At}
use Rattle.language.specs.Language.{In, nothing, byte, any, one_of, marked, both, left, right, over, round, rounds, with, without}

-- ---- a piece stands in A at n, followed by f

start_one : (k n f : ℕ) → start_at (k + 1) n f ≡ n
start_one k n f = rw add-one

start_one' : (k n f : ℕ) → start_at (1 + k) n f ≡ n
start_one' k n f = let e : 1 + k ≡ suc k = omega arith in rw e

start_sum : (j k n f : ℕ) → start_at j n (start_at k (n + j) f) ≡ start_at (j + k) n f
start_sum zero k n f = let e : 0 + k ≡ k = omega arith in let d : n + 0 ≡ n = omega arith in rw (e, d)
start_sum (suc j) k n f = let e : suc j + k ≡ suc (j + k) = omega arith in rw e

pub start_is : (p : Pat) (n f : ℕ) → start_at (size p) n f ≡ start p n f
start_is Empty n f = refl
start_is (Byte b) n f = refl
start_is Any n f = refl
start_is (Set s) n f = refl
start_is (Tag t) n f = refl
start_is (Seq p q) n f = sym (start_sum (size p) (size q) n f) ∙ ap (λ g. start_at (size p) n g) (start_is q (n + size p) f) ∙ start_is p n (start q (n + size p) f)
start_is (Alt p q) n f = start_one' (size p + size q) n f
start_is (Star p) n f = start_one (size p) n f
start_is (Plus p) n f = start_one (size p) n f
start_is (Opt p) n f = start_one (size p) n f

-- what leads back to itself: a piece at n that is followed by the record after it starts at n
start_own : (k n : ℕ) → start_at k n (n + k) ≡ n
start_own zero n = omega arith
start_own (suc k) n = refl

pub start_here : (p : Pat) (n : ℕ) → start p n (n + size p) ≡ n
start_here p n = sym (start_is p n (n + size p)) ∙ start_own (size p) n

-- ---- the records of `compile` stand in the automaton

abbrev pub Holds : Net → ℕ → List Rec → Type 0
Holds A n [] = Unit {0}
Holds A n (r ∷ rs) = (rec A n ≡ r) × Holds A (n + 1) rs

pub length_compile : (p : Pat) (n f : ℕ) → length (compile p n f) ≡ size p
length_compile Empty n f = refl
length_compile (Byte b) n f = refl
length_compile Any n f = refl
length_compile (Set s) n f = refl
length_compile (Tag t) n f = refl
length_compile (Seq p q) n f =
    let i = length_compile p n (start_at (size q) (n + size p) f) in
    let j = length_compile q (n + size p) f in
    rw length-append (omega arith)
length_compile (Alt p q) n f =
    let i = length_compile p (n + 1) f in
    let j = length_compile q (n + 1 + size p) f in
    rw length-append (omega arith)
length_compile (Star p) n f = let i = length_compile p (n + 1) n in omega arith
length_compile (Plus p) n f = let i = length_compile p n (n + size p) in rw length-append (omega arith)
length_compile (Opt p) n f = let i = length_compile p (n + 1) f in omega arith

module _ (A : Net) where
  pub holds_split : (xs ys : List Rec) (n : ℕ) → Holds A n (xs ++ ys) → Holds A n xs × Holds A (n + length xs) ys
  holds_split [] ys n h = let e : n + 0 ≡ n = omega arith in (tt, rw e h)
  holds_split (x ∷ xs) ys n h =
      let r = holds_split xs ys (n + 1) h.1 in
      let e : n + suc (length xs) ≡ n + 1 + length xs = omega arith in
      ((h.0, r.0), rw e r.1)

  pub at_compile : (p : Pat) (n f : ℕ) → Holds A n (compile p n f) → At A p n f
  at_compile Empty n f h = tt
  at_compile (Byte b) n f h = h.0
  at_compile Any n f h = h.0
  at_compile (Set s) n f h = h.0
  at_compile (Tag t) n f h = h.0
  at_compile (Seq p q) n f h =
      let s = holds_split (compile p n (start_at (size q) (n + size p) f)) (compile q (n + size p) f) n h in
      let i = at_compile p n (start_at (size q) (n + size p) f) s.0 in
      let j = rw length_compile at s.1 in
      (rw (start_is q (n + size p) f) at i, at_compile q (n + size p) f j)
  at_compile (Alt p q) n f h =
      let s = holds_split (compile p (n + 1) f) (compile q (n + 1 + size p) f) (n + 1) h.1 in
      let j = rw length_compile at s.1 in
      (rw (start_is p (n + 1) f, start_is q (n + 1 + size p) f) at h.0, at_compile p (n + 1) f s.0, at_compile q (n + 1 + size p) f j)
  at_compile (Star p) n f h = (rw (start_is p (n + 1) n) at h.0, at_compile p (n + 1) n h.1)
  at_compile (Plus p) n f h =
      let s = holds_split (compile p n (n + size p)) (fork (start_at (size p) n (n + size p)) f ∷ []) n h in
      let j = rw (length_compile p n (n + size p), start_is p n (n + size p)) at s.1.0 in
      (j, at_compile p n (n + size p) s.0)
  at_compile (Opt p) n f h = (rw (start_is p (n + 1) f) at h.0, at_compile p (n + 1) f h.1)

pub holds_in : (pre rs post : List Rec) → Holds (pre ++ (rs ++ post)) (length pre) rs
holds_in pre [] post = tt
holds_in pre (r ∷ rs) post =
    let ih = holds_in (pre ++ (r ∷ [])) rs post in
    (get_or-append_seam pre r (rs ++ post) (mask [] 0), rw (append_snoc, length-append) at ih)

pub stands : (p : Pat) → At (automaton p) p 0 (size p)
stands p = at_compile (automaton p) p 0 (size p) (holds_in [] (compile p 0 (size p)) (end 0 ∷ []))

pub ends : (p : Pat) → rec (automaton p) (size p) ≡ end 0
ends p = get_or_at (compile p 0 (size p)) (end 0) [] (mask [] 0) (size p) (length_compile p 0 (size p))

pub begins : (p : Pat) → start p 0 (size p) ≡ 0
begins p = let e : size p ≡ 0 + size p = omega arith in rw e (start_here p 0)

-- ---- a reading is a path through the piece

-- the moves by which a path goes through a piece
abbrev pub moves : {p : Pat} {w : List ℕ} → In p w → List Move
moves nothing = []
moves (byte {b = b}) = eat b ∷ []
moves (any {b = b} h) = eat b ∷ []
moves (one_of {b = b} h) = eat b ∷ []
moves (marked {t = t}) = turn (mark t) ∷ []
moves (both x y) = moves x ++ moves y
moves (left x) = turn first ∷ moves x
moves (right y) = turn second ∷ moves y
moves over = turn second ∷ []
moves (round x y) = turn first ∷ (moves x ++ moves y)
moves (rounds x y) = moves x ++ moves y
moves (with x) = turn first ∷ moves x
moves without = turn second ∷ []

pub eaten_append : (p q : List Move) → eaten (p ++ q) ≡ eaten p ++ eaten q
eaten_append [] q = refl
eaten_append (eat b ∷ p) q = ap (λ r. b ∷ r) (eaten_append p q)
eaten_append (turn u ∷ p) q = eaten_append p q

eaten_two : (p q : List Move) {v w : List ℕ} → eaten p ≡ v → eaten q ≡ w → eaten (p ++ q) ≡ v ++ w
eaten_two p q d e = rw (eaten_append p q, d, e)

pub eaten_moves : {p : Pat} {w : List ℕ} (d : In p w) → eaten (moves d) ≡ w
eaten_moves nothing = refl
eaten_moves byte = refl
eaten_moves (any h) = refl
eaten_moves (one_of h) = refl
eaten_moves marked = refl
eaten_moves (both x y) = eaten_two (moves x) (moves y) (eaten_moves x) (eaten_moves y)
eaten_moves (left x) = eaten_moves x
eaten_moves (right y) = eaten_moves y
eaten_moves over = refl
eaten_moves (round x y) = eaten_two (moves x) (moves y) (eaten_moves x) (eaten_moves y)
eaten_moves (rounds x y) = eaten_two (moves x) (moves y) (eaten_moves x) (eaten_moves y)
eaten_moves (with x) = eaten_moves x
eaten_moves without = refl

module _ (A : Net) where
  pub path_append : {r s t : ℕ} {p q : List Move} → Way A r p s → Way A s q t → Way A r (p ++ q) t
  path_append stay y = y
  path_append (go s x) y = go s (path_append x y)

  -- the rounds of a repeated piece, at its FORK m
  loop : {p : Pat} (m s f : ℕ) → rec A m ≡ fork s f → ((v : List ℕ) (x : In p v) → Way A s (moves x) m) → {w : List ℕ} (d : In (Star p) w) → Way A m (moves d) f
  loop m s f e body over = go (by_second e) stay
  loop m s f e body (round x y) = go (by_first e) (path_append (body _ x) (loop m s f e body y))

  pub path_of : (p : Pat) (n f : ℕ) → At A p n f → {w : List ℕ} (d : In p w) → Way A (start p n f) (moves d) f
  path_of Empty n f a nothing = stay
  path_of (Byte b) n f a byte = go (by_range {b = b} a (omega arith) (omega arith)) stay
  path_of Any n f a (any {b = b} h) = go (by_range {b = b} a (omega arith) h) stay
  path_of (Set s) n f a (one_of h) = go (by_mask a h) stay
  path_of (Tag t) n f a marked = go (by_tag a) stay
  path_of (Seq p q) n f a (both x y) = path_append (path_of p n (start q (n + size p) f) a.0 x) (path_of q (n + size p) f a.1 y)
  path_of (Alt p q) n f a (left x) = go (by_first a.0) (path_of p (n + 1) f a.1 x)
  path_of (Alt p q) n f a (right y) = go (by_second a.0) (path_of q (n + 1 + size p) f a.2 y)
  path_of (Star p) n f a d = loop n (start p (n + 1) n) f a.0 (λ v x. path_of p (n + 1) n a.1 x) d
  path_of (Plus p) n f a (rounds x y) =
      path_append {q = moves y} (rw (start_here p n) at (path_of p n (n + size p) a.1 x)) (loop (n + size p) (start p n (n + size p)) f a.0 (λ v z. path_of p n (n + size p) a.1 z) y)
  path_of (Opt p) n f a (with x) = go (by_first a.0) (path_of p (n + 1) f a.1 x)
  path_of (Opt p) n f a without = go (by_second a.0) stay

-- ---- a path through the piece, to an END outside it, is a reading and a path from what follows

module _ (A : Net) where
  fork_step : {r x y next : ℕ} {m : Move} → rec A r ≡ fork x y → Step A r m next → ((m ≡ turn first) × (next ≡ x)) ⊎ ((m ≡ turn second) × (next ≡ y))
  fork_step e (by_range d l h) = let z : ◌≡◌ {A = ℕ} 0 1 = cc in absurd (omega arith)
  fork_step e (by_mask d h) = let z : ◌≡◌ {A = ℕ} 0 1 = cc in absurd (omega arith)
  fork_step e (by_first d) = inl (refl, cc)
  fork_step e (by_second d) = inr (refl, cc)
  fork_step e (by_tag d) = let z : ◌≡◌ {A = ℕ} 0 1 = cc in absurd (omega arith)

  tag_step : {r t f next : ℕ} {m : Move} → rec A r ≡ tag t f → Step A r m next → (m ≡ turn (mark t)) × (next ≡ f)
  tag_step e (by_range d l h) = let z : ◌≡◌ {A = ℕ} 0 1 = cc in absurd (omega arith)
  tag_step e (by_mask d h) = let z : ◌≡◌ {A = ℕ} 0 1 = cc in absurd (omega arith)
  tag_step e (by_first d) = let z : ◌≡◌ {A = ℕ} 0 1 = cc in absurd (omega arith)
  tag_step e (by_second d) = let z : ◌≡◌ {A = ℕ} 0 1 = cc in absurd (omega arith)
  tag_step {t = t} e (by_tag {t = u} d) = let i : u ≡ t = cc in (rw i, cc)

  range_step : {r lo hi f next : ℕ} {m : Move} → rec A r ≡ range lo hi f → Step A r m next → (b : ℕ) × (m ≡ eat b) × (lo ≤ b) × (b ≤ hi) × (next ≡ f)
  range_step {lo = lo} {hi = hi} e (by_range {lo = lo'} {hi = hi'} {b = b} d l h) =
      let i : lo' ≡ lo = cc in
      let j : hi' ≡ hi = cc in
      (b, refl, rw i at l, rw j at h, cc)
  range_step e (by_mask d h) = let z : ◌≡◌ {A = ℕ} 0 1 = cc in absurd (omega arith)
  range_step e (by_first d) = let z : ◌≡◌ {A = ℕ} 0 1 = cc in absurd (omega arith)
  range_step e (by_second d) = let z : ◌≡◌ {A = ℕ} 0 1 = cc in absurd (omega arith)
  range_step e (by_tag d) = let z : ◌≡◌ {A = ℕ} 0 1 = cc in absurd (omega arith)

  mask_step : {r : ℕ} {bits : List ℕ} {f next : ℕ} {m : Move} → rec A r ≡ mask bits f → Step A r m next → (b : ℕ) × (m ≡ eat b) × (bit bits b ≡ 1) × (next ≡ f)
  mask_step e (by_range d l h) = let z : ◌≡◌ {A = ℕ} 0 1 = cc in absurd (omega arith)
  mask_step {bits = bits} e (by_mask {bits = bits'} {b = b} d h) = let i : bits' ≡ bits = cc in (b, refl, rw i at h, cc)
  mask_step e (by_first d) = let z : ◌≡◌ {A = ℕ} 0 1 = cc in absurd (omega arith)
  mask_step e (by_second d) = let z : ◌≡◌ {A = ℕ} 0 1 = cc in absurd (omega arith)
  mask_step e (by_tag d) = let z : ◌≡◌ {A = ℕ} 0 1 = cc in absurd (omega arith)

  -- ms is a reading by p, and then a path from f on
  pub record Leaves (p : Pat) (f last : ℕ) (ms : List Move) : Type 0 where
    pub word : List ℕ
    pub reading : In p word
    pub rest : List Move
    pub whole : ms ≡ moves reading ++ rest
    pub onward : Way A f rest last

  -- a move of a piece of one record
  one_move : {p : Pat} {f last next : ℕ} {m : Move} {ms : List Move} {w : List ℕ} (d : In p w) → m ∷ [] ≡ moves d → next ≡ f → Way A next ms last
      → Leaves p f last (m ∷ ms)
  one_move {ms = ms} {w} d e i y = record { word = w; reading = d; rest = ms; whole = ap (λ l. l ++ ms) e; onward = rw i at y }

  -- a turn before the reading of a part
  under : {p q : Pat} {f last : ℕ} {m : Move} {ms : List Move} (g : (v : List ℕ) → In p v → In q v) → ((v : List ℕ) (x : In p v) → moves (g v x) ≡ m ∷ moves x)
      → Leaves p f last ms → Leaves q f last (m ∷ ms)
  under {m = m} g e l =
      record {
        word = l.word;
        reading = g l.word l.reading;
        rest = l.rest;
        whole = ap (λ k. m ∷ k) l.whole ∙ ap (λ k. k ++ l.rest) (sym (e l.word l.reading));
        onward = l.onward;
      }

  -- one reading after the other
  join : {p q r : Pat} {g f last : ℕ} {ms : List Move} (c : (v w : List ℕ) → In p v → In q w → In r (v ++ w))
      → ((v w : List ℕ) (x : In p v) (y : In q w) → moves (c v w x y) ≡ moves x ++ moves y)
      → (l : Leaves p g last ms) → Leaves q f last l.rest → Leaves r f last ms
  join c e l k =
      record {
        word = l.word ++ k.word;
        reading = c l.word k.word l.reading k.reading;
        rest = k.rest;
        whole =
            l.whole ∙ ap (λ v. moves l.reading ++ v) k.whole ∙ sym (append_assoc (moves l.reading) (moves k.reading) k.rest)
            ∙ ap (λ v. v ++ k.rest) (sym (e l.word k.word l.reading k.reading));
        onward = k.onward;
      }

  shorter : {p : Pat} {f last : ℕ} {ms : List Move} (l : Leaves p f last ms) → length l.rest ≤ length ms
  shorter l = rw (l.whole, length-append) (omega arith)

  module _ (last a : ℕ) (at_end : rec A last ≡ end a) where
    -- a path from a FORK
    pub data Sides (x y : ℕ) (ms : List Move) : Type 0 where
      one : {ns : List Move} → ms ≡ turn first ∷ ns → Way A x ns last → Sides x y ms
      two : {ns : List Move} → ms ≡ turn second ∷ ns → Way A y ns last → Sides x y ms

    pub from_fork : {r x y : ℕ} {ms : List Move} → rec A r ≡ fork x y → Way A r ms last → Sides x y ms
    from_fork e stay = let z : ◌≡◌ {A = ℕ} 0 1 = cc in absurd (omega arith)
    from_fork {x = x} {y = y} e (go {m = m} {next = next} {ms = ms} st c) = by (fork_step e st)
      where
        by : ((m ≡ turn first) × (next ≡ x)) ⊎ ((m ≡ turn second) × (next ≡ y)) → Sides x y (m ∷ ms)
        by (inl i) = one (ap (λ v. v ∷ ms) i.0) (rw i.1 at c)
        by (inr i) = two (ap (λ v. v ∷ ms) i.0) (rw i.1 at c)

    -- the rounds of a repeated piece, at its FORK m: by the length of the path
    module _ (p : Pat) (m s f : ℕ) (e : rec A m ≡ fork s f) (body : (ms : List Move) → Way A s ms last → Leaves p m last ms) where
      one_round : {ms : List Move} (l : Leaves p m last ms) → Leaves (Star p) f last l.rest → Leaves (Star p) f last (turn first ∷ ms)
      one_round l k =
          record {
            word = l.word ++ k.word;
            reading = round l.reading k.reading;
            rest = k.rest;
            whole = ap (λ v. turn first ∷ v) (l.whole ∙ ap (λ v. moves l.reading ++ v) k.whole ∙ sym (append_assoc (moves l.reading) (moves k.reading) k.rest));
            onward = k.onward;
          }

      at_fork : (ms : List Move) → Way A m ms last → ((ns : List Move) → length ns < length ms → Way A m ns last → Leaves (Star p) f last ns) → Leaves (Star p) f last ms
      at_fork ms y ih = by (from_fork e y)
        where
          by : Sides s f ms → Leaves (Star p) f last ms
          by (one {ns = ns} i c) =
              let l = body ns c in
              let j = shorter l in
              let k : length ms ≡ suc (length ns) = ap length i in
              rw i (one_round l (ih l.rest (omega arith) l.onward))
          by (two i c) = rw i (one_move over refl refl c)

      within : (k : ℕ) (ms : List Move) → length ms ≤ k → Way A m ms last → Leaves (Star p) f last ms
      within zero ms h y = at_fork ms y (λ ns i z. absurd (omega arith))
      within (suc k) ms h y = at_fork ms y (λ ns i z. within k ns (omega arith) z)

      leaves_loop : {ms : List Move} → Way A m ms last → Leaves (Star p) f last ms
      leaves_loop {ms} y = within (length ms) ms (omega arith) y

    -- one record that takes a byte
    leaves_range : {r lo hi f : ℕ} {p : Pat} → rec A r ≡ range lo hi f → (g : (b : ℕ) → lo ≤ b → b ≤ hi → (d : In p (b ∷ [])) × (moves d ≡ eat b ∷ []))
        → {ms : List Move} → Way A r ms last → Leaves p f last ms
    leaves_range e g stay = let z : ◌≡◌ {A = ℕ} 0 1 = cc in absurd (omega arith)
    leaves_range e g (go st y) =
        let s = range_step e st in
        let d = g s.0 s.2 s.3 in
        one_move d.0 (ap (λ v. v ∷ []) s.1 ∙ sym d.1) s.4 y

    only_byte : (b c : ℕ) → b ≤ c → c ≤ b → (d : In (Byte b) (c ∷ [])) × (moves d ≡ eat c ∷ [])
    only_byte b c h k = let e : c ≡ b = omega arith in rw e (byte, refl)

    leaves_mask : {r f : ℕ} {s : List ℕ} → rec A r ≡ mask s f → {ms : List Move} → Way A r ms last → Leaves (Set s) f last ms
    leaves_mask e stay = let z : ◌≡◌ {A = ℕ} 0 1 = cc in absurd (omega arith)
    leaves_mask e (go st y) = let s = mask_step e st in one_move (one_of s.2) (ap (λ v. v ∷ []) s.1) s.3 y

    leaves_tag : {r t f : ℕ} → rec A r ≡ tag t f → {ms : List Move} → Way A r ms last → Leaves (Tag t) f last ms
    leaves_tag e stay = let z : ◌≡◌ {A = ℕ} 0 1 = cc in absurd (omega arith)
    leaves_tag e (go st y) = let s = tag_step e st in one_move marked (ap (λ v. v ∷ []) s.0) s.1 y

    -- a FORK whose sides are two pieces
    leaves_fork : {x y f : ℕ} {p : Pat} → ((ms : List Move) → Way A x ms last → Leaves p f last (turn first ∷ ms))
        → ((ms : List Move) → Way A y ms last → Leaves p f last (turn second ∷ ms)) → {ms : List Move} → Sides x y ms → Leaves p f last ms
    leaves_fork f g (one i c) = rw i (f _ c)
    leaves_fork f g (two i c) = rw i (g _ c)

    pub leaves : (p : Pat) (n f : ℕ) → At A p n f → {ms : List Move} → Way A (start p n f) ms last → Leaves p f last ms
    leaves Empty n f h {ms} y = record { word = []; reading = nothing; rest = ms; whole = refl; onward = y }
    leaves (Byte b) n f h y = leaves_range h (λ c i j. only_byte b c i j) y
    leaves Any n f h y = leaves_range h (λ c i j. (any j, refl)) y
    leaves (Set s) n f h y = leaves_mask h y
    leaves (Tag t) n f h y = leaves_tag h y
    leaves (Seq p q) n f h y =
        let l = leaves p n (start q (n + size p) f) h.0 y in
        join (λ v w. both) (λ v w x y. refl) l (leaves q (n + size p) f h.1 l.onward)
    leaves (Alt p q) n f h y =
        leaves_fork (λ ms c. under (λ v. left) (λ v x. refl) (leaves p (n + 1) f h.1 c)) (λ ms c. under (λ v. right) (λ v x. refl) (leaves q (n + 1 + size p) f h.2 c)) (from_fork h.0 y)
    leaves (Star p) n f h y = leaves_loop p n (start p (n + 1) n) f h.0 (λ ms c. leaves p (n + 1) n h.1 c) y
    leaves (Plus p) n f h {ms} y =
        let l = leaves p n (n + size p) h.1 {ms = ms} (rw (start_here p n) y) in
        join (λ v w. rounds) (λ v w x y. refl) l (leaves_loop p (n + size p) (start p n (n + size p)) f h.0 (λ ms c. leaves p n (n + size p) h.1 c) l.onward)
    leaves (Opt p) n f h y =
        leaves_fork (λ ms c. under (λ v. with) (λ v x. refl) (leaves p (n + 1) f h.1 c))
        (λ ms c. record { word = []; reading = without; rest = ms; whole = refl; onward = c }) (from_fork h.0 y)
