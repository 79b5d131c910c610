-- What `bytes_of` writes of a formed table reads back as that table, so a file says one table at most. Assumes nothing.
use Prim.Native.Nat.{ℕ, suc, ◌+◌, ◌-◌, ◌<◌, ◌≤◌}
use native.Mathlib.Omega.{arith}
use mathlib.Core.Path.{◌≡◌, refl, sym, ap, ◌∙◌}
use mathlib.Core.List.{List, [], ◌∷◌, ◌++◌, append_assoc}
use lib.ListN.{length, get_or, take, drop}
use lib.Seq.{take_at, drop_at}
use borrow.Author.Tests.{eq-eqb, ne_eqb, le-leb, lt-leb, le-ltb}
use Rattle.ground.specs.Lists.{each}
use Rattle.ground.specs.Pick.{pick}
use Rattle.card.specs.Table.{Cmd, move, put, Row, Sit, Table, cmd_bytes, row_bytes, sit_bytes, bytes_of, Rising, Upward, FormedSits, Formed}
use Rattle.card.specs.declared.Order.TheVariants.{Move, Put, Stop}
use Rattle.std.specs.Prelude.{Some, None}
use Rattle.card.specs.Decode.{cmd_at, cmds_at, after_at, row_at, rows_at, after_rows, sit_at, sits_from, table_at}
use Rattle.ground.proofs.Lists.{byte_here, first_here, left_here, later_here}
use Rattle.card.proofs.Laws.{cmds_step}
use Rattle.card.proofs.Rows.{after_step, rows_step}
use Rattle.card.proofs.Situations.{after_rows_step}

-- ---- one item

-- the list begins with no kind at or above k
pub Below : ℕ → List ℕ → Type 0
Below k [] = Unit {0}
Below k (x ∷ l) = x < k

module _ (s : List ℕ) (at : ℕ) where
  move_here : (t f : ℕ) (q : List ℕ) → drop at s ≡ 0x24 ∷ t ∷ f ∷ q → t < 64 → f < 64 → cmd_at s at ≡ Move t f
  unfolding pick cmd_at
  move_here t f q e a b =
      let l = left_here s at e in
      simp (lt-leb (length s) at (omega arith), eq-eqb _ 0x24 (first_here s at e), le-ltb (length s - at) 3 (omega arith), byte_here s at e, lt-leb 64 t a, lt-leb 64 f b)

  put_here : (t : ℕ) (q : List ℕ) → drop at s ≡ 0x25 ∷ t ∷ q → t < 64 → cmd_at s at ≡ Put t
  unfolding pick cmd_at
  put_here t q e a =
      let l = left_here s at e in
      simp (lt-leb (length s) at (omega arith), first_here s at e, le-ltb (length s - at) 2 (omega arith), byte_here s at e, lt-leb 64 t a)

  stop_here : (q : List ℕ) → drop at s ≡ q → Below 0x24 q → cmd_at s at ≡ Stop
  unfolding pick cmd_at Below
  stop_here [] e b = let l = left_here s at e in simp (le-leb (length s) at (omega arith))
  stop_here (k ∷ q) e b =
      let l = left_here s at e in
      simp (lt-leb (length s) at (omega arith), ne_eqb (get_or s at 0) 0x24 (λ h. omega (arith, first_here s at e)), ne_eqb (get_or s at 0) 0x25 (λ h. omega (arith, first_here s at e)))

  line_here : (lo hi next : ℕ) (q : List ℕ) → drop at s ≡ 0x23 ∷ lo ∷ hi ∷ next ∷ q → row_at s at ≡ Some (lo, hi, next)
  unfolding pick row_at
  line_here lo hi next q e =
      let l = left_here s at e in
      simp (lt-leb (length s) at (omega arith), first_here s at e, le-ltb (length s - at) 4 (omega arith), byte_here s at e)

  ends_here : (q : List ℕ) → drop at s ≡ q → Below 0x23 q → row_at s at ≡ None
  unfolding pick row_at Below
  ends_here [] e b = let l = left_here s at e in simp (le-leb (length s) at (omega arith))
  ends_here (k ∷ q) e b =
      let l = left_here s at e in
      simp (lt-leb (length s) at (omega arith), ne_eqb (get_or s at 0) 0x23 (λ h. omega (arith, first_here s at e)))

-- ---- lists of items

-- the items that may follow a list
rows_quiet : (l : List Row) (q : List ℕ) → Below 0x23 q → Below 0x24 (each row_bytes l ++ q)
unfolding Below
rows_quiet [] [] b = tt
rows_quiet [] (k ∷ q) b = omega arith
rows_quiet (r ∷ l) q b = omega arith

sits_quiet : (l : List Sit) → Below 0x23 (each sit_bytes l)
unfolding Below
sits_quiet [] = tt
sits_quiet (x ∷ l) = omega arith

start_quiet : (l : List Sit) → Below 0x24 (each sit_bytes l)
unfolding Below
start_quiet [] = tt
start_quiet (x ∷ l) = omega arith

-- the items at a place are those that were written there, and what follows them stands after them
module _ (s : List ℕ) (tags R N : ℕ) (few : R ≤ 64) where
  cmds_here : (l : List Cmd) (low at : ℕ) (q : List ℕ) → Rising R low l → drop at s ≡ each cmd_bytes l ++ q → Below 0x24 q
      → (cmds_at s at ≡ l) × (drop (after_at s at) s ≡ q)
  cmds_here [] low at q r e b =
      let stop = stop_here s at q e b in
      (cmds_step s at Stop stop, ap (λ (n : ℕ). drop n s) (after_step s at Stop stop) ∙ e)
  cmds_here (move t f ∷ l) low at q r e b =
      let it = move_here s at t f _ e (omega arith) (omega arith) in
      let more = cmds_here l (suc t) (at + 3) q r.3 (later_here s at e 3) b in
      (cmds_step s at (Move t f) it ∙ ap (λ (x : List Cmd). move t f ∷ x) more.0, ap (λ (n : ℕ). drop n s) (after_step s at (Move t f) it) ∙ more.1)
  cmds_here (put t ∷ l) low at q r e b =
      let it = put_here s at t _ e (omega arith) in
      let more = cmds_here l (suc t) (at + 2) q r.2 (later_here s at e 2) b in
      (cmds_step s at (Put t) it ∙ ap (λ (x : List Cmd). put t ∷ x) more.0, ap (λ (n : ℕ). drop n s) (after_step s at (Put t) it) ∙ more.1)

  rows_here : (l : List Row) (lo at : ℕ) (q : List ℕ) → Upward R N lo l → drop at s ≡ each row_bytes l ++ q → Below 0x23 q
      → (rows_at s at ≡ l) × (drop (after_rows s at) s ≡ q)
  rows_here [] lo at q u e b =
      let stop = ends_here s at q e b in
      (rows_step s at None stop, ap (λ (n : ℕ). drop n s) (after_rows_step s at None stop) ∙ e)
  rows_here (r ∷ l) lo at q u e b =
      let it = line_here s at r.lo r.hi r.next _ e in
      let cs = cmds_here r.cmds 0 (at + 4) (each row_bytes l ++ q) u.4 (later_here s at e 4 ∙ append_assoc (each cmd_bytes r.cmds) (each row_bytes l) q) (rows_quiet l q b) in
      let more = rows_here l (suc r.hi) (after_at s (at + 4)) q u.5 cs.1 b in (
        rows_step s at _ it
            ∙ ap (λ (c : List Cmd). record { lo = r.lo; hi = r.hi; next = r.next; cmds = c } ∷ rows_at s (after_at s (at + 4))) cs.0
            ∙ ap (λ (x : List Row). r ∷ x) more.0,
        ap (λ (n : ℕ). drop n s) (after_rows_step s at _ it) ∙ more.1,
      )

  sits_here : (l : List Sit) (at : ℕ) → FormedSits tags R N l → drop at s ≡ each sit_bytes l → sits_from (length l) s at ≡ l
  unfolding sits_from sit_at
  sits_here [] at f e = refl
  sits_here (x ∷ l) at f e =
      let fs = later_here s at e 2 ∙ append_assoc x.fields (each row_bytes x.rows) (each sit_bytes l) in
      let ten : at + 10 ≡ at + 2 + 8 = omega arith in
      let here = ap (λ (n : ℕ). drop n s) ten ∙ later_here s (at + 2) fs 8 ∙ drop_at x.fields _ 8 f.0.eight in
      let rows = rows_here x.rows 0 (at + 10) (each sit_bytes l) f.0.rows here (sits_quiet l) in
      let more = sits_here l (after_rows s (at + 10)) f.1 rows.1 in
      ap (λ (a : ℕ). record { answer = a; fields = take 8 (drop (at + 2) s); rows = rows_at s (at + 10) } ∷ sits_from (length l) s (after_rows s (at + 10))) (byte_here s at e 1)
      ∙ ap (λ (a : List ℕ). record { answer = x.answer; fields = a; rows = rows_at s (at + 10) } ∷ sits_from (length l) s (after_rows s (at + 10)))
      (ap (take 8) fs ∙ take_at x.fields _ 8 f.0.eight)
      ∙ ap (λ (a : List Row). record { answer = x.answer; fields = x.fields; rows = a } ∷ sits_from (length l) s (after_rows s (at + 10))) rows.0
      ∙ ap (λ (a : List Sit). x ∷ a) more

-- ---- the whole

pub decoded : (T : Table) → Formed T → table_at (bytes_of T) ≡ T
unfolding table_at bytes_of
decoded T f =
    let s = bytes_of T in
    let N = length T.sits in
    let start = cmds_here s T.tags T.registers N f.registers T.start 0 5 (each sit_bytes T.sits) f.start refl (start_quiet T.sits) in
    let sits = sits_here s T.tags T.registers N f.registers T.sits (after_at s 5) f.sits start.1 in
    ap (λ (l : List Cmd). record { tags = T.tags; registers = T.registers; start = l; sits = sits_from N s (after_at s 5) }) start.0
    ∙ ap (λ (l : List Sit). record { tags = T.tags; registers = T.registers; start = T.start; sits = l }) sits

pub bytes_one : (T U : Table) → Formed T → Formed U → bytes_of T ≡ bytes_of U → T ≡ U
bytes_one T U f g e = sym (decoded T f) ∙ ap table_at e ∙ decoded U g

-- a file that says a formed table says what it reads as
pub reads_as : (s : List ℕ) (T : Table) → Formed T → s ≡ bytes_of T → T ≡ table_at s
reads_as s T f e = sym (ap table_at e ∙ decoded T f)
