-- A line gets stuck exactly if a register that no row on some way has written is read at the way's end. Assumes nothing.
use Prim.Native.Nat.{ℕ, zero, suc, ◌+◌, ◌≤◌, ◌<◌}
use native.Mathlib.Omega.{arith}
use native.Mathlib.Decide.{ℕ_discrete, dec_lt}
use mathlib.Core.Path.{◌≡◌, refl, sym, ap, ◌∙◌, subst}
use mathlib.Core.Logic.{◌⊎◌, inl, inr}
use mathlib.Core.List.{List, [], ◌∷◌, ◌++◌}
use lib.ListN.{length, set, replicate, length-append, get_or-eq_default}
use lib.Seq.{get_or-set_same, get_or-set_other, set_out}
use lib.IntN.{ℤ, pos, negsuc}
use Rattle.card.specs.Table.{Cmd, move, put, Table}
use Rattle.card.specs.Run.{Bank, line_max, empties, Empty, reg, Out, ok, stuck, moved, apply, State, at, lost, arrive, sit, row_in, step, run, begun, In, EndRead}
use Rattle.ground.specs.Lists.{Bytes}
use Rattle.ground.proofs.Every.{bytes_more}
use Rattle.loader.specs.Flow.{EmptyRead, Reads}

-- r is no target of a list
abbrev pub Free : ℕ → List Cmd → Type 0
Free r [] = Unit {0}
Free r (move t f ∷ l) = (t ≡ r → ⊥) × Free r l
Free r (put t ∷ l) = (t ≡ r → ⊥) × Free r l

ok_stuck : {b : Bank} → ok b ≡ stuck → ⊥
ok_stuck e = let z : ◌≡◌ {A = ℕ} 0 1 = cc in omega arith

at_lost : {q : ℕ} {b : Bank} → at q b ≡ lost → ⊥
at_lost e = let z : ◌≡◌ {A = ℕ} 0 1 = cc in omega arith

-- ---- one store

set_empty : (cur : Bank) (t r : ℕ) (v : ℤ) → (Empty v → ⊥) → Empty (reg (set cur t v) r) → (t ≡ r → ⊥) × Empty (reg cur r)
set_empty cur t r v n e = go (ℕ_discrete r t) (dec_lt t (length cur))
  where
    go : Dec (r ≡ t) → Dec (t < length cur) → (t ≡ r → ⊥) × Empty (reg cur r)
    go (no d) k = ((λ x. d (sym x)), subst Empty (get_or-set_other cur t r v (pos 0) d) e)
    go (yes d) (yes l) =
        absurd (n (subst Empty (get_or-set_same cur t v (pos 0) l) (subst (λ (x : ℕ). Empty (reg (set cur t v) x)) d e)))
    go (yes d) (no l) =
        let out : length cur ≤ t = omega arith in
        absurd (subst Empty (ap (λ (x : Bank). reg x t) (set_out cur t v out) ∙ get_or-eq_default cur (pos 0) out)
        (subst (λ (x : ℕ). Empty (reg (set cur t v) x)) d e))

set_keeps : (cur : Bank) (t r : ℕ) (v : ℤ) → (t ≡ r → ⊥) → Empty (reg cur r) → Empty (reg (set cur t v) r)
set_keeps cur t r v d e = subst Empty (sym (get_or-set_other cur t r v (pos 0) (λ x. d (sym x)))) e

-- ---- one list of commands

left_empty : (l : List Cmd) (p : ℕ) (old cur new : Bank) → apply l p old cur ≡ ok new → (r : ℕ) → Empty (reg new r) → Free r l × Empty (reg cur r)
unfolding apply
left_empty [] p old cur new e r h = let s : cur ≡ new = cc in (tt, subst (λ (b : Bank). Empty (reg b r)) (sym s) h)
left_empty (put t ∷ l) p old cur new e r h =
    let ih = left_empty l p old (set cur t (pos p)) new e r h in
    let s = set_empty cur t r (pos p) (λ x. x) ih.1 in
    ((s.0, ih.0), s.1)
left_empty (move t f ∷ l) p old cur new e r h = go (reg old f) (left_empty l p old (set cur t (reg old f)) new) e refl
  where
    go : (v : ℤ) → (apply l p old (set cur t (reg old f)) ≡ ok new → (r : ℕ) → Empty (reg new r) → Free r l × Empty (reg (set cur t (reg old f)) r))
        → moved v (apply l p old (set cur t (reg old f))) ≡ ok new → reg old f ≡ v → ((t ≡ r → ⊥) × Free r l) × Empty (reg cur r)
    go (pos n) ih e' k =
        let i = ih e' r h in
        let s = set_empty cur t r (reg old f) (λ x. subst Empty k x) i.1 in
        ((s.0, i.0), s.1)
    go (negsuc n) ih e' k = absurd (ok_stuck (sym e'))

stuck_reads : (l : List Cmd) (p : ℕ) (old cur : Bank) → apply l p old cur ≡ stuck → (r : ℕ) × Reads r l × Empty (reg old r)
unfolding apply
stuck_reads [] p old cur e = absurd (ok_stuck e)
stuck_reads (put t ∷ l) p old cur e = stuck_reads l p old (set cur t (pos p)) e
stuck_reads (move t f ∷ l) p old cur e = go (reg old f) (stuck_reads l p old (set cur t (reg old f))) e refl
  where
    go : (v : ℤ) → (apply l p old (set cur t (reg old f)) ≡ stuck → (r : ℕ) × Reads r l × Empty (reg old r))
        → moved v (apply l p old (set cur t (reg old f))) ≡ stuck → reg old f ≡ v → (r : ℕ) × ((f ≡ r) ⊎ Reads r l) × Empty (reg old r)
    go (pos n) ih e' k = let i = ih e' in (i.0, inr i.1, i.2)
    go (negsuc n) ih e' k = (f, inl refl, subst Empty (sym k) tt)

free_keeps : (l : List Cmd) (p : ℕ) (old cur new : Bank) → apply l p old cur ≡ ok new → (r : ℕ) → Free r l → Empty (reg cur r) → Empty (reg new r)
unfolding apply
free_keeps [] p old cur new e r f h = let s : cur ≡ new = cc in subst (λ (b : Bank). Empty (reg b r)) s h
free_keeps (put t ∷ l) p old cur new e r f h = free_keeps l p old (set cur t (pos p)) new e r f.1 (set_keeps cur t r (pos p) f.0 h)
free_keeps (move t g ∷ l) p old cur new e r f h = go (reg old g) (free_keeps l p old (set cur t (reg old g)) new) e
  where
    go : (v : ℤ) → (apply l p old (set cur t (reg old g)) ≡ ok new → (r : ℕ) → Free r l → Empty (reg (set cur t (reg old g)) r) → Empty (reg new r))
        → moved v (apply l p old (set cur t (reg old g))) ≡ ok new → Empty (reg new r)
    go (pos n) ih e' = ih e' r f.1 (set_keeps cur t r (reg old g) f.0 h)
    go (negsuc n) ih e' = absurd (ok_stuck (sym e'))

moved_stuck : (v : ℤ) → moved v stuck ≡ stuck
moved_stuck (pos n) = refl
moved_stuck (negsuc n) = refl

empty_moved : (v : ℤ) (o : Out) → Empty v → moved v o ≡ stuck
empty_moved (pos n) o e = absurd e
empty_moved (negsuc n) o e = refl

reads_stuck : (l : List Cmd) (p : ℕ) (old cur : Bank) (r : ℕ) → Reads r l → Empty (reg old r) → apply l p old cur ≡ stuck
unfolding apply
reads_stuck [] p old cur r d h = absurd d
reads_stuck (put t ∷ l) p old cur r d h = reads_stuck l p old (set cur t (pos p)) r d h
reads_stuck (move t f ∷ l) p old cur r (inl e) h = empty_moved (reg old f) _ (subst (λ (x : ℕ). Empty (reg old x)) (sym e) h)
reads_stuck (move t f ∷ l) p old cur r (inr d) h =
    ap (moved (reg old f)) (reads_stuck l p old (set cur t (reg old f)) r d h) ∙ moved_stuck (reg old f)

-- ---- the bank at the start

fresh : (n r : ℕ) → Empty (reg (replicate n (negsuc 0)) r) → r < n
fresh zero r e = absurd e
fresh (suc n) zero e = omega arith
fresh (suc n) (suc r) e = let i = fresh n r e in omega arith

fresh_in : (n r : ℕ) → r < n → Empty (reg (replicate n (negsuc 0)) r)
fresh_in zero r l = absurd (omega arith)
fresh_in (suc n) zero l = tt
fresh_in (suc n) (suc r) l = fresh_in n r (omega arith)

-- ---- no way, no stuck line

module _
    (t : Table) (M : ℕ → ℕ → Type 0)
    (first : (r : ℕ) → r < 64 → Free r t.start → M 0 r)
    (closed : (q b r : ℕ) → b < 256 → M q r → Free r (row_in t q b).cmds → M (row_in t q b).next r)
    (quiet_start : (r : ℕ) → Reads r t.start → ⊥)
    (quiet_row : (q b r : ℕ) → b < 256 → M q r → Reads r (row_in t q b).cmds → ⊥)
    (quiet_end : (q r : ℕ) → M q r → In r (sit t q).fields → (r ≡ 255 → ⊥) → ⊥) where
  abbrev Good : State → Type 0
  Good (at q bank) = (r : ℕ) → Empty (reg bank r) → M q r
  Good lost = ⊥

  good_begun : Good (begun t)
  unfolding begun
  good_begun = go _ refl
    where
      go : (o : Out) → apply t.start 0 empties empties ≡ o → Good (arrive 0 o)
      go (ok bank) e = λ r h.
          let l = left_empty t.start 0 _ _ bank e r h in
          first r (fresh 64 r l.1) l.0
      go stuck e = let s = stuck_reads t.start 0 _ _ e in quiet_start s.0 s.1

  good_step : (s : State) (p b : ℕ) → b < 256 → Good s → Good (step t s p b)
  unfolding step
  good_step lost p b l g = g
  good_step (at q bank) p b l g = go _ refl
    where
      go : (o : Out) → apply (row_in t q b).cmds p bank bank ≡ o → Good (arrive (row_in t q b).next o)
      go (ok new) e = λ r h.
          let k = left_empty (row_in t q b).cmds p bank bank new e r h in
          closed q b r l (g r k.1) k.0
      go stuck e =
          let s = stuck_reads (row_in t q b).cmds p bank bank e in
          quiet_row q b s.0 l (g s.0 s.2) s.1

  good_run : (w : List ℕ) (s : State) (p : ℕ) → Bytes w → Good s → Good (run t s p w)
  unfolding run
  good_run [] s p a g = g
  good_run (b ∷ w) s p a g = good_run w (step t s (suc p) b) (suc p) a.1 (good_step s (suc p) b a.0 g)

  good_ends : (s : State) → Good s → (s ≡ lost) ⊎ EndRead t s → ⊥
  unfolding EndRead
  good_ends lost g x = g
  good_ends (at q bank) g (inl e) = at_lost e
  good_ends (at q bank) g (inr e) = quiet_end q e.0 (g e.0 e.1.1.1) e.1.0 e.1.1.0

  pub never_stuck : EmptyRead t → ⊥
  never_stuck e = good_ends _ (good_run e.0 (begun t) 0 e.1.0.0 good_begun) e.1.1

-- ---- a way, and a read at its end, and a line that gets stuck

pub data Route (t : Table) (r : ℕ) : ℕ → ℕ → Type 0 where
  here : (k : ℕ) → r < 64 → Free r t.start → Route t r k 0
  go : (k q b : ℕ) → b < 256 → Route t r k q → Free r (row_in t q b).cmds → Route t r (suc k) (row_in t q b).next

module _ (t : Table) where
  run_more : (w : List ℕ) (s : State) (p b : ℕ) → run t s p (w ++ (b ∷ [])) ≡ step t (run t s p w) (suc (p + length w)) b
  unfolding run
  run_more [] s p b = ap (λ (n : ℕ). step t s (suc n) b) (omega arith)
  run_more (c ∷ w) s p b =
      run_more w (step t s (suc p) c) (suc p) b
      ∙ ap (λ (n : ℕ). step t (run t (step t s (suc p) c) (suc p) w) (suc n) b) (omega arith)

  -- what a line does towards a situation: stuck, or there with r empty
  abbrev Came : ℕ → ℕ → State → Type 0
  Came r q s = (s ≡ lost) ⊎ ((bank : Bank) × (s ≡ at q bank) × Empty (reg bank r))

  abbrev CameBy : ℕ → ℕ → ℕ → Type 0
  CameBy r k q = (w : List ℕ) × (length w ≤ k) × Bytes w × Came r q (run t (begun t) 0 w)

  came_begun : (r : ℕ) → r < 64 → Free r t.start → Came r 0 (begun t)
  unfolding begun
  came_begun r l f = go' _ refl
    where
      go' : (o : Out) → apply t.start 0 empties empties ≡ o → Came r 0 (arrive 0 o)
      go' (ok bank) e = inr (bank, refl, free_keeps t.start 0 _ _ bank e r f (fresh_in 64 r l))
      go' stuck e = inl refl

  came_step : (r q p b : ℕ) (bank : Bank) → Empty (reg bank r) → Free r (row_in t q b).cmds → Came r (row_in t q b).next (step t (at q bank) p b)
  unfolding step
  came_step r q p b bank h f = go' _ refl
    where
      go' : (o : Out) → apply (row_in t q b).cmds p bank bank ≡ o → Came r (row_in t q b).next (arrive (row_in t q b).next o)
      go' (ok new) e = inr (new, refl, free_keeps (row_in t q b).cmds p bank bank new e r f h)
      go' stuck e = inl refl

  one_more : (w : List ℕ) (b k : ℕ) → length w ≤ k → length (w ++ (b ∷ [])) ≤ suc k
  one_more w b k l = omega (arith, length-append w (b ∷ []))

  longer : (r k q b : ℕ) → b < 256 → Free r (row_in t q b).cmds → (w : List ℕ) → length w ≤ k → Bytes w → Came r q (run t (begun t) 0 w)
      → CameBy r (suc k) (row_in t q b).next
  longer r k q b l f w n a (inl e) = (w, omega arith, a, inl e)
  longer r k q b l f w n a (inr c) = (
    w ++ (b ∷ []),
    one_more w b k n,
    bytes_more w b a l,
    subst (Came r (row_in t q b).next) (sym (run_more w (begun t) 0 b ∙ ap (λ (s : State). step t s (suc (0 + length w)) b) c.1))
        (came_step r q (suc (0 + length w)) b c.0 c.2 f),
  )

  reach : {r k q : ℕ} → Route t r k q → CameBy r k q
  unfolding run
  reach {r} (here k l f) = ([], omega arith, tt, came_begun r l f)
  reach {r} (go k q b l way f) = let i = reach way in longer r k q b l f i.0 i.1 i.2 i.3

  -- at the end an answer reads it
  pub found_end : (r k q : ℕ) → Route t r k q → In r (sit t q).fields → (r ≡ 255 → ⊥) → k ≤ line_max → EmptyRead t
  unfolding EndRead
  found_end r k q way m d l = let i = reach way in ended i.0 i.1 i.2 i.3
    where
      ended : (w : List ℕ) → length w ≤ k → Bytes w → Came r q (run t (begun t) 0 w) → EmptyRead t
      ended w n a (inl e) = (w, ((a, omega arith), inl e))
      ended w n a (inr c) = (w, ((a, omega arith), inr (end_read c.0 c.1 c.2)))
        where
          end_read : (bank : Bank) → run t (begun t) 0 w ≡ at q bank → Empty (reg bank r) → EndRead t (run t (begun t) 0 w)
          end_read bank e h = subst (EndRead t) (sym e) (r, (m, (d, h)))

  -- a MOVE reads it
  pub found_row : (r k q b : ℕ) → Route t r k q → b < 256 → Reads r (row_in t q b).cmds → k < line_max → EmptyRead t
  unfolding step
  found_row r k q b way l d k< = let i = reach way in read i.0 i.1 i.2 i.3
    where
      read : (w : List ℕ) → length w ≤ k → Bytes w → Came r q (run t (begun t) 0 w) → EmptyRead t
      read w n a (inl e) = (w, ((a, omega arith), inl e))
      read w n a (inr c) = (
        w ++ (b ∷ []),
        (
          (bytes_more w b a l, omega (arith, one_more w b k n)),
          inl (run_more w (begun t) 0 b ∙ ap (λ (s : State). step t s (suc (0 + length w)) b) c.1
              ∙ ap (arrive (row_in t q b).next) (reads_stuck (row_in t q b).cmds (suc (0 + length w)) c.0 c.0 r d c.2)),
        ),
      )
