-- What flows along a row, the sets of a command list, and the start set, bit by bit. Assumes nothing.
use Prim.Native.Nat.{ℕ, ◌-◌, ◌^◌, ◌<◌, max}
use native.Mathlib.Omega.{arith}
use native.Mathlib.Decide.{ℕ_discrete}
use mathlib.Core.Path.{◌≡◌, sym, ap, ◌∙◌, subst}
use mathlib.Core.Logic.{◌⊎◌, inl, inr}
use mathlib.Core.List.{List, [], ◌∷◌}
use lib.Dec.{lit<}
use lib.Bits.{bit_or, bit_xor, differ, or_lt, xor_lt}
use lib.Count.{ones}
use Rattle.card.specs.Table.{Cmd, move, put, Table}
use Rattle.loader.specs.Flow.{written, asked, Reads, flow, start_set}
use Rattle.ground.specs.Bits.{bit_of}
use Rattle.ground.proofs.Bits.{bit_two, or_bit, xor_bit}
use Rattle.ground.proofs.Masks.{zero_bit, not_both, bit_same, bit_other, ones_in, bit_in, or_none, or_split, or_one, or_left, or_right, or_grows}
use Rattle.loader.proofs.Stuck.{Free}

-- ---- along a row

pub flow_bit : (o x k r : ℕ) → bit_of (flow o x k) r ≡ max (bit_of o r) (differ (max (bit_of x r) (bit_of k r)) (bit_of k r))
unfolding flow
flow_bit o x k r =
    or_bit o (bit_xor (bit_or x k) k) r
    ∙ ap (max (bit_of o r)) (xor_bit (bit_or x k) k r ∙ ap (λ (y : ℕ). differ y (bit_of k r)) (or_bit x k r))

-- a bit that is there stays; one that flows is there; and there is no other
pub flow_keeps : (o x k r : ℕ) → bit_of o r ≡ 1 → bit_of (flow o x k) r ≡ 1
flow_keeps o x k r h = go (bit_two x r) (bit_two k r)
  where
    go : (bit_of x r ≡ 0) ⊎ (bit_of x r ≡ 1) → (bit_of k r ≡ 0) ⊎ (bit_of k r ≡ 1) → bit_of (flow o x k) r ≡ 1
    go (inl e) (inl f) = flow_bit o x k r ∙ simp (h, e, f)
    go (inl e) (inr f) = flow_bit o x k r ∙ simp (h, e, f)
    go (inr e) (inl f) = flow_bit o x k r ∙ simp (h, e, f)
    go (inr e) (inr f) = flow_bit o x k r ∙ simp (h, e, f)

pub flow_adds : (o x k r : ℕ) → bit_of x r ≡ 1 → bit_of k r ≡ 0 → bit_of (flow o x k) r ≡ 1
flow_adds o x k r e f = go (bit_two o r)
  where
    go : (bit_of o r ≡ 0) ⊎ (bit_of o r ≡ 1) → bit_of (flow o x k) r ≡ 1
    go (inl h) = flow_bit o x k r ∙ simp (h, e, f)
    go (inr h) = flow_bit o x k r ∙ simp (h, e, f)

pub flow_only : (o x k r : ℕ) → bit_of (flow o x k) r ≡ 1 → (bit_of o r ≡ 1) ⊎ ((bit_of x r ≡ 1) × (bit_of k r ≡ 0))
flow_only o x k r t = go (bit_two o r) (bit_two x r) (bit_two k r)
  where
    go : (bit_of o r ≡ 0) ⊎ (bit_of o r ≡ 1) → (bit_of x r ≡ 0) ⊎ (bit_of x r ≡ 1) → (bit_of k r ≡ 0) ⊎ (bit_of k r ≡ 1)
        → (bit_of o r ≡ 1) ⊎ ((bit_of x r ≡ 1) × (bit_of k r ≡ 0))
    go (inr h) e f = inl h
    go (inl h) (inr e) (inl f) = inr (e, f)
    go (inl h) (inr e) (inr f) = let z : ◌≡◌ {A = ℕ} 0 1 = sym (flow_bit o x k r ∙ simp (h, e, f)) ∙ t in absurd (omega arith)
    go (inl h) (inl e) (inl f) = let z : ◌≡◌ {A = ℕ} 0 1 = sym (flow_bit o x k r ∙ simp (h, e, f)) ∙ t in absurd (omega arith)
    go (inl h) (inl e) (inr f) = let z : ◌≡◌ {A = ℕ} 0 1 = sym (flow_bit o x k r ∙ simp (h, e, f)) ∙ t in absurd (omega arith)

pub flow_fits : (o x k : ℕ) → o < 2 ^ 64 → x < 2 ^ 64 → k < 2 ^ 64 → flow o x k < 2 ^ 64
unfolding flow
flow_fits o x k a b c = or_lt 64 _ _ a (xor_lt 64 _ _ (or_lt 64 _ _ b c) c)

pub flow_grows : (o x k : ℕ) → o < 2 ^ 64 → x < 2 ^ 64 → k < 2 ^ 64 → (flow o x k ≡ o → ⊥) → ones o < ones (flow o x k)
unfolding flow
flow_grows o x k a b c n = or_grows 64 o (bit_xor (bit_or x k) k) a (xor_lt 64 _ _ (or_lt 64 _ _ b c) c) n

-- ---- the targets of a list

one_target : (t k r : ℕ) (l : List Cmd) → Free r l × (bit_of (bit_or k (2 ^ t)) r ≡ 0) → ((t ≡ r → ⊥) × Free r l) × (bit_of k r ≡ 0)
one_target t k r l i =
    let o = or_split k (2 ^ t) r i.1 in
    (((λ d. not_both (2 ^ t) r o.1 (subst (λ (x : ℕ). bit_of (2 ^ t) x ≡ 1) d (bit_same t))), i.0), o.0)

pub free_written : (l : List Cmd) (k r : ℕ) → bit_of (written k l) r ≡ 0 → Free r l × (bit_of k r ≡ 0)
unfolding written
free_written [] k r e = (tt, e)
free_written (move t f ∷ l) k r e = one_target t k r l (free_written l (bit_or k (2 ^ t)) r e)
free_written (put t ∷ l) k r e = one_target t k r l (free_written l (bit_or k (2 ^ t)) r e)

pub written_free : (l : List Cmd) (k r : ℕ) → Free r l → bit_of k r ≡ 0 → bit_of (written k l) r ≡ 0
unfolding written
written_free [] k r f e = e
written_free (move t g ∷ l) k r f e = written_free l (bit_or k (2 ^ t)) r f.1 (or_none k (2 ^ t) r e (bit_other t r f.0))
written_free (put t ∷ l) k r f e = written_free l (bit_or k (2 ^ t)) r f.1 (or_none k (2 ^ t) r e (bit_other t r f.0))

-- ---- the sources of a list

pub asked_reads : (l : List Cmd) (k r : ℕ) → bit_of (asked k l) r ≡ 1 → (bit_of k r ≡ 1) ⊎ Reads r l
unfolding asked
asked_reads [] k r e = inl e
asked_reads (put t ∷ l) k r e = asked_reads l k r e
asked_reads (move t f ∷ l) k r e = one (asked_reads l (bit_or k (2 ^ f)) r e)
  where
    at_f : (bit_of k r ≡ 1) ⊎ (bit_of (2 ^ f) r ≡ 1) → Dec (f ≡ r) → (bit_of k r ≡ 1) ⊎ ((f ≡ r) ⊎ Reads r l)
    at_f (inl h) d = inl h
    at_f (inr h) (yes d) = inr (inl d)
    at_f (inr h) (no d) = absurd (not_both (2 ^ f) r (bit_other f r d) h)

    one : (bit_of (bit_or k (2 ^ f)) r ≡ 1) ⊎ Reads r l → (bit_of k r ≡ 1) ⊎ ((f ≡ r) ⊎ Reads r l)
    one (inl h) = at_f (or_one k (2 ^ f) r h) (ℕ_discrete f r)
    one (inr h) = inr (inr h)

pub asked_keeps : (l : List Cmd) (k r : ℕ) → bit_of k r ≡ 1 → bit_of (asked k l) r ≡ 1
unfolding asked
asked_keeps [] k r e = e
asked_keeps (put t ∷ l) k r e = asked_keeps l k r e
asked_keeps (move t f ∷ l) k r e = asked_keeps l (bit_or k (2 ^ f)) r (or_left k (2 ^ f) r e)

pub reads_asked : (l : List Cmd) (k r : ℕ) → Reads r l → bit_of (asked k l) r ≡ 1
unfolding asked
reads_asked [] k r d = absurd d
reads_asked (put t ∷ l) k r d = reads_asked l k r d
reads_asked (move t f ∷ l) k r (inl e) =
    asked_keeps l (bit_or k (2 ^ f)) r (or_right k (2 ^ f) r (subst (λ (x : ℕ). bit_of (2 ^ f) x ≡ 1) e (bit_same f)))
reads_asked (move t f ∷ l) k r (inr d) = reads_asked l (bit_or k (2 ^ f)) r d

-- ---- the start set

pub start_of : (T : Table) (r : ℕ) → bit_of (start_set T) r ≡ 1 → (r < 64) × Free r T.start
unfolding start_set
start_of T r e = one (flow_only 0 (2 ^ 64 - 1) (written 0 T.start) r e)
  where
    one : (bit_of 0 r ≡ 1) ⊎ ((bit_of (2 ^ 64 - 1) r ≡ 1) × (bit_of (written 0 T.start) r ≡ 0)) → (r < 64) × Free r T.start
    one (inl h) = absurd (not_both 0 r (zero_bit r) h)
    one (inr h) = (bit_in 64 (2 ^ 64 - 1) r (lit< tt) h.0, (free_written T.start 0 r h.1).0)

pub of_start : (T : Table) (r : ℕ) → r < 64 → Free r T.start → bit_of (start_set T) r ≡ 1
unfolding start_set
of_start T r l f = flow_adds 0 (2 ^ 64 - 1) (written 0 T.start) r (ones_in 64 r l) (written_free T.start 0 r f (zero_bit r))
