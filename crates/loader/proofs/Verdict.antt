-- The settled sets decide whether a line gets stuck. Assumes nothing.
use Prim.Native.Nat.{ℕ, suc, ◌<◌}
use native.Mathlib.Omega.{arith}
use mathlib.Core.Path.{◌≡◌, sym, subst}
use mathlib.Core.Bool.{Bool, true, false}
use mathlib.Core.Logic.{◌⊎◌, inl, inr}
use mathlib.Core.List.{List, [], ◌∷◌}
use lib.ListN.{length, get_or}
use Rattle.card.specs.Table.{Cmd, move, put, Row, Sit, Table, Sets, Formed}
use Rattle.card.specs.Run.{In, sit, no_sit, row_in}
use Rattle.loader.specs.Flow.{EmptyRead, Says, Reads, written, start_set, Way, Settled, Loud}
use Rattle.ground.specs.Bits.{bit_of}
use Rattle.ground.proofs.Masks.{zero_bit}
use Rattle.loader.specs.Flow as F
use Rattle.loader.proofs.Stuck.{Free, Route, here, go, never_stuck, found_end, found_row}
use Rattle.loader.proofs.Sets.{start_of, of_start, free_written, written_free}
use Rattle.loader.proofs.Shape.{not_in, sit_of, leads_in, next_in, row_byte, in_table}

-- SETs read nothing
sets_quiet : (l : List Cmd) → Sets l → (r : ℕ) → Reads r l → ⊥
sets_quiet [] s r d = d
sets_quiet (move t f ∷ l) s r d = s
sets_quiet (put t ∷ l) s r d = sets_quiet l s r d

module _ (T : Table) (formed : Formed T) where
  -- the byte of a row, and the situation that it stands in
  byte_of : (q : ℕ) (x : Row) → In x (sit T q).rows → (b : ℕ) × ((b < 256) × (row_in T q b ≡ x))
  byte_of q x i = by (sit_of T formed q)
    where
      by : (q < length T.sits) ⊎ (sit T q ≡ no_sit) → (b : ℕ) × ((b < 256) × (row_in T q b ≡ x))
      by (inl h) =
          let k = row_byte T.registers (length T.sits) 0 (sit T q).rows (in_table T formed q h).rows x i in
          (x.hi, (omega arith, k.2))
      by (inr e) = absurd (not_in (subst (λ (s : Sit). In x s.rows) e i))

  module _ (may : List ℕ) (set : Settled T may) where
    route : {r k q : ℕ} → Way T (start_set T) r k q → Route T r k q
    route {r} (F.here k h) = let s = start_of T r h in here k s.0 s.1
    route {r} (F.go k q x i way z) =
        let s = byte_of q x i in
        subst (λ (y : Row). Route T r (suc k) y.next) s.1.1
        (go k q s.0 s.1.0 (route way) (subst (λ (y : Row). Free r y.cmds) (sym s.1.1) (free_written x.cmds 0 r z).0))

    -- where a set holds a register that its situation reads, a line of at most 6145 bytes gets stuck
    pub loud : Loud T may → EmptyRead T
    loud (F.row q r x i m d) =
        let s = byte_of q x i in
        found_row T r 6144 q s.0 (route (set.grounded q r m)) s.1.0 (subst (λ (y : Row). Reads r y.cmds) (sym s.1.1) d) (omega arith)
    loud (F.end q r i d m) = found_end T r 6144 q (route (set.grounded q r m)) i d (omega arith)

    M : ℕ → ℕ → Type 0
    M q r = (q < length T.sits) × (bit_of (get_or may q 0) r ≡ 1)

    M-first : (r : ℕ) → r < 64 → Free r T.start → M 0 r
    unfolding M
    M-first r l f = (formed.some, set.first r (of_start T r l f))

    M-closed : (q b r : ℕ) → b < 256 → M q r → Free r (row_in T q b).cmds → M (row_in T q b).next r
    unfolding M
    M-closed q b r l m f =
        let i = leads_in T formed q b m.0 l in
        (next_in T formed q (row_in T q b) m.0 i, set.closed q (row_in T q b) i r m.1 (written_free (row_in T q b).cmds 0 r f (zero_bit r)))

    -- and where none does, no line gets stuck
    pub quiet : (Loud T may → ⊥) → EmptyRead T → ⊥
    unfolding M
    quiet none =
        never_stuck T M M-first M-closed (sets_quiet T.start formed.sets)
        (λ q b r l m d. none (F.row q r (row_in T q b) (leads_in T formed q b m.0 l) m.1 d))
        (λ q r m i d. none (F.end q r i d m.1))

    pub verdict : (b : Bool) → Says (Loud T may) b → Says (EmptyRead T) b
    verdict true l = loud l
    verdict false n = quiet n
