-- A run of the builder's table goes through the net's situations, and its bank holds the places of their registers: it is never lost.
-- Assumes nothing.
use mathlib.Core.Path.{◌≡◌, refl, sym, ap, ap₂, ◌∙◌, subst}
use mathlib.Core.Bool.{Bool, true, false, cond}
use mathlib.Core.List.Memᴰ
use mathlib.Core.List.{List, [], ◌∷◌, map, Memᴰ}
use mathlib.Core.Option.{none, some}
use Prim.Native.Nat.{ℕ, zero, suc, ◌+◌, ◌≤◌, ◌<◌}
use native.Mathlib.Omega.{arith}
use native.Mathlib.Decide.{dec_le}
use lib.IntN.{pos}
use lib.ListN.{length, get_or, set, replicate, length-replicate, get_or-replicate}
use borrow.Author.Tests.{lt-ltb, le-ltb, eq-eqb, ne_eqb}
use Rattle.ground.proofs.Lists.{get_or_map}
use Rattle.net.specs.Rec.{Net, rec}
use Rattle.paths.specs.Ways.{Turn, first, second, mark, turn}
use Rattle.paths.specs.Search.{Thread}
use Rattle.paths.specs.Situation.{close}
use Rattle.paths.specs.Registers.{Tags, no_tags, tagged, stands, standing, begin, after, Key, held_by, registers, rename, renamed, number, situation, next, origins, fetch, State as Going, feed, run as goes, ready}
use Rattle.paths.specs.Equal.{same_situation}
use Rattle.ground.proofs.Members.{get_or_mem}
use Rattle.ground.specs.Lists.{Bytes}
use Rattle.paths.proofs.Same.{lifts, lifts_close}
use Rattle.paths.proofs.Numbers.{hat, held_renamed, registers_held}
use Rattle.paths.proofs.Next.{as_many_registers}
use Rattle.paths.proofs.Builder.{situation_test}
use Rattle.paths.proofs.Run.{run_situation}
use Rattle.card.specs.Run.{Bank, absent, empties, reg, apply, no_sit, row_for, sit, row_in, State as Stand, at, arrive, step, run, begun, over}
use Rattle.explore.specs.Lists.{position}
use Rattle.build.specs.Card.{State, states, need, commands, byte_row, sit_of, card_of, table_of}
use Rattle.built.specs.Fits.{Fits}
use Rattle.built.proofs.Spans.{replicate_in, position_at, position_zero}
use Rattle.built.proofs.States.{first_state, next_state}
use Rattle.built.proofs.Commands.{origins_bound, origins_many, fetched, Applied, applies, start_commands}
use Rattle.built.proofs.Rows.{Same, row_of}
use Rattle.built.proofs.Ends.{state_sound}

-- the table stands in the situation that the net's run is in, and each register of that holds its place
pub record Follows (A : Net) (s : Going) (x : Stand) : Type 0 where
  pub bank : Bank
  pub stands : x ≡ at (position same_situation s.sit (states A)) bank
  pub size : length bank ≡ 64
  pub holds : (i : ℕ) → i < need s.sit → reg bank i ≡ pos (get_or s.bank i 0)

-- ---- the situation of a number

pub sit_at : (tags : ℕ) (A : Net) (s : State) → Memᴰ s (states A) → sit (table_of tags A) (position same_situation s (states A)) ≡ sit_of A (states A) s
unfolding table_of card_of
sit_at tags A s m =
    let p = position_at same_situation situation_test [] s m in
    get_or_map (sit_of A (states A)) (states A) (position same_situation s (states A)) [] no_sit p.0 ∙ ap (sit_of A (states A)) p.1

row_by : (A : Net) (S : List State) (s : State) (b : ℕ) → b < 256 → Same (row_for (sit_of A S s).rows b) (byte_row A S s b)
unfolding sit_of
row_by A S s b h = row_of (byte_row A S s) (λ b. refl) (λ b. refl) b h

-- the row of a byte has the next situation and the commands of that byte
pub row_at : (tags : ℕ) (A : Net) (s : State) → Memᴰ s (states A) → (b : ℕ) → b < 256
    → Same (row_in (table_of tags A) (position same_situation s (states A)) b) (byte_row A (states A) s b)
row_at tags A s m b h =
    subst (λ v. Same (row_for v.rows b) (byte_row A (states A) s b)) (sym (sit_at tags A s m)) (row_by A (states A) s b h)

-- ---- a byte

-- what a command list leaves is what the net's run fetches
fetched_place : (count p : ℕ) (bank : Bank) (old : List ℕ) → ((i : ℕ) → i < count → reg bank i ≡ pos (get_or old i 0)) → (o : ℕ) → o ≤ count → fetched count p bank o ≡ pos (fetch p count old o)
fetched_place count p bank old h o l = by (dec_le count o)
  where
    by : Dec (count ≤ o) → fetched count p bank o ≡ pos (fetch p count old o)
    by (yes g) =
        ap (λ c. cond c (pos p) (reg bank o)) (eq-eqb o count (omega arith))
        ∙ ap (λ c. pos (cond c (get_or old o 0) p)) (sym (le-ltb o count g))
    by (no g) =
        ap (λ c. cond c (pos p) (reg bank o)) (ne_eqb o count (omega arith))
        ∙ h o (omega arith)
        ∙ ap (λ c. pos (cond c (get_or old o 0) p)) (sym (lt-ltb o count (omega arith)))

module _ {tags : ℕ} {A : Net} (fits : Fits tags A) where
  byte_follows : (p b : ℕ) (s : Going) (x : Stand) → Memᴰ s.sit (states A) → b < 256 → Follows A s x → Follows A (feed A (suc p) b s) (step (table_of tags A) x (suc p) b)
  unfolding step feed
  byte_follows p b s x m h f =
      record {
        bank = r.bank;
        stands = ap (λ v. step (table_of tags A) v (suc p) b) f.stands ∙ ap₂ (λ v u. arrive v (apply u (suc p) f.bank f.bank)) row.leads row.does ∙ ap (arrive q') r.done;
        size = r.size ∙ f.size;
        holds = holds;
      }
    where
      row : Same (row_in (table_of tags A) (position same_situation s.sit (states A)) b) (byte_row A (states A) s.sit b)
      row = row_at tags A s.sit m b h

      q' : ℕ
      q' = position same_situation (next A b s.sit) (states A)

      bound : (o : ℕ) → Memᴰ o (origins A b s.sit) → o ≤ need s.sit
      bound = origins_bound A b s.sit (state_sound A s.sit m)

      r : Applied (need s.sit) 0 (suc p) (origins A b s.sit) f.bank f.bank (apply (commands (need s.sit) 0 (origins A b s.sit)) (suc p) f.bank f.bank)
      r =
          let n = fits.slim (next A b s.sit) (next_state fits m h) in
          applies (need s.sit) 0 (suc p) (origins A b s.sit) f.bank f.bank (omega (arith, origins_many A b s.sit, f.size)) bound
          (λ i l. (get_or s.bank i 0, f.holds i l)) (λ j _. refl)

      holds : (i : ℕ) → i < need (next A b s.sit) → reg r.bank i ≡ pos (get_or (map (fetch (suc p) (need s.sit) s.bank) (origins A b s.sit)) i 0)
      holds i l =
          let k : i < length (origins A b s.sit) = omega (arith, origins_many A b s.sit) in
          let z : i ≡ 0 + i = omega arith in
          ap (reg r.bank) z
          ∙ r.above i k
          ∙ fetched_place (need s.sit) (suc p) f.bank s.bank f.holds (get_or (origins A b s.sit) i 0) (bound (get_or (origins A b s.sit) i 0) (get_or_mem (origins A b s.sit) i 0 k))
          ∙ ap pos (sym (get_or_map (fetch (suc p) (need s.sit) s.bank) (origins A b s.sit) i 0 0 k))

  -- ---- a line

  bytes_follow : (w : List ℕ) (p : ℕ) (s : Going) (x : Stand) → Memᴰ s.sit (states A) → Bytes w → Follows A s x → Follows A (goes A p s w) (run (table_of tags A) x p w)
  unfolding goes run feed
  bytes_follow [] p s x m h f = f
  bytes_follow (b ∷ w) p s x m h f =
      bytes_follow w (suc p) (feed A (suc p) b s) (step (table_of tags A) x (suc p) b) (next_state fits m h.0) h.1 (byte_follows p b s x m h.0 f)

-- ---- the start: every place is 0, so that putting 0 for each changes nothing

abbrev zeros : ℕ → ℕ → ℕ
zeros t p = 0

set_zero : (t : ℕ) (τ : Tags) (u : ℕ) → set (renamed zeros t τ) u (some 0) ≡ renamed zeros t (set τ u (some 0))
set_zero t [] u = refl
set_zero t (none ∷ τ) zero = refl
set_zero t (some p ∷ τ) zero = refl
set_zero t (none ∷ τ) (suc u) = ap (λ r. none ∷ r) (set_zero (suc t) τ u)
set_zero t (some p ∷ τ) (suc u) = ap (λ r. some 0 ∷ r) (set_zero (suc t) τ u)

turn_zero : (u : Turn) (τ : Tags) → tagged 0 (turn u) (renamed zeros 0 τ) ≡ renamed zeros 0 (tagged 0 (turn u) τ)
turn_zero first τ = refl
turn_zero second τ = refl
turn_zero (mark t) τ = set_zero 0 τ t

standing_zero : (A : Net) (l : List (Thread Tags)) → standing A (lifts (renamed zeros 0) l) ≡ rename zeros (standing A l)
standing_zero A [] = refl
standing_zero A (s ∷ l) = rw (standing_zero A l) (by (stands (rec A s.on)))
  where
    s' : Thread Tags
    s' = record { on = s.on; had = renamed zeros 0 s.had }

    by : (c : Bool) → cond c (s' ∷ rename zeros (standing A l)) (rename zeros (standing A l)) ≡ rename zeros (cond c (s ∷ standing A l) (standing A l))
    by true = refl
    by false = refl

begin_zero : (A : Net) → begin A ≡ rename zeros (begin A)
unfolding begin
begin_zero A =
    ap (standing A) (lifts_close (renamed zeros 0) (tagged 0) (tagged 0) A turn_zero (record { on = 0; had = no_tags } ∷ []))
    ∙ standing_zero A (close (tagged 0) A (record { on = 0; had = no_tags } ∷ []))

at_zero : (A : Net) (k : Key) → Memᴰ k (registers (begin A)) → k.1 ≡ 0
at_zero A k m =
    let c = Memᴰ.of_map (hat zeros) (held_by (begin A)) (rw (held_renamed zeros (begin A)) at (subst (λ l. Memᴰ k (held_by l)) (begin_zero A) (registers_held (begin A) m))) in
    sym (ap (λ v. v.1) c.2)

first_situation : (A : Net) → situation A [] ≡ number (begin A)
unfolding situation after
first_situation A = refl

module _ {tags : ℕ} {A : Net} (fits : Fits tags A) where
  start_follows : Follows A (ready A) (begun (table_of tags A))
  unfolding ready begun table_of card_of
  start_follows =
      record {
        bank = r.bank;
        stands = ap (arrive 0) (ap (λ l. apply l 0 empties empties) (start_commands 0 n) ∙ r.done) ∙ ap (λ q. at q r.bank) (sym zeroth);
        size = r.size ∙ length-replicate 64 absent;
        holds = holds;
      }
    where
      n : ℕ
      n = need (situation A [])

      r : Applied 0 0 0 (replicate n 0) empties empties (apply (commands 0 0 (replicate n 0)) 0 empties empties)
      r =
          let l = length-replicate {A = ℕ} n 0 in
          let k = length-replicate 64 absent in
          let m = fits.slim (situation A []) (fits.complete [] tt) in
          applies 0 0 0 (replicate n 0) empties empties (omega arith) (λ o i. omega (arith, replicate_in n i)) (λ i h. absurd (omega arith)) (λ j _. refl)

      zeroth : position same_situation (number (begin A)) (states A) ≡ 0
      zeroth = let z = first_state A in position_zero same_situation situation_test [] (number (begin A)) (states A) z.0 (z.1 ∙ first_situation A)

      holds : (i : ℕ) → i < need (number (begin A)) → reg r.bank i ≡ pos (get_or (map (λ k. k.1) (registers (begin A))) i 0)
      holds i h =
          let e = ap need (first_situation A) in
          let a = as_many_registers (begin A) in
          let k : i < length (registers (begin A)) = omega arith in
          let l = length-replicate {A = ℕ} n 0 in
          let z : i ≡ 0 + i = omega arith in
          ap (reg r.bank) z
          ∙ r.above i (omega arith)
          ∙ ap (fetched 0 0 empties) (get_or-replicate {A = ℕ} n i 0 0 (omega arith))
          ∙ ap pos (sym (get_or_map (λ k. k.1) (registers (begin A)) i (0, 0) 0 k ∙ at_zero A (get_or (registers (begin A)) i (0, 0)) (get_or_mem (registers (begin A)) i (0, 0) k)))

  -- THE RUN: over any line of bytes it goes with the net's run
  pub table_follows : (w : List ℕ) → Bytes w → Follows A (goes A 0 (ready A) w) (over (table_of tags A) w)
  unfolding ready
  table_follows w h = bytes_follow fits w 0 (ready A) (begun (table_of tags A)) (subst (λ s. Memᴰ s (states A)) (first_situation A) (fits.complete [] tt)) h start_follows

  -- so it ends in the situation of the line, with the place of each of its registers
  pub table_runs : (w : List ℕ) → Bytes w
      → (bank : Bank) × (over (table_of tags A) w ≡ at (position same_situation (situation A w) (states A)) bank)
      × ((i : ℕ) → i < need (situation A w) → reg bank i ≡ pos (get_or (goes A 0 (ready A) w).bank i 0))
  table_runs w h =
      let f = table_follows w h in
      let e = run_situation A w in
      (f.bank, f.stands ∙ ap (λ s. at (position same_situation s (states A)) f.bank) e, λ i l. f.holds i (omega (arith, ap need e)))
