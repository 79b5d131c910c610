-- The situations of a net that fits: each is that of some input, a byte leads from one to another, and the first is that of the empty input.
-- And a net fits exactly if it is legal and neither of document 01's two refusals holds. Assumes nothing.
use mathlib.Core.Path.{◌≡◌, refl, sym, ap, ◌∙◌, subst}
use mathlib.Core.Logic.{◌⊎◌, inl, inr, ◌↔◌}
use mathlib.Core.List.{List, [], ◌∷◌, ◌++◌, append-nil, Memᴰ}
use Prim.Native.Nat.{ℕ, ◌≤◌, ◌<◌}
use native.Mathlib.Omega.{arith}
use lib.ListN.{length, get_or, length-append}
use Rattle.net.specs.Rec.{Net}
use Rattle.net.specs.File.{Legal}
use Rattle.paths.specs.Registers.{situation, next}
use Rattle.paths.specs.Equal.{same_situation}
use Rattle.paths.specs.Numbering.{numbered}
use Rattle.paths.specs.Limits.{bytes, all, first, Closes, OverRegisters, OverSituations}
use Rattle.ground.proofs.Members.{Prefix, ≼_trans, ≼_length, mem_get_or, get_or_mem}
use Rattle.ground.specs.Lists.{Bytes}
use Rattle.ground.proofs.Every.{bytes_more}
use Rattle.paths.proofs.Next.{situation_next}
use Rattle.paths.proofs.Exploring.{numbered_≼, numbered_of}
use Rattle.paths.proofs.Builder.{situation_test, found_first, found_all}
use Rattle.paths.proofs.Limits.{bytes_below, numbered_zero, first_97, closed_every, one_of_three}
use Rattle.build.specs.Card.{State, states, need, most}
use Rattle.built.specs.Fits.{Fits}
use Rattle.built.proofs.Spans.{span_bytes, input_of, of_input}

-- ---- the states are document 01's numbered situations

states_all : (A : Net) → states A ≡ all A 96
unfolding states
states_all A = ap (λ B. numbered same_situation B (situation A) 96) (span_bytes 0 256)

-- each is that of some input
pub state_of : (A : Net) (s : State) → Memᴰ s (states A) → (w : List ℕ) × Bytes w × (situation A w ≡ s)
state_of A s m =
    let r = numbered_of same_situation situation_test (bytes 0 256) (next A) (situation A) (situation_next A) 96 (rw (states_all A) at m) in
    (r.0, of_input r.0 (λ b k. bytes_below 0 256 (r.1 b k)), r.2)

-- the first is that of the empty input
pub first_state : (A : Net) → (0 < length (states A)) × (get_or (states A) 0 [] ≡ situation A [])
first_state A = let r = first_97 A (numbered_zero A) (omega arith) in rw (states_all A) r

-- a byte leads from one to another
pub next_state : {tags : ℕ} {A : Net} → Fits tags A → {s : State} {b : ℕ} → Memᴰ s (states A) → b < 256 → Memᴰ (next A b s) (states A)
next_state {A = A} fits {s} {b} m h =
    let r = state_of A s m in
    subst (λ v. Memᴰ v (states A)) (situation_next A r.0 b ∙ ap (next A b) r.2) (fits.complete (r.0 ++ (b ∷ [])) (bytes_more r.0 b r.1 h))

-- ---- registers: the most that any needs

pub most_bound : (s : State) {l : List State} → Memᴰ s l → need s ≤ most l
most_bound s (Memᴰ.head {x = t} {xs = l} e) = let q = ap need e in omega arith
most_bound s (Memᴰ.tail {x = t} {xs = l} m) = let q = most_bound s m in omega arith

pub most_least : (n : ℕ) (l : List State) → ((s : State) → Memᴰ s l → need s ≤ n) → most l ≤ n
most_least n [] h = omega arith
most_least n (s ∷ l) h =
    let a = h s (Memᴰ.head refl) in
    let b = most_least n l (λ t m. h t (Memᴰ.tail m)) in
    omega arith

-- ---- THE LIMITS

both_ways : {S : Type 0} {l k : List S} → Prefix l k → Prefix k l → l ≡ k
both_ways {S} {l} {k} a b = by a.more a.whole
  where
    by : (m : List S) → l ++ m ≡ k → l ≡ k
    by [] e = sym (append-nil l) ∙ e
    by (x ∷ m) e = absurd (omega (arith, ap length e, length-append l (x ∷ m), ≼_length b))

module _ {A : Net} {n : ℕ} (c : Closes A n) where
  shut : length (first A n) ≤ n
  shut = omega (arith, c.whole)

  -- an exploration that closes has found the states, in order
  pub closes_states : states A ≡ first A n
  closes_states =
      states_all A
      ∙ both_ways (found_all A (bytes 0 256) n shut 96)
      (≼_trans (found_first A (bytes 0 256) n) (numbered_≼ same_situation situation_test (bytes 0 256) (next A) (situation A) (situation_next A) n 96 c.few))

  pub closes_fits : {tags : ℕ} → Legal tags A → Fits tags A
  closes_fits legal =
      record {
        legal = legal;
        few = rw closes_states (omega (arith, c.whole, c.few));
        slim = λ s m. let r = mem_get_or [] (rw closes_states at m) in omega (arith, ap need r.1.1, c.small r.0 (omega (arith, r.1.0, c.whole)));
        complete = λ w h. rw closes_states (closed_every A n shut w (input_of w h));
      }

-- legal, and neither REGISTERS nor SITUATIONS
pub fits_exactly : {tags : ℕ} {A : Net} → Fits tags A ↔ (Legal tags A × (¬ OverRegisters A) × (¬ OverSituations A))
fits_exactly {tags} {A} = (λ f. (f.legal, slim f, few f), λ h. by h.0 h.1 h.2 (one_of_three A))
  where
    slim : Fits tags A → ¬ OverRegisters A
    slim f o =
        let r = first_97 A o.reached o.early in
        let q = f.slim (get_or (all A 96) o.k []) (rw (states_all A) (get_or_mem (all A 96) o.k [] r.0)) in
        let z = o.needs in
        omega (arith, ap need r.1)

    few : Fits tags A → ¬ OverSituations A
    few f o = let q = f.few in omega (arith, (first_97 A o.reached (omega arith)).0, ap length (states_all A))

    by : Legal tags A → ¬ OverRegisters A → ¬ OverSituations A → ((n : ℕ) × Closes A n) ⊎ (OverRegisters A ⊎ (OverSituations A × (¬ OverRegisters A))) → Fits tags A
    by legal r s (inl c) = closes_fits c.1 legal
    by legal r s (inr (inl o)) = absurd (r o)
    by legal r s (inr (inr o)) = absurd (s o.0)
