-- The exploration over the work memory. Assumes nothing.
use mathlib.Core.Path.{◌≡◌, refl, sym, ap, ◌∙◌, subst}
use mathlib.Core.Logic.{◌⊎◌, inl, inr}
use mathlib.Core.Bool.{Bool, true, false}
use mathlib.Core.List.{List, [], ◌∷◌, ◌++◌, map, foldl, append-nil}
use Prim.Native.Nat.{ℕ, zero, suc, ◌+◌, ◌*◌, ◌≤◌, ◌<◌}
use native.Mathlib.Omega.{arith}
use native.Mathlib.Numerals.{add-one}
use lib.Dec.{eqb}
use lib.ListN.{length, get_or, take, length-append}
use lib.Seq.{ext_get_or, drop-cons}
use borrow.Author.Tests.{eqb-true, eqb-false}
use Rattle.std.specs.Prelude.{Option, Some, None, is_some, ok_or, Ok, Err}
use Rattle.std.proofs.lemmas.Bool.{true≢false}
use Rattle.ground.proofs.Lists.{map_append}
use Rattle.net.specs.Rec.{Net}
use Rattle.paths.specs.Search.{choose}
use Rattle.ground.specs.Lists.{each}
use Rattle.paths.specs.Registers.{registers, next, situation}
use Rattle.paths.specs.Equal.{same_situation}
use Rattle.paths.specs.Numbering.{among, put, once, nexts, explored}
use Rattle.paths.proofs.Member.{Bool-cases}
use Rattle.explore.specs.States.{Below}
use Rattle.explore.specs.Keys.{Is, Stepped, Begun}
use Rattle.explore.specs.Slots.{threads_at, slot, slots, Stored, Loaded, Fit, Placed}
use Rattle.paths.specs.Limits.{bytes}
use Rattle.paths.specs.Limits.{Sit, first, here, partly, at_byte}
use Rattle.answers.specs.declared.Refusal.{Refusal}
use Rattle.answers.specs.declared.Refusal.TheVariants.{Registers, Situations}
use Rattle.explore.specs.Explore.{Holds, Kept, Refused, Tries, Expands, Explores}
use Rattle.explore.proofs.Memory.{threads_at_same, slot_moved}

put_new : (found : List Sit) (s : Sit) → among same_situation s found ≡ false → put same_situation found s ≡ found ++ (s ∷ [])
put_new found s e = rw e

slots_snoc : (w : List ℕ) (n : ℕ) → slots w 0 (n + 1) ≡ slots w 0 n ++ (slot w n ∷ [])
unfolding slots
slots_snoc w n = ap (slots w 0) (add-one n) ∙ by 0 n ∙ (let z : 0 + n ≡ n = omega arith in ap (λ v. slots w 0 n ++ (slot w v ∷ [])) z)
  where
    by : (j n : ℕ) → slots w j (suc n) ≡ slots w j n ++ (slot w (j + n) ∷ [])
    by j zero = let z : j ≡ j + 0 = omega arith in ap (λ v. slot w v ∷ []) z
    by j (suc n) = ap (λ v. slot w j ∷ v) (by (j + 1) n ∙ (let z : j + 1 + n ≡ j + suc n = omega arith in ap (λ v. slots w (j + 1) n ++ (slot w v ∷ [])) z))

pub slots_length : (w : List ℕ) (j n : ℕ) → length (slots w j n) ≡ n
unfolding slots
slots_length w j zero = refl
slots_length w j (suc n) = ap suc (slots_length w (j + 1) n)

pub slots_at : (w : List ℕ) (j n i : ℕ) (d : Sit) → i < n → get_or (slots w j n) i d ≡ slot w (j + i)
unfolding slots
slots_at w j zero i d b = absurd (omega arith)
slots_at w j (suc n) zero d b = let z : j ≡ j + 0 = omega arith in ap (slot w) z
slots_at w j (suc n) (suc i) d b = slots_at w (j + 1) n i d (omega arith) ∙ (let z : j + 1 + i ≡ j + suc i = omega arith in ap (slot w) z)

slots_same : (w w' : List ℕ) (n : ℕ) → ((j : ℕ) → j < n → slot w' j ≡ slot w j) → slots w' 0 n ≡ slots w 0 n
slots_same w w' n h =
    ext_get_or [] (slots w' 0 n) (slots w 0 n) (slots_length w' 0 n ∙ sym (slots_length w 0 n))
    (λ i b. let c : i < n = omega (arith, slots_length w' 0 n) in slots_at w' 0 n i [] c ∙ (let z : 0 + i ≡ i = omega arith in ap (slot w') z ∙ h i c ∙ ap (slot w) (sym z)) ∙ sym (slots_at w 0 n i [] c))

-- what a store leaves of the slots before it
module _ (w w' : List ℕ) (n : ℕ) (l : Sit) (c : ℕ) (s : Stored w w' n l c) (j : ℕ) (b : j < n) (few : get_or w (578 * j) 0 ≤ 64) where
  byte_same : (k : ℕ) → k < 578 * j + 578 → get_or w' k 0 ≡ get_or w k 0
  byte_same k d = s.else k (inl (omega arith))

  pub slot_same : slot w' j ≡ slot w j
  unfolding slot
  slot_same =
      ap (threads_at w' (578 * j + 2)) (byte_same (578 * j) (omega arith))
      ∙ threads_at_same w w' (578 * j + 2) (get_or w (578 * j) 0) (λ k u v. byte_same k (omega arith))

  pub holds_same : (N : ℕ) → Holds N w j → Holds N w' j
  holds_same N h =
      record {
        few = rw (byte_same (578 * j) (omega arith)) few;
        count = byte_same (578 * j + 1) (omega arith) ∙ h.count ∙ ap (λ v. length (registers v)) (sym slot_same);
        small = rw slot_same h.small;
        below = rw slot_same h.below;
      }

-- ---- the ways through `try_byte`

not_placed : (w : List ℕ) (count : ℕ) (l : Sit) (p : Option ℕ) → Placed w count l p → is_some p ≡ false → among same_situation l (slots w 0 count) ≡ false
not_placed w count l None h e = h
not_placed w count l (Some j) h e = absurd (true≢false e)

module _ (A : Net) (N : ℕ) (w : List ℕ) (count : ℕ) (l : Sit) (b : ℕ) (k : Kept N w count) (v r : List ℕ) where
  pub tried_over : (a : Option ℕ) → Stepped A N b l v r a → (e : Refusal) → Err e ≡ ok_or a Registers → Tries A N w w count l b (Err e)
  tried_over None step e q = subst (λ x. Tries A N w w count l b x) (sym q) (record { size = refl; what = record { most = omega (arith, slots_length w 0 count, k.most); needs = step.what } })
  tried_over (Some t) step e q = let z : ◌≡◌ {A = ℕ} 0 1 = cc in absurd (omega arith)

  module _ (a : Option ℕ) (step : Stepped A N b l v r a) {t : ℕ} (fine : a ≡ Some t) (p : Option ℕ) (placed : Placed w count (slot v 0) p) (none : is_some p ≡ false) where
    fit : Fit N v
    fit = step.fit

    it : Is (next A b l) v t
    it = (subst (λ x. Stepped A N b l v r x) fine step).what.0

    new : among same_situation (next A b l) (slots w 0 count) ≡ false
    new = subst (λ u. among same_situation u (slots w 0 count) ≡ false) it.sit (not_placed w count (slot v 0) p placed none)

    pub tried_full : 96 ≤ count → Tries A N w w count l b (Err Situations)
    tried_full f =
        record {
          size = refl;
          what = record { most = omega (arith, slots_length w 0 count, k.most); new = new; needs = omega (arith, it.few, it.count); small = λ j d. by j (omega arith) };
        }
      where
        by : (j : ℕ) → j < count → length (registers (get_or (slots w 0 count) j [])) ≤ 64
        by j d = let z : 0 + j ≡ j = omega arith in rw (slots_at w 0 count j [] d ∙ ap (slot w) z) (k.holds j d).small

    pub tried_new : count < 96 → (w' : List ℕ) → Stored w w' count (slot v 0) (get_or v 1 0) → Tries A N w w' count l b (Ok (count + 1))
    tried_new f w' s =
        record {
          size = s.size;
          what = (
            record { room = omega (arith, s.size, k.room); most = omega arith; holds = all },
            slots_snoc w' count ∙ ap (λ v. v ++ (slot w' count ∷ [])) (slots_same w w' count (λ j b. slot_same w w' count _ _ s j b (k.holds j b).few))
                ∙ ap (λ v. slots w 0 count ++ (v ∷ [])) (s.here ∙ it.sit) ∙ sym (put_new (slots w 0 count) (next A b l) new),
          );
        }
      where
        last : Holds N w' count
        last =
            record {
              few = s.few;
              count = s.count ∙ it.tally ∙ it.count ∙ ap (λ v. length (registers v)) (sym (s.here ∙ it.sit));
              small = omega (arith, it.few, it.count, ap (λ v. length (registers v)) (s.here ∙ it.sit));
              below = subst (λ v. Below N v) (sym s.here) fit.below;
            }

        all : (i : ℕ) → i < count + 1 → Holds N w' i
        all i d = by (Bool-cases (eqb i count))
          where
            by : (eqb i count ≡ true) ⊎ (eqb i count ≡ false) → Holds N w' i
            by (inl z) = let q = eqb-true i count z in rw q last
            by (inr z) =
                let q = eqb-false i count z in
                let m : i < count = omega arith in
                holds_same w w' count _ _ s i m (k.holds i m).few N (k.holds i m)

-- ---- the loop over the bytes

bytes_snoc : (n : ℕ) → bytes 0 (n + 1) ≡ bytes 0 n ++ (n ∷ [])
unfolding bytes
bytes_snoc n = ap (bytes 0) (add-one n) ∙ by 0 n ∙ (let z : 0 + n ≡ n = omega arith in ap (λ v. bytes 0 n ++ (v ∷ [])) z)
  where
    by : (j n : ℕ) → bytes j (suc n) ≡ bytes j n ++ ((j + n) ∷ [])
    by j zero = let z : j ≡ j + 0 = omega arith in ap (λ v. v ∷ []) z
    by j (suc n) = ap (λ v. j ∷ v) (by (j + 1) n ∙ (let z : j + 1 + n ≡ j + suc n = omega arith in ap (λ v. bytes (j + 1) n ++ (v ∷ [])) z))

pub no_bytes : bytes 0 0 ≡ []
unfolding bytes
no_bytes = refl

foldl_snoc : {A B : Type 0} (g : B → A → B) (z : B) (l : List A) (x : A) → foldl g z (l ++ (x ∷ [])) ≡ g (foldl g z l) x
foldl_snoc g z [] x = refl
foldl_snoc g z (y ∷ l) x = foldl_snoc g (g z y) l x

pub once_snoc : (found : List Sit) (f : ℕ → Sit) (n : ℕ) → once same_situation found (map f (bytes 0 (n + 1))) ≡ put same_situation (once same_situation found (map f (bytes 0 n))) (f n)
once_snoc found f n =
    ap (λ v. once same_situation found (map f v)) (bytes_snoc n) ∙ ap (once same_situation found) (map_append f (bytes 0 n) (n ∷ []))
    ∙ foldl_snoc (put same_situation) found (map f (bytes 0 n)) (f n)

pub once_none : (found : List Sit) (f : ℕ → Sit) → found ≡ once same_situation found (map f (bytes 0 0))
once_none found f = ap (λ v. once same_situation found (map f v)) (sym no_bytes)

module _ (A : Net) (N : ℕ) (w₀ w w' : List ℕ) (count n : ℕ) (l l₀ : Sit) (same : l ≡ l₀) (b : ℕ) (size : length w ≡ length w₀)
    (so_far : slots w 0 n ≡ once same_situation (slots w₀ 0 count) (map (λ b. next A b l) (bytes 0 b))) where
  pub expand_stop : (e : Refusal) → Tries A N w w' n l b (Err e) → b < 256 → Expands A N w₀ w' count l₀ (Err e)
  expand_stop e t c =
      subst (λ v. Expands A N w₀ w' count v (Err e)) same
      (record { size = t.size ∙ size; what = (b, (c, subst (λ v. Refused v (next A b l) e) so_far t.what)) })

  pub expand_on : (m : ℕ) → Tries A N w w' n l b (Ok m) → Kept N w' m × (slots w' 0 m ≡ once same_situation (slots w₀ 0 count) (map (λ b. next A b l) (bytes 0 (b + 1))))
  expand_on m t = (t.what.0, t.what.1 ∙ ap (λ v. put same_situation v (next A b l)) so_far ∙ sym (once_snoc (slots w₀ 0 count) (λ b. next A b l) b))

pub expanded : (A : Net) (N : ℕ) (w₀ w : List ℕ) (count n : ℕ) (l l₀ : Sit) → l ≡ l₀ → (b : ℕ) → b ≡ 256 → length w ≡ length w₀ → Kept N w n
    → slots w 0 n ≡ once same_situation (slots w₀ 0 count) (map (λ b. next A b l) (bytes 0 b)) → Expands A N w₀ w count l₀ (Ok n)
expanded A N w₀ w count n l l₀ same b e size k h =
    subst (λ v. Expands A N w₀ w count v (Ok n)) same
    (record { size = size; what = (k, h ∙ ap (λ v. once same_situation (slots w₀ 0 count) (map (λ b. next A b l) (bytes 0 v))) e) })

-- a situation that is loaded
pub loaded : (N : ℕ) (w : List ℕ) (i : ℕ) (l : List ℕ) → Holds N w i → Loaded w i l → (slot l 0 ≡ slot w i) × Holds N l 0
loaded N w i l h e =
    let m = slot_moved w l i (omega (arith, h.few, zeroth)) (λ k c. sym (e.same k c)) in
    let q = sym m.1 in
    (q, record { few = omega (arith, h.few, zeroth); count = e.same 1 (omega arith) ∙ h.count ∙ ap (λ v. length (registers v)) m.1; small = rw q h.small; below = rw q h.below })
  where
    zeroth : get_or l 0 0 ≡ get_or w (578 * i) 0
    zeroth = let z : 578 * i + 0 ≡ 578 * i = omega arith in e.same 0 (omega arith) ∙ ap (λ v. get_or w v 0) z

pub holds_fit : (N : ℕ) (l : List ℕ) → length l ≡ 578 → Holds N l 0 → Fit N l
holds_fit N l size h = record { size = size; few = h.few; below = h.below }

-- ---- the loop over the situations

put_longer : (found : List Sit) (s : Sit) → length found ≤ length (put same_situation found s)
put_longer found s = by (among same_situation s found)
  where
    by : (c : Bool) → length found ≤ length (choose c found (λ _. found ++ (s ∷ [])))
    by true = omega arith
    by false = omega (arith, length-append found (s ∷ []))

once_longer : (l found : List Sit) → length found ≤ length (once same_situation found l)
once_longer [] found = omega arith
once_longer (s ∷ l) found = let a = put_longer found s in let b = once_longer l (put same_situation found s) in omega arith

pub first_more : (A : Net) (i : ℕ) → i < length (first A i) → first A (i + 1) ≡ once same_situation (first A i) (map (λ b. next A b (here A i)) (bytes 0 256))
unfolding explored
first_more A i b =
    ap (first A) (add-one i)
    ∙ ap (λ v. once same_situation (first A i) (each (nexts same_situation (bytes 0 256) (next A)) (take 1 v))) (drop-cons (first A i) i [] b)
    ∙ ap (once same_situation (first A i)) (append-nil (map (λ b. next A b (here A i)) (bytes 0 256)))

module _ (A : Net) (N : ℕ) (w₀ w w' : List ℕ) (count i : ℕ) (size : length w ≡ length w₀) (so_far : slots w 0 count ≡ first A i) (b : i < count) where
  in_first : i < length (first A i)
  in_first = omega (arith, ap length so_far, slots_length w 0 count)

  slot_here : slot w i ≡ here A i
  slot_here = sym (slots_at w 0 count i [] b ∙ (let z : 0 + i ≡ i = omega arith in ap (slot w) z)) ∙ ap (λ v. get_or v i []) so_far

  partly_is : (c : ℕ) → once same_situation (slots w 0 count) (map (λ b. next A b (slot w i)) (bytes 0 c)) ≡ partly A i c
  partly_is c = λ k. once same_situation (so_far k) (map (λ b. next A b (slot_here k)) (bytes 0 c))

  -- where it stops, in document 01's numbering
  stops_there : (e : Refusal) (c : ℕ) → Refused (once same_situation (slots w 0 count) (map (λ b. next A b (slot w i)) (bytes 0 c))) (next A c (slot w i)) e → Refused (partly A i c) (next A c (here A i)) e
  stops_there e c r = subst (λ v. Refused (partly A i c) (next A c v) e) slot_here (subst (λ v. Refused v (next A c (slot w i)) e) (partly_is c) r)

  pub explore_stop : (e : Refusal) → Expands A N w w' count (slot w i) (Err e) → Explores A N w₀ w' (Err e)
  explore_stop Registers x = record { size = x.size ∙ size; what = at_byte i x.what.0 in_first x.what.1.0 (stops_there Registers x.what.0 x.what.1.1) }
  explore_stop Situations x = record { size = x.size ∙ size; what = at_byte i x.what.0 in_first x.what.1.0 (stops_there Situations x.what.0 x.what.1.1) }
  explore_stop _ x = absurd x.what.1.1

  pub explore_on : (n : ℕ) → Expands A N w w' count (slot w i) (Ok n) → Kept N w' n × ((slots w' 0 n ≡ first A (i + 1)) × (count ≤ n))
  explore_on n x =
      let l : length (slots w 0 count) ≤ length (once same_situation (slots w 0 count) (map (λ b. next A b (slot w i)) (bytes 0 256))) = once_longer (map (λ b. next A b (slot w i)) (bytes 0 256)) (slots w 0 count) in
      (x.what.0, (x.what.1 ∙ partly_is 256 ∙ sym (first_more A i in_first), omega (arith, slots_length w 0 count, slots_length w' 0 n, ap length x.what.1)))

pub explored_all_of : (A : Net) (N : ℕ) (w₀ w : List ℕ) (count i : ℕ) → i ≡ count → length w ≡ length w₀ → Kept N w count → slots w 0 count ≡ first A i → Explores A N w₀ w (Ok count)
explored_all_of A N w₀ w count i e size k h =
    let q = h ∙ ap (first A) e in
    record { size = size; what = (k, (q, ap length (sym q) ∙ slots_length w 0 count)) }

module _ (A : Net) (N : ℕ) (w v r : List ℕ) (a : Option ℕ) (g : Begun A N v r a) {t : ℕ} (fine : a ≡ Some t) (room : 65536 ≤ length w) (w' : List ℕ) (s : Stored w w' 0 (slot v 0) (get_or v 1 0)) where
  first_is : Is (situation A []) v t
  first_is = (subst (λ x. Begun A N v r x) fine g).what.0

  pub start_kept : Kept N w' 1
  start_kept = record { room = omega (arith, s.size); most = omega arith; holds = one }
    where
      first_slot : Holds N w' 0
      first_slot =
          record {
            few = s.few;
            count = s.count ∙ first_is.tally ∙ first_is.count ∙ ap (λ v. length (registers v)) (sym (s.here ∙ first_is.sit));
            small = omega (arith, first_is.few, first_is.count, ap (λ v. length (registers v)) (s.here ∙ first_is.sit));
            below = subst (λ v. Below N v) (sym s.here) g.fit.below;
          }

      one : (j : ℕ) → j < 1 → Holds N w' j
      one j b = let z : j ≡ 0 = omega arith in rw z first_slot

  pub start_slots : slots w' 0 1 ≡ first A 0
  unfolding slots explored
  start_slots = ap (λ v. v ∷ []) (s.here ∙ first_is.sit)
