-- The places of PATTERN_FORM and PATTERN_DEEP: the reader's are the grammar's. Assumes nothing.
use Prim.Native.Nat.{ℕ, zero, suc, ◌+◌, ◌≤◌, ◌<◌}
use mathlib.Core.Path.{◌≡◌, sym, ap, subst, ◌∙◌}
use mathlib.Core.List.{List, [], ◌∷◌, ◌++◌}
use mathlib.Core.Bool.{Bool, false}
use native.Mathlib.Omega.{arith}
use native.Mathlib.Numerals.{add-one}
use native.Mathlib.Decide.{dec_lt}
use lib.ListN.{length, take, drop, take-append-drop}
use lib.Seq.{take-suc, take-take}
use Rattle.ground.specs.Pick.{look}
use Rattle.ground.specs.Lists.{Bytes}
use Rattle.ground.proofs.Tests.{true_false}
use Rattle.ground.proofs.Every.{bytes_front}
use Rattle.pattern.specs.Pat.{Pat}
use Rattle.pattern.specs.Reader.{ok, form, deep, alts, read}
use Rattle.pattern.specs.Grammar.{Spells, FormAt, Open, DeepAt}
use Rattle.pattern.proofs.Laws.{Good, Went, went, read_good, byte_of, same_default}
use Rattle.grammar.proofs.Machine.{St, at, on, run, run_append}
use Rattle.grammar.proofs.Runs.{runs, fit_low, depth, Low, low_at, Room}
use Rattle.grammar.proofs.Parts.{Part, part_front}
use Rattle.grammar.proofs.Tracked.{Fail, Found, Dives, Track}
use Rattle.grammar.proofs.Track.{track}
use Rattle.grammar.proofs.Begun.{start, no_end, close_only, whole_word, begins_of, dead_begins, shorter}

bytes_take : (s : List ℕ) (q : ℕ) → Bytes s → Bytes (take q s)
bytes_take s q bs = bytes_front (take q s) (drop q s) (subst Bytes (sym (take-append-drop q s)) bs)

one_more : (s : List ℕ) (q : ℕ) → q < length s → take (q + 1) s ≡ take q s ++ look s q ∷ []
one_more s q l = ap (λ k. take k s) (add-one q) ∙ take-suc s q 256 l

-- The reader's failure is the grammar's.
pub form_at : (s : List ℕ) → Bytes s → (d q : ℕ) → q ≤ length s → Fail s d 0 q 0 false → FormAt s q
form_at s bs d q h f =
    let front = part_front s q f.word h f.part in
    let g : run start (take q s) ≡ f.stood = ap (run start) front ∙ f.gets in
    record {
      illegal = λ l. let z = runs l.1 0 false in no_end s d q h f z.free z.gets;
      inside = h;
      before = begins_of (take q s) (bytes_take s q bs) f.stood g f.alive;
      beyond = λ l b. dead_begins (take (q + 1) s) (ap (run start) (one_more s q l) ∙ run_append start (take q s) (look s q ∷ []) ∙ ap (λ x. on x (look s q)) g ∙ f.stuck l) b;
    }

-- There is one such place.
pub one_place : (s : List ℕ) (q k : ℕ) → FormAt s q → FormAt s k → q ≡ k
one_place s q k a b = go (dec_lt q k) (dec_lt k q)
  where
    go : Dec (q < k) → Dec (k < q) → q ≡ k
    go (yes l) x = let u = b.inside in absurd (a.beyond (omega arith) (shorter s k (q + 1) (omega arith) b.before))
    go (no l) (yes m) = let u = a.inside in absurd (b.beyond (omega arith) (shorter s q (k + 1) (omega arith) a.before))
    go (no l) (no m) = omega arith

-- the machine counts the open groups
pub open_run : (n : ℕ) (w : List ℕ) → Open n w → (k m : ℕ) (b : Bool) → m ≡ k + n → (b' : Bool) × (run (at k b) w ≡ at m b')
open_run zero w o k m b e = let z = runs o.1 k b in let j : k ≡ m = omega arith in (z.free, z.gets ∙ ap (λ i. at i z.free) j)
open_run (suc n) w o k m b e =
    let z = runs o.2.1 k b in
    let r = open_run n o.1 o.3 (suc k) m false (omega arith) in
    (r.0, ap (run (at k b)) o.4 ∙ run_append (at k b) o.0 (40 ∷ o.1) ∙ ap (λ x. run x (40 ∷ o.1)) z.gets ∙ r.1)

-- how many are open is one number
pub open_one : (n m : ℕ) (w : List ℕ) → Open n w → Open m w → n ≡ m
open_one n m w a b =
    let x = open_run n w a 0 n false (omega arith) in
    let y = open_run m w b 0 m false (omega arith) in
    let e : at n x.0 ≡ at m y.0 = sym x.1 ∙ y.1 in cc

-- at DEEP's place the machine opens the 17th group
pub deep_run : (s : List ℕ) (q : ℕ) → DeepAt s q → run start (take (q + 1) s) ≡ at 17 false
deep_run s q h =
    let r = open_run 16 (take q s) h.inside 0 16 false (omega arith) in
    let c : look s q ≡ 40 = sym (same_default s 0 256 q h.within) ∙ h.opens in
    ap (run start) (one_more s q h.within) ∙ run_append start (take q s) (look s q ∷ []) ∙ ap (λ x. on x (look s q)) r.1 ∙ ap (on (at 16 r.0)) c

-- so a legal pattern begins there: DEEP's place stands before FORM's
pub deep_before_form : (s : List ℕ) → Bytes s → (k q : ℕ) → DeepAt s k → FormAt s q → k < q
deep_before_form s bs k q h f = go (dec_lt k q)
  where
    go : Dec (k < q) → k < q
    go (yes l) = l
    go (no l) =
        let w = h.within in
        absurd (f.beyond (omega arith) (shorter s (k + 1) (q + 1) (omega arith) (begins_of (take (k + 1) s) (bytes_take s (k + 1) bs) (at 17 false) (deep_run s k h) tt)))

-- no place of DEEP within a word that stays within sixteen groups
pub none_deep : (s : List ℕ) (q : ℕ) (w : List ℕ) → q ≤ length s → Part s 0 q w → Low 16 start w → (k : ℕ) → DeepAt s k → k < q → ⊥
none_deep s q w h p l k z m =
    let t : take (k + 1) s ++ drop (k + 1) (take q s) ≡ w = ap (λ l. l ++ drop (k + 1) (take q s)) (sym (take-take (k + 1) q s (omega arith))) ∙ take-append-drop (k + 1) (take q s) ∙ part_front s q w h p in
    let a = low_at 16 start (take (k + 1) s) (drop (k + 1) (take q s)) (omega arith) (subst (Low 16 start) (sym t) l) in
    let b : 17 ≤ 16 = subst (λ (x : St). depth x ≤ 16) (deep_run s k z) a in omega arith

all_room : Room 16 0 0
all_room = record { few = omega arith; sum = omega arith }

-- The answers of a reading of the whole text.
module _ (s : List ℕ) (bs : Bytes s) where
  found : (d e : ℕ) (p : Pat) → read s alts d 0 ≡ ok e p → Found s alts d 0 e p
  found d e p r = subst (Track s alts d 0) r (track s bs d)

  failed : (d q : ℕ) → read s alts d 0 ≡ form q → Fail s d 0 q 0 false
  failed d q r = let f : Track s alts d 0 (form q) = subst (Track s alts d 0) r (track s bs d) in f 0 false (λ x. absurd (true_false (sym x)))

  within : (d q : ℕ) → read s alts d 0 ≡ form q → q ≤ length s
  within d q r = let g : Good s alts 0 (form q) = subst (Good s alts 0) r (read_good s alts d 0 (omega arith)) in g.1

  -- "The place of FORM is the first byte up to which no legal pattern begins"
  pub form_place : (d q : ℕ) → read s alts d 0 ≡ form q → FormAt s q
  form_place d q r = form_at s bs d q (within d q r) (failed d q r)

  -- a reading that ends before the text: the `)` that closes nothing
  closing : (d e : ℕ) (p : Pat) → read s alts d 0 ≡ ok e p → e < length s → Fail s d 0 e 0 false
  closing d e p r l =
      let f = found d e p r in
      let z = runs f.spells 0 false in
      record {
        word = f.word;
        part = f.part;
        stood = at 0 z.free;
        gets = z.gets;
        alive = tt;
        stuck = λ h. ap (on (at 0 z.free)) (close_only s bs d e p f l);
        short = λ q g. omega arith;
        low = λ n a. fit_low f.spells n d 0 false f.fit a;
      }

  pub close_place : (d e : ℕ) (p : Pat) → read s alts d 0 ≡ ok e p → e < length s → FormAt s e
  close_place d e p r l = form_at s bs d e (omega arith) (closing d e p r l)

  -- one that ends with the text spells it
  pub whole_text : (d e : ℕ) (p : Pat) → read s alts d 0 ≡ ok e p → length s ≤ e → Spells alts s p
  whole_text d e p r l = let f = found d e p r in subst (λ (w : List ℕ). Spells alts w p) (sym (whole_word s d e p f l)) f.spells

  dived : (q : ℕ) → read s alts 0 0 ≡ deep q → Dives s 0 0 q
  dived q r = subst (Track s alts 0 0) r (track s bs 0)

  -- "DEEP's place is the 17th open `(`"
  pub deep_place : (q : ℕ) → read s alts 0 0 ≡ deep q → DeepAt s q
  deep_place q r =
      let f = dived q r in
      let l = byte_of s q 40 (omega arith) f.brace in
      record { within = l; opens = same_default s 0 256 q l ∙ f.brace; inside = subst (Open 16) (sym (part_front s q f.word (omega arith) f.part)) f.opened }

  -- no group is too deep where there is no limit
  pub never_deep : (d q : ℕ) → 16 < d → read s alts d 0 ≡ deep q → ⊥
  never_deep d q h r = let f : Dives s d 0 q = subst (Track s alts d 0) r (track s bs d) in let l = f.few in omega arith

  -- and it is the first
  pub deep_first : (q : ℕ) → read s alts 0 0 ≡ deep q → (k : ℕ) → DeepAt s k → k < q → ⊥
  deep_first q r k h m =
      let f = dived q r in
      let l = byte_of s q 40 (omega arith) f.brace in
      none_deep s q f.word (omega arith) f.part (f.low 16 0 false all_room) k h m

  -- "the leftmost of PATTERN_FORM and PATTERN_DEEP": where FORM is answered, no place is DEEP's
  shallow : (q : ℕ) → q ≤ length s → Fail s 0 0 q 0 false → (k : ℕ) → DeepAt s k → ⊥
  shallow q h f k z = none_deep s q f.word h f.part (f.low 16 all_room) k z (deep_before_form s bs k q z (form_at s bs 0 q h f))

  pub form_not_deep : (q : ℕ) → read s alts 0 0 ≡ form q → (k : ℕ) → DeepAt s k → ⊥
  form_not_deep q r = shallow q (within 0 q r) (failed 0 q r)

  pub close_not_deep : (e : ℕ) (p : Pat) → read s alts 0 0 ≡ ok e p → e < length s → (k : ℕ) → DeepAt s k → ⊥
  close_not_deep e p r l = shallow e (omega arith) (closing 0 e p r l)

  pub ok_not_deep : (e : ℕ) (p : Pat) → read s alts 0 0 ≡ ok e p → length s ≤ e → (k : ℕ) → DeepAt s k → ⊥
  ok_not_deep e p r l k h =
      let f = found 0 e p r in
      let m = h.within in
      let w : Went s alts 0 e p = went s alts 0 e p (read s alts 0 0) (read_good s alts 0 0 (omega arith)) r in
      none_deep s e f.word w.inside f.part (fit_low f.spells 16 0 0 false f.fit all_room) k h (omega arith)
