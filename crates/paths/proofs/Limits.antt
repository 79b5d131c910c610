-- The numbering over inputs, and what an exploration says of it, closed or stopped: REGISTERS and SITUATIONS are decided exactly as document 01 says.
-- Assumes nothing.
use mathlib.Core.Path.{◌≡◌, refl, sym, ap, ◌∙◌, subst}
use mathlib.Core.Logic.{◌⊎◌, inl, inr}
use mathlib.Core.Bool.{Bool, true, false}
use mathlib.Core.List.{List, [], ◌∷◌, ◌++◌, map, append-nil, Memᴰ}
use Prim.Native.Nat.{ℕ, zero, suc, ◌+◌, ◌-◌, ◌≤◌, ◌<◌}
use native.Mathlib.Numerals.{add-one}
use native.Mathlib.Omega.{arith}
use native.Mathlib.Decide.{dec_le}
use lib.ListN.{length, get_or, take, length-append, get_or-append}
use lib.Seq.{get_or-append_seam, drop-cons}
use Rattle.net.specs.Rec.{Net}
use Rattle.ground.specs.Lists.{each}
use Rattle.paths.specs.Search.{choose}
use Rattle.paths.specs.Registers.{registers, situation, next}
use Rattle.paths.specs.Equal.{same_situation}
use Rattle.paths.specs.Numbering.{upto, numbered, among, put, once, nexts, explored}
use Rattle.paths.specs.Limits.{Before, Sit, bytes, Input, all, Numbered, OverRegisters, OverSituations, first, here, partly, Small, Closes, TooManyRegisters, TooManySituations, Stops, at_start, at_byte}
use Rattle.ground.proofs.Members.{mem_split, ordered_cross, Prefix, ≼_trans, ≼_length, ≼_at, map_≼, get_or_mem, mem_get_or}
use Rattle.ground.proofs.Lists.{map_append}
use Rattle.paths.proofs.Firsts.{put_≼, gather_≼, gather_in, Keyed, gather_append, gather_mono, put_has, sole_at}
use Rattle.paths.proofs.Next.{situation_next}
use Rattle.paths.proofs.Exploring.{upto_has, upto_of, by_state, numbered_≼, numbered_has, numbered_of, numbered_sole, explored_≼, explored_next}
use Rattle.paths.proofs.Inputs.{inputs_ordered}
use Rattle.paths.proofs.Builder.{situation_test, found_first, found_all}

-- ---- bytes

bytes_cat : (k n m : ℕ) → bytes k (n + m) ≡ bytes k n ++ bytes (k + n) m
unfolding bytes
bytes_cat k zero m = let e : k ≡ k + 0 = omega arith in let z : zero + m ≡ m = omega arith in ap (λ v. bytes k v) z ∙ ap (λ v. bytes v m) e
bytes_cat k (suc n) m =
    let z : suc n + m ≡ suc (n + m) = omega arith in
    let e : k + 1 + n ≡ k + suc n = omega arith in
    ap (λ v. bytes k v) z ∙ ap (λ l. k ∷ l) (bytes_cat (k + 1) n m ∙ ap (λ v. bytes (k + 1) n ++ bytes v m) e)

bytes_≼ : (n m : ℕ) → n ≤ m → Prefix (bytes 0 n) (bytes 0 m)
bytes_≼ n m h = let e : n + (m - n) ≡ m = omega arith in record { more = bytes (0 + n) (m - n); whole = sym (bytes_cat 0 n (m - n)) ∙ ap (λ v. bytes 0 v) e }

one_byte : (k : ℕ) → bytes k 1 ≡ k ∷ []
unfolding bytes
one_byte k = refl

pub bytes_snoc : (n : ℕ) → bytes 0 (n + 1) ≡ bytes 0 n ++ (n ∷ [])
bytes_snoc n = let e : 0 + n ≡ n = omega arith in bytes_cat 0 n 1 ∙ ap (λ v. bytes 0 n ++ v) (one_byte (0 + n) ∙ ap (λ v. v ∷ []) e)

pub bytes_has : (k n b : ℕ) → k ≤ b → b < k + n → Memᴰ b (bytes k n)
unfolding bytes
bytes_has k zero b g h = absurd (omega arith)
bytes_has k (suc n) b g h = by (λ p q. bytes_has (k + 1) n b p q) (dec_le b k)
  where
    by : (k + 1 ≤ b → b < k + 1 + n → Memᴰ b (bytes (k + 1) n)) → Dec (b ≤ k) → Memᴰ b (k ∷ bytes (k + 1) n)
    by ih (yes e) = let q : b ≡ k = omega arith in mathlib.Core.List.Memᴰ.head q
    by ih (no e) = mathlib.Core.List.Memᴰ.tail (ih (omega arith) (omega arith))

pub bytes_below : (k n : ℕ) {b : ℕ} → Memᴰ b (bytes k n) → b < k + n
unfolding bytes
bytes_below k zero m = absurd (elim m [ ])
bytes_below k (suc n) (mathlib.Core.List.Memᴰ.head e) = omega arith
bytes_below k (suc n) (mathlib.Core.List.Memᴰ.tail m) = omega (arith, bytes_below (k + 1) n m)

in_bytes : {w : List ℕ} → Input w → (b : ℕ) → Memᴰ b w → Memᴰ b (bytes 0 256)
in_bytes h b m = let z = h b m in bytes_has 0 256 b (omega arith) (omega arith)

-- ---- THE NUMBERING

abbrev by_situation : Keyed {S = Sit} (λ s. s) (λ s l. Memᴰ s l) (put same_situation)
by_situation = by_state same_situation situation_test

put_length : (l : List Sit) (s : Sit) → length (put same_situation l s) ≤ length l + 1
put_length l s = by (among same_situation s l)
  where
    by : (c : Bool) → length (choose c l (λ _. l ++ (s ∷ []))) ≤ length l + 1
    by true = omega arith
    by false = omega (arith, length-append l (s ∷ []))

new_last : (l : List Sit) (s : Sit) → among same_situation s l ≡ false → put same_situation l s ≡ l ++ (s ∷ [])
new_last l s e = rw e

module _ (A : Net) where
  numbered_from : (n : ℕ) {l : List Sit} → Prefix l (all A n) → (k : ℕ) → k < length l → Numbered A k (get_or l k [])
  numbered_from n g k h = record { n = n; there = omega (arith, ≼_length g); it = ≼_at [] g k h }

  more_inputs : (n m : ℕ) → n ≤ m → Prefix (all A n) (all A m)
  more_inputs n m h = numbered_≼ same_situation situation_test (bytes 0 256) (next A) (situation A) (situation_next A) n m h

  -- the same number, seen from longer inputs
  later : {k : ℕ} {s : Sit} (x : Numbered A k s) (m : ℕ) → x.n ≤ m → (k < length (all A m)) × (get_or (all A m) k [] ≡ s)
  later {k} x m h =
      let g = more_inputs x.n m h in
      let t = x.there in
      (omega (arith, ≼_length g), ≼_at [] g k x.there ∙ x.it)

  pub numbered_at : (n k : ℕ) → k < length (all A n) → Numbered A k (get_or (all A n) k [])
  numbered_at n k h = record { n = n; there = h; it = refl }

  -- a number has one situation, and a situation one number
  pub numbered_one : {k : ℕ} {s t : Sit} → Numbered A k s → Numbered A k t → s ≡ t
  numbered_one x y = sym (later x (x.n + y.n) (omega arith)).1 ∙ (later y (x.n + y.n) (omega arith)).1

  pub number_once : {k j : ℕ} {s : Sit} → Numbered A k s → Numbered A j s → k ≡ j
  number_once {k} {j} x y =
      let m = x.n + y.n in
      let a = later x m (omega arith) in
      let b = later y m (omega arith) in
      sole_at by_situation [] (all A m) (numbered_sole same_situation situation_test (bytes 0 256) (next A) (situation A) (situation_next A) m) k j a.0 b.0 (a.1 ∙ sym b.1)

  -- every input's situation has a number, and every number is that of an input's situation
  pub numbered_every : (w : List ℕ) → Input w → (k : ℕ) × Numbered A k (situation A w)
  numbered_every w h =
      let r = mem_get_or [] (numbered_has same_situation situation_test (bytes 0 256) (next A) (situation A) (situation_next A) w (in_bytes h)) in
      (r.0, record { n = length w; there = r.1.0; it = r.1.1 })

  pub numbered_input : {k : ℕ} {s : Sit} → Numbered A k s → (w : List ℕ) × Input w × (situation A w ≡ s)
  numbered_input {k} x =
      let r = numbered_of same_situation situation_test (bytes 0 256) (next A) (situation A) (situation_next A) x.n (get_or_mem (all A x.n) k [] x.there) in
      (r.0, (λ b m. bytes_below 0 256 (r.1 b m)), r.2 ∙ x.it)

  -- ---- an exploration that closes has found them all, in order

  pub first_numbered : (i k : ℕ) → k < length (first A i) → Numbered A k (get_or (first A i) k [])
  first_numbered i k h = numbered_from i (found_first A (bytes 0 256) i) k h

  -- situation 0 is that of the empty input
  pub numbered_zero : Numbered A 0 (situation A [])
  unfolding explored
  numbered_zero = first_numbered 0 0 (omega arith)

  module _ (n : ℕ) (closed : length (first A n) ≤ n) where
    pub closed_numbered : {k : ℕ} {s : Sit} → Numbered A k s → (k < length (first A n)) × (get_or (first A n) k [] ≡ s)
    closed_numbered {k} x =
        let g = found_all A (bytes 0 256) n closed x.n in
        let t = x.there in
        (omega (arith, ≼_length g), ≼_at [] g k x.there ∙ x.it)

    pub closed_every : (w : List ℕ) → Input w → Memᴰ (situation A w) (first A n)
    closed_every w h =
        let r = numbered_every w h in
        let c = closed_numbered r.1 in
        subst (λ s. Memᴰ s (first A n)) c.1 (get_or_mem (first A n) r.0 [] c.0)

    pub closed_next : {s : Sit} {b : ℕ} → b < 256 → Memᴰ s (first A n) → Memᴰ (next A b s) (first A n)
    closed_next {s} {b} h m =
        explored_next same_situation situation_test (bytes 0 256) (next A) (situation A) (situation_next A) n closed m (bytes_has 0 256 b (omega arith) (omega arith))

  -- within both limits
  pub closes_registers : {n : ℕ} → Closes A n → ¬ OverRegisters A
  closes_registers {n} c o =
      let w = c.whole in
      let r = closed_numbered n (omega arith) o.reached in
      let q = c.small o.k (omega (arith, r.0)) in
      let z = o.needs in
      omega (arith, ap (λ s. length (registers s)) r.1)

  pub closes_situations : {n : ℕ} → Closes A n → ¬ OverSituations A
  closes_situations {n} c o =
      let w = c.whole in
      let f = c.few in
      let r = closed_numbered n (omega arith) o.reached in
      omega (arith, r.0)

  -- ---- one that stops has found the first ones, and another

  first_more : (i : ℕ) → i < length (first A i) → first A (i + 1) ≡ partly A i 256
  unfolding explored
  first_more i h =
      ap (λ v. first A v) (add-one i)
      ∙ ap (λ v. once same_situation (first A i) (each (nexts same_situation (bytes 0 256) (next A)) (take 1 v))) (drop-cons (first A i) i [] h)
      ∙ ap (once same_situation (first A i)) (append-nil (map (λ b. next A b (here A i)) (bytes 0 256)))

  partly_put : (i b : ℕ) → partly A i (b + 1) ≡ put same_situation (partly A i b) (next A b (here A i))
  partly_put i b =
      ap (λ v. once same_situation (first A i) (map (λ b. next A b (here A i)) v)) (bytes_snoc b)
      ∙ ap (once same_situation (first A i)) (map_append (λ b. next A b (here A i)) (bytes 0 b) (b ∷ []))
      ∙ gather_append by_situation (first A i) (map (λ b. next A b (here A i)) (bytes 0 b)) (next A b (here A i) ∷ [])

  reaches : (i b : ℕ) → i < length (first A i) → b < 256 → Prefix (put same_situation (partly A i b) (next A b (here A i))) (all A (i + 1))
  reaches i b h c =
      subst (λ l. Prefix l (all A (i + 1))) (partly_put i b)
      (≼_trans
      (subst (λ l. Prefix (partly A i (b + 1)) l) (sym (first_more i h)) (gather_mono by_situation (first A i) (map_≼ (λ b. next A b (here A i)) (bytes_≼ (b + 1) 256 (omega arith)))))
      (found_first A (bytes 0 256) (i + 1)))

  -- the candidate's number
  put_number : (i b : ℕ) → i < length (first A i) → b < 256
      → (k : ℕ) × ((k ≤ length (partly A i b)) × Numbered A k (next A b (here A i)))
  put_number i b h c =
      let g = reaches i b h c in
      let r = mem_get_or [] (put_has by_situation (partly A i b) (next A b (here A i))) in
      (r.0, (omega (arith, r.1.0, put_length (partly A i b) (next A b (here A i))), record { n = i + 1; there = omega (arith, ≼_length g, r.1.0); it = ≼_at [] g r.0 r.1.0 ∙ r.1.1 }))

  pub stop_registers : Stops A TooManyRegisters → OverRegisters A
  stop_registers (at_start h) = record { k = 0; s = situation A []; early = omega arith; reached = numbered_zero; needs = h.needs }
  stop_registers (at_byte i b l c h) =
      let r = put_number i b l c in
      let m = h.most in
      record { k = r.0; s = next A b (here A i); early = omega (arith, r.1.0); reached = r.1.1; needs = h.needs }

  -- the list at the stop: 97 situations, each small
  abbrev Ends : List Sit → Type 0
  Ends l = ((k : ℕ) → k < 97 → (k < length l) × (length (registers (get_or l k [])) ≤ 64))

  ends_with : (found : List Sit) (s : Sit) → TooManySituations found s → Ends (put same_situation found s)
  ends_with found s h = subst Ends (sym (new_last found s h.new)) each_small
    where
      each_small : Ends (found ++ (s ∷ []))
      each_small k j = (omega (arith, length-append found (s ∷ []), h.most), by (dec_le 96 k))
        where
          by : Dec (96 ≤ k) → length (registers (get_or (found ++ (s ∷ [])) k [])) ≤ 64
          by (yes e) =
              let q : k ≡ length found = omega (arith, h.most) in
              let z = h.needs in
              omega (arith, ap (λ i. length (registers (get_or (found ++ (s ∷ [])) i []))) q, ap (λ v. length (registers v)) (get_or-append_seam found s [] []))
          by (no e) = omega (arith, h.small k (omega arith), ap (λ v. length (registers v)) (get_or-append found (s ∷ []) [] k (omega (arith, h.most))))

  -- SITUATIONS, and not REGISTERS
  situations_from : (n : ℕ) {l : List Sit} → Prefix l (all A n) → Ends l → OverSituations A × (¬ OverRegisters A)
  situations_from n {l} g e = (record { s = get_or l 96 []; reached = numbered_from n g 96 (e 96 (omega arith)).0 }, small)
    where
      small : ¬ OverRegisters A
      small o =
          let q = numbered_one o.reached (numbered_from n g o.k (e o.k o.early).0) in
          let z = o.needs in
          omega (arith, ap (λ s. length (registers s)) q, (e o.k o.early).1)

  pub stop_situations : Stops A TooManySituations → OverSituations A × (¬ OverRegisters A)
  stop_situations (at_start h) = absurd (omega (arith, h.most))
  stop_situations (at_byte i b l c h) = situations_from (i + 1) (reaches i b l c) (ends_with (partly A i b) (next A b (here A i)) h)

  -- ---- one of the three, and no two of them

  some_over : (l : List Sit) (m : ℕ) → ((j : ℕ) × ((j < m) × (64 < length (registers (get_or l j []))))) ⊎ Small m l
  some_over l zero = inr (λ j h. absurd (omega arith))
  some_over l (suc m) = by (some_over l m) (dec_le (length (registers (get_or l m []))) 64)
    where
      last : Small m l → length (registers (get_or l m [])) ≤ 64 → Small (suc m) l
      last h p j k = here (dec_le m j)
        where
          here : Dec (m ≤ j) → length (registers (get_or l j [])) ≤ 64
          here (yes e) = let q : j ≡ m = omega arith in rw q p
          here (no e) = h j (omega arith)

      by : ((j : ℕ) × ((j < m) × (64 < length (registers (get_or l j []))))) ⊎ Small m l → Dec (length (registers (get_or l m [])) ≤ 64)
          → ((j : ℕ) × ((j < suc m) × (64 < length (registers (get_or l j []))))) ⊎ Small (suc m) l
      by (inl r) d = inl (r.0, (omega (arith, r.1.0), r.1.1))
      by (inr h) (yes p) = inr (last h p)
      by (inr h) (no p) = inl (m, (omega arith, omega arith))

  -- gone through 96 times: closed, at the count of what it found; or 97 are found
  at_count : length (first A 96) ≤ 96 → length (first A (length (first A 96))) ≡ length (first A 96)
  at_count h =
      let n = length (first A 96) in
      let g = explored_≼ same_situation situation_test (bytes 0 256) (next A) (situation A) (situation_next A) n 96 h in
      let a = ≼_length g in
      let b = ≼_length (found_first A (bytes 0 256) 96) in
      let c = ≼_length (found_all A (bytes 0 256) n a 96) in
      omega arith

  pub one_of_three : ((n : ℕ) × Closes A n) ⊎ (OverRegisters A ⊎ (OverSituations A × (¬ OverRegisters A)))
  one_of_three = by (dec_le (length (first A 96)) 96)
    where
      over : (i j : ℕ) → j < length (first A i) → j < 97 → 64 < length (registers (get_or (first A i) j [])) → OverRegisters A
      over i j h k p = record { k = j; s = get_or (first A i) j []; early = k; reached = first_numbered i j h; needs = p }

      shut : length (first A 96) ≤ 96 → (n : ℕ) → length (first A 96) ≡ n → length (first A n) ≡ n
          → ((j : ℕ) × ((j < n) × (64 < length (registers (get_or (first A n) j []))))) ⊎ Small n (first A n) → ((n : ℕ) × Closes A n) ⊎ (OverRegisters A ⊎ (OverSituations A × (¬ OverRegisters A)))
      shut h n e q (inl r) = inr (inl (over n r.0 (omega (arith, r.1.0)) (omega (arith, r.1.0)) r.1.1))
      shut h n e q (inr p) = inl (n, record { whole = q; few = omega arith; small = p })

      still : 97 ≤ length (first A 96) → ((j : ℕ) × ((j < 97) × (64 < length (registers (get_or (first A 96) j []))))) ⊎ Small 97 (first A 96)
          → ((n : ℕ) × Closes A n) ⊎ (OverRegisters A ⊎ (OverSituations A × (¬ OverRegisters A)))
      still h (inl r) = inr (inl (over 96 r.0 (omega (arith, r.1.0)) r.1.0 r.1.1))
      still h (inr p) = inr (inr (situations_from 96 (found_first A (bytes 0 256) 96) (λ k j. (omega arith, p k j))))

      by : Dec (length (first A 96) ≤ 96) → ((n : ℕ) × Closes A n) ⊎ (OverRegisters A ⊎ (OverSituations A × (¬ OverRegisters A)))
      by (yes h) = shut h (length (first A 96)) refl (at_count h) (some_over (first A (length (first A 96))) (length (first A 96)))
      by (no h) = still (omega arith) (some_over (first A 96) 97)

  -- the first 97 are reached by inputs of at most 96 bytes
  pub first_97 : {k : ℕ} {s : Sit} → Numbered A k s → k < 97 → (k < length (all A 96)) × (get_or (all A 96) k [] ≡ s)
  first_97 {k} {s} x h = by (dec_le (length (first A 96)) 96)
    where
      g : Prefix (first A 96) (all A 96)
      g = found_first A (bytes 0 256) 96

      from : (k < length (first A 96)) × (get_or (first A 96) k [] ≡ s) → (k < length (all A 96)) × (get_or (all A 96) k [] ≡ s)
      from r = (omega (arith, ≼_length g, r.0), ≼_at [] g k r.0 ∙ r.1)

      by : Dec (length (first A 96) ≤ 96) → (k < length (all A 96)) × (get_or (all A 96) k [] ≡ s)
      by (yes d) = from (closed_numbered 96 d x)
      by (no d) = let i : k < length (first A 96) = omega arith in from (i, numbered_one (first_numbered 96 k i) x)

  -- ---- the lower number has the earlier first input

  module _ (w : List ℕ) (pre post : List (List ℕ)) (split : upto (bytes 0 256) (length w) ≡ pre ++ w ∷ post) where
    -- the situations of the inputs before w
    before_w : List Sit
    before_w = once same_situation [] (map (situation A) pre)

    up_to_w : Prefix (put same_situation before_w (situation A w)) (all A (length w))
    unfolding numbered before_w
    up_to_w =
        subst (λ l. Prefix (put same_situation before_w (situation A w)) l)
        (sym
        (ap (λ l. once same_situation [] (map (situation A) l)) split
        ∙ ap (λ l. once same_situation [] l) (map_append (situation A) pre (w ∷ post))
        ∙ gather_append by_situation [] (map (situation A) pre) (situation A w ∷ map (situation A) post)))
        (gather_≼ by_situation (map (situation A) post) (put same_situation before_w (situation A w)))

    -- a situation with a lower number than that of w is one of these
    lower_before : {k j : ℕ} {s : Sit} → Numbered A k s → Numbered A j (situation A w) → k < j → Memᴰ s before_w
    lower_before {k} {j} {s} x y h =
        let r = mem_get_or [] (put_has by_situation before_w (situation A w)) in
        let e = number_once (subst (λ t. Numbered A r.0 t) r.1.1 (numbered_from (length w) up_to_w r.0 r.1.0)) y in
        let i : k < length before_w = omega (arith, r.1.0, put_length before_w (situation A w)) in
        subst (λ z. Memᴰ z before_w) (numbered_one (numbered_from (length w) (≼_trans (put_≼ by_situation before_w (situation A w)) up_to_w) k i) x) (get_or_mem before_w k [] i)

    input_before : {s : Sit} → Memᴰ s before_w → (v : List ℕ) × (Input v × ((situation A v ≡ s) × Before v w))
    unfolding before_w
    input_before {s} m = of (gather_in by_situation (map (situation A) pre) [] m)
      where
        of : Memᴰ s [] ⊎ Memᴰ s (map (situation A) pre) → (v : List ℕ) × (Input v × ((situation A v ≡ s) × Before v w))
        of (inl n) = absurd (elim n [ ])
        of (inr n) =
            let c = mathlib.Core.List.Memᴰ.of_map (situation A) pre n in
            let i : Memᴰ c.0 (upto (bytes 0 256) (length w)) = rw split (mathlib.Core.List.Memᴰ.append_left (w ∷ post) c.1) in (
              c.0,
              (
                (λ b k. bytes_below 0 256 (upto_of same_situation situation_test (bytes 0 256) (next A) (situation A) (situation_next A) (length w) i b k)),
                (c.2, ordered_cross Before pre (w ∷ post) (rw split at (inputs_ordered (length w))) c.0 w c.1 (mathlib.Core.List.Memᴰ.head refl)),
              ),
            )

  -- "numbered by the first input that reaches them": of two numbers, the lower one's situation is reached by an input before each that reaches the other's
  pub number_order : {k j : ℕ} {s t : Sit} → Numbered A k s → Numbered A j t → k < j → (w : List ℕ) → Input w → situation A w ≡ t
      → (v : List ℕ) × (Input v × ((situation A v ≡ s) × Before v w))
  number_order {k} {j} {s} {t} x y h w i e =
      let r = mem_split (upto_has same_situation situation_test (bytes 0 256) (next A) (situation A) (situation_next A) w (in_bytes i)) in
      input_before w r.0 r.1.0 r.1.1 (lower_before w r.0 r.1.0 r.1.1 x (subst (λ z. Numbered A j z) (sym e) y) h)
