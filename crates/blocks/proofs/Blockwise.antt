-- A block of commands carried out, register by register. Assumes nothing.
use Prim.Native.Nat.{ℕ, zero, suc, ◌+◌, ◌-◌, ◌/◌, ◌%◌, ◌<◌, ◌≤◌}
use native.Mathlib.Omega.{arith}
use mathlib.Core.Path.{◌≡◌, refl, sym, ap, ap₂, ◌∙◌}
use mathlib.Core.Bool.{true, false}
use mathlib.Core.List.{List, [], ◌∷◌, ◌++◌}
use lib.ListN.{length, set, take, drop, replicate, length-take, length-drop}
use lib.Seq.{get_or-set_other, set_comm, drop-cons, sets, paste}
use borrow.Rule.Slice.PartMut.{put_mid}
use Rattle.std.proofs.lemmas.List.{take-take}
use Rattle.std.proofs.lemmas.List.Edits.{sets-eq}
use Rattle.std.proofs.lemmas.Slice.{put_mid-paste}
use lib.IntN.{ℤ, pos}
use Rattle.card.specs.Table.{Cmd, move, put}
use Rattle.card.specs.Run.{Bank, reg}
use Rattle.run.specs.Carry.{carry}
use Rattle.image.specs.Image.{puts, moves, misfit, of_bits}
use Rattle.image.proofs.Blocks.{past_bank, downward}
use Rattle.blocks.specs.Blocked.{Blocked}

-- one list after the other
carry_append : (l m : List Cmd) (p : ℕ) (old cur : Bank) → carry (l ++ m) p old cur ≡ carry m p old (carry l p old cur)
unfolding carry
carry_append [] m p old cur = refl
carry_append (move t f ∷ l) m p old cur = carry_append l m p old (set cur t (reg old f))
carry_append (put t ∷ l) m p old cur = carry_append l m p old (set cur t (pos p))

-- ---- a part of the bank stored as one

stored : (a n : ℕ) (bank vs : Bank) → n ≤ length vs → a + n ≤ length bank → paste bank a vs n ≡ sets bank a (take n vs)
stored a n bank vs e h =
    let l : length (take n vs) ≡ n = simp length-take (omega arith) in
    ap (λ (m : ℕ). take a bank ++ take n vs ++ drop (a + m) bank) (sym l) ∙ sym (sets-eq (take n vs) bank a (omega arith))

module _ (p : ℕ) (old : Bank) where
  moves_one_by_one : (a f n : ℕ) (cur : Bank) → f + n ≤ length old → sets cur a (take n (drop f old)) ≡ carry (moves a f n) p old cur
  unfolding carry
  moves_one_by_one a f zero cur h = refl
  moves_one_by_one a f (suc n) cur h =
      ap (λ (l : Bank). sets cur a (take (suc n) l)) (drop-cons old f (pos 0) (omega arith))
      ∙ moves_one_by_one (suc a) (suc f) n (set cur a (reg old f)) (omega arith)

  puts_one_by_one : (a k : ℕ) (cur : Bank) → sets cur a (replicate k (pos p)) ≡ carry (puts a k) p old cur
  unfolding carry
  puts_one_by_one a zero cur = refl
  puts_one_by_one a (suc k) cur = puts_one_by_one (suc a) k (set cur a (pos p))

  pub moves_stored : (a f n : ℕ) (vs : Bank) → a + n ≤ length old → f + n ≤ length old → vs ≡ take n (drop f old)
      → paste old a vs n ≡ carry (moves a f n) p old old
  moves_stored a f n vs h k e =
      let l : n ≤ length (drop f old) = simp length-drop (omega arith) in
      let i : n ≤ length vs = simp (e, length-take) (omega arith) in
      stored a n old vs i h ∙ ap (λ (b : Bank). sets old a (take n b)) e ∙ ap (sets old a) (take-take n n (drop f old) (omega arith)) ∙ moves_one_by_one a f n old k

  pub puts_stored : (a k i : ℕ) (vs : Bank) {v : ℤ} → a + k ≤ length old → i ≡ k → length vs ≡ k → v ≡ pos p → take i vs ≡ replicate i v
      → put_mid a (a + k - a) old vs ≡ carry (puts a k) p old old
  puts_stored a k i vs h n l w e =
      put_mid-paste a (a + k - a) old vs vs k refl (omega arith) (sym l) ∙ stored a k old vs (omega arith) h
      ∙ ap (λ (m : ℕ). sets old a (take m vs)) (sym n) ∙ ap (sets old a) (e ∙ ap₂ (λ (m : ℕ) (x : ℤ). replicate m x) n w) ∙ puts_one_by_one a k old

-- ---- in place: MOVEs upward, the last first

-- targets below a register
abbrev Under : ℕ → List Cmd → Type 0
Under a [] = Unit {0}
Under a (move t f ∷ l) = (t < a) × Under a l
Under a (put t ∷ l) = (t < a) × Under a l

under_puts : (a t n : ℕ) → t + n ≤ a → Under a (puts t n)
under_puts a t zero h = tt
under_puts a t (suc n) h = (omega arith, under_puts a (suc t) n (omega arith))

under_moves : (a t f n : ℕ) → t + n ≤ a → Under a (moves t f n)
under_moves a t f zero h = tt
under_moves a t f (suc n) h = (omega arith, under_moves a (suc t) (suc f) n (omega arith))

module _ (p : ℕ) (old : Bank) where
  -- what stands below the targets of MOVEs stays, and is stored as well after as before them
  low_stays : (a f n : ℕ) (cur : Bank) (j : ℕ) → j < a → reg (carry (moves a f n) p old cur) j ≡ reg cur j
  unfolding carry
  low_stays a f zero cur j h = refl
  low_stays a f (suc n) cur j h =
      low_stays (suc a) (suc f) n (set cur a (reg old f)) j (omega arith) ∙ get_or-set_other cur a j (reg old f) (pos 0) (λ e. omega arith)

  set_before : (a f n : ℕ) (cur : Bank) (t : ℕ) (v : ℤ) → t < a → set (carry (moves a f n) p old cur) t v ≡ carry (moves a f n) p old (set cur t v)
  unfolding carry
  set_before a f zero cur t v h = refl
  set_before a f (suc n) cur t v h =
      set_before (suc a) (suc f) n (set cur a (reg old f)) t v (omega arith)
      ∙ ap (carry (moves (suc a) (suc f) n) p old) (set_comm cur a t (reg old f) v (λ e. omega arith))

  carry_before : (a f n : ℕ) (was cur : Bank) (l : List Cmd) → Under a l
      → carry l p was (carry (moves a f n) p old cur) ≡ carry (moves a f n) p old (carry l p was cur)
  unfolding carry
  carry_before a f n was cur [] h = refl
  carry_before a f n was cur (move t g ∷ l) h =
      ap (carry l p was) (set_before a f n cur t (reg was g) h.0) ∙ carry_before a f n was (set cur t (reg was g)) l h.1
  carry_before a f n was cur (put t ∷ l) h =
      ap (carry l p was) (set_before a f n cur t (pos p) h.0) ∙ carry_before a f n was (set cur t (pos p)) l h.1

  -- MOVEs ask for their sources alone, and SETs for none
  same_sources : (was : Bank) (a f n : ℕ) (cur : Bank) → ((j : ℕ) → j < f + n → reg was j ≡ reg old j) → carry (moves a f n) p was cur ≡ carry (moves a f n) p old cur
  unfolding carry
  same_sources was a f zero cur h = refl
  same_sources was a f (suc n) cur h =
      ap (λ (v : ℤ). carry (moves (suc a) (suc f) n) p was (set cur a v)) (h f (omega arith))
      ∙ same_sources was (suc a) (suc f) n (set cur a (reg old f)) (λ j i. h j (omega arith))

  no_sources : (was : Bank) (a n : ℕ) (cur : Bank) → carry (puts a n) p was cur ≡ carry (puts a n) p old cur
  unfolding carry
  no_sources was a zero cur = refl
  no_sources was a (suc n) cur = no_sources was (suc a) n (set cur a (pos p))

moves_add : (a f c m : ℕ) → moves a f (c + m) ≡ moves a f c ++ moves (a + c) (f + c) m
moves_add a f zero m =
    let x : zero + m ≡ m = omega arith in
    let y : a ≡ a + zero = omega arith in
    let z : f ≡ f + zero = omega arith in
    ap (moves a f) x ∙ ap₂ (λ (t u : ℕ). moves t u m) y z
moves_add a f (suc c) m =
    let x : suc c + m ≡ suc (c + m) = omega arith in
    let y : suc a + c ≡ a + suc c = omega arith in
    let z : suc f + c ≡ f + suc c = omega arith in
    ap (moves a f) x
    ∙ ap (λ (l : List Cmd). move a f ∷ l) (moves_add (suc a) (suc f) c m ∙ ap (λ (l : List Cmd). moves (suc a) (suc f) c ++ l) (ap₂ (λ (t u : ℕ). moves t u m) y z))

module _ (p : ℕ) (old : Bank) where
  -- those of c registers after those of the m registers above them
  lower_then : (a f c m : ℕ) {cur new : Bank} → f ≤ a → cur ≡ carry (moves (a + c) (f + c) m) p old old → new ≡ carry (moves a f c) p cur cur
      → new ≡ carry (moves a f (c + m)) p old old
  lower_then a f c m {cur} {new} up e g =
      let was : Bank = carry (moves (a + c) (f + c) m) p old old in
      g ∙ ap (λ (b : Bank). carry (moves a f c) p b b) e
      ∙ same_sources p old was a f c was (λ j h. low_stays p old (a + c) (f + c) m old j (omega arith))
      ∙ carry_before p old (a + c) (f + c) m old old (moves a f c) (under_moves (a + c) a f c (omega arith))
      ∙ sym (carry_append (moves a f c) (moves (a + c) (f + c) m) p old old)
      ∙ ap (λ (l : List Cmd). carry l p old old) (sym (moves_add a f c m))

  -- the MOVEs from the register i on are done
  abbrev pub Shifted : (a f n i : ℕ) → Bank → Type 0
  Shifted a f n i cur = cur ≡ carry (moves (a + i) (f + i) (n - i)) p old old

  pub shift_none : (a f n i : ℕ) → n ≤ i → Shifted a f n i old
  unfolding carry
  shift_none a f n i l = let z : 0 ≡ n - i = omega arith in ap (λ (m : ℕ). carry (moves (a + i) (f + i) m) p old old) z

  module _ (a f n : ℕ) (up : f ≤ a) where
    pub shift_more : (i c j : ℕ) {cur new : Bank} → j ≡ i + c → j ≤ n → Shifted a f n j cur → new ≡ carry (moves (a + i) (f + i) c) p cur cur → Shifted a f n i new
    shift_more i c j {cur} {new} k l e g =
        let x : a + j ≡ a + i + c = omega arith in
        let y : f + j ≡ f + i + c = omega arith in
        let z : c + (n - j) ≡ n - i = omega arith in
        lower_then (a + i) (f + i) c (n - j) (omega arith) (e ∙ ap₂ (λ (t u : ℕ). carry (moves t u (n - j)) p old old) x y) g
        ∙ ap (λ (m : ℕ). carry (moves (a + i) (f + i) m) p old old) z

    pub shift_last : (j : ℕ) {cur new : Bank} → j ≤ n → Shifted a f n j cur → new ≡ carry (moves a f j) p cur cur → new ≡ carry (moves a f n) p old old
    shift_last j {cur} {new} l e g =
        let z : j + (n - j) ≡ n = omega arith in
        lower_then a f j (n - j) up e g ∙ ap (λ (m : ℕ). carry (moves a f m) p old old) z

    pub shift_all : {cur : Bank} → Shifted a f n 0 cur → cur ≡ carry (moves a f n) p old old
    unfolding carry
    shift_all e = shift_last 0 (omega arith) e refl

-- ---- the whole block

module _ (w p : ℕ) (old : Bank) where
  blocked_none : {new : Bank} → of_bits misfit w ≡ true → Blocked w p old new false
  blocked_none h = record {
    done = λ z. let y : ◌≡◌ {A = ℕ} 0 1 = cc in absurd (omega arith);
    past = λ _. h;
  }

  pub blocked_past : {new : Bank} → 64 < w % 64 + (w / 64 % 32 + 1) + w / 2048 % 64 → Blocked w p old new false
  blocked_past h = blocked_none (past_bank (w % 64) (w / 64 % 32 + 1) (w / 131072) (w / 2048 % 64) h)

  pub blocked_down : {new : Bank} → w % 64 + (w / 64 % 32 + 1) + w / 2048 % 64 ≤ 64 → w % 64 + (w / 64 % 32 + 1) < w / 131072 → Blocked w p old new false
  blocked_down g h = blocked_none (downward (w % 64) (w / 64 % 32 + 1) (w / 131072) (w / 2048 % 64) g h)

  pub blocked_done : {mid new : Bank} → of_bits misfit w ≡ false
      → mid ≡ carry (moves (w % 64 + (w / 64 % 32 + 1)) (w / 131072) (w / 2048 % 64)) p old old
      → new ≡ carry (puts (w % 64) (w / 64 % 32 + 1)) p mid mid
      → Blocked w p old new true
  blocked_done {mid} {new} h e g = record {
    done = λ _. (
      h,
      g ∙ no_sources p old mid a k mid ∙ ap (carry (puts a k) p old) e
          ∙ carry_before p old (a + k) s n old old (puts a k) (under_puts (a + k) a k (omega arith))
          ∙ sym (carry_append (puts a k) (moves (a + k) s n) p old old),
    );
    past = λ z. let y : ◌≡◌ {A = ℕ} 0 1 = cc in absurd (omega arith);
  }
    where
      a : ℕ
      a = w % 64

      k : ℕ
      k = w / 64 % 32 + 1

      s : ℕ
      s = w / 131072

      n : ℕ
      n = w / 2048 % 64
