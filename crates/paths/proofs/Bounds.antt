-- Eight tags, each with a place of the line. Assumes nothing.
use mathlib.Core.Path.{◌≡◌, refl, sym, ap, ◌∙◌}
use mathlib.Core.Logic.{◌⊎◌, inl, inr}
use mathlib.Core.List.Memᴰ
use mathlib.Core.List.{List, [], ◌∷◌, Memᴰ}
use mathlib.Core.Option.{Option, none, some, some-injective}
use Prim.Native.Nat.{ℕ, zero, suc, ◌+◌, ◌≤◌}
use native.Mathlib.Omega.{arith}
use lib.ListN.{length, set, length-set}
use Rattle.net.specs.Rec.{Net}
use Rattle.paths.specs.Ways.{first, second, mark, Move, eat, turn, eaten, Held, empty_handed, act, held, Answer}
use Rattle.paths.specs.Search.{Thread}
use Rattle.paths.specs.Registers.{Tags, no_tags, tagged, step, begin, after, index, registers, number, situation}
use Rattle.paths.proofs.Next.{single, each_close, each_byte, each_standing}
use Rattle.paths.proofs.Sharing.{Eight, eight_renamed}

-- ---- eight tags

abbrev AllTags : Tags → Type 0
AllTags τ = length τ ≡ 8

tagged_eight : (now : ℕ) (m : Move) (τ : Tags) → AllTags τ → AllTags (tagged now m τ)
tagged_eight now (eat b) τ h = h
tagged_eight now (turn first) τ h = h
tagged_eight now (turn second) τ h = h
tagged_eight now (turn (mark t)) τ h = length-set τ t (some now) ∙ h

begin_eight : (A : Net) → Eight (begin A)
unfolding begin
begin_eight A = each_standing AllTags A _ (each_close AllTags (tagged 0) (tagged_eight 0) A _ (single AllTags (record { on = 0; had = no_tags }) refl))

after_eight : (A : Net) (p : ℕ) (l : List (Thread Tags)) (w : List ℕ) → Eight l → Eight (after A p l w)
unfolding after step
after_eight A p l [] h = h
after_eight A p l (b ∷ w) h =
    after_eight A (suc p) (step A (suc p) b l) w
    (each_standing AllTags A _ (each_close AllTags (tagged (suc p)) (tagged_eight (suc p)) A _ (each_byte AllTags (tagged (suc p)) (tagged_eight (suc p)) A b l h)))

pub places_eight : (A : Net) (w : List ℕ) → Eight (after A 0 (begin A) w)
places_eight A w = after_eight A 0 (begin A) w (begin_eight A)

pub situation_eight : (A : Net) (w : List ℕ) → Eight (situation A w)
unfolding situation number
situation_eight A w = eight_renamed (λ t p. index (t, p) (registers (after A 0 (begin A) w))) (after A 0 (begin A) w) (places_eight A w)

-- ---- places of the line

mem_set : (τ : Tags) (t : ℕ) (o : Option ℕ) {q : Option ℕ} → Memᴰ q (set τ t o) → (q ≡ o) ⊎ Memᴰ q τ
mem_set [] t o m = inr m
mem_set (x ∷ τ) zero o {q} m = by (Memᴰ.cases_cons m)
  where
    by : (q ≡ o) ⊎ Memᴰ q τ → (q ≡ o) ⊎ Memᴰ q (x ∷ τ)
    by (inl e) = inl e
    by (inr n) = inr (Memᴰ.tail n)
mem_set (x ∷ τ) (suc t) o {q} m = by (λ n. mem_set τ t o n) (Memᴰ.cases_cons m)
  where
    deep : (q ≡ o) ⊎ Memᴰ q τ → (q ≡ o) ⊎ Memᴰ q (x ∷ τ)
    deep (inl e) = inl e
    deep (inr n) = inr (Memᴰ.tail n)

    by : (Memᴰ q (set τ t o) → (q ≡ o) ⊎ Memᴰ q τ) → (q ≡ x) ⊎ Memᴰ q (set τ t o) → (q ≡ o) ⊎ Memᴰ q (x ∷ τ)
    by ih (inl e) = inr (Memᴰ.head e)
    by ih (inr n) = deep (ih n)

-- what is in hand: eight tags, no place past the bytes consumed
record Sane (h : Held) : Type 0 where
  eight : length h.tags ≡ 8
  within : (p : ℕ) → Memᴰ (some p) h.tags → p ≤ h.place

past_none : {p : ℕ} {τ : Tags} → Memᴰ (some p) (none ∷ τ) → Memᴰ (some p) τ
past_none (Memᴰ.head e) = let z : ◌≡◌ {A = ℕ} 0 1 = cc in absurd (omega arith)
past_none (Memᴰ.tail m) = m

sane_empty : Sane empty_handed
sane_empty =
    record {
      eight = refl;
      within = λ p m. absurd (elim (past_none (past_none (past_none (past_none (past_none (past_none (past_none (past_none m)))))))) [ ]);
    }

sane_act : (m : Move) (h : Held) → Sane h → Sane (act m h)
sane_act (eat b) h s = record { eight = s.eight; within = λ p m. omega (arith, s.within p m) }
sane_act (turn first) h s = s
sane_act (turn second) h s = s
sane_act (turn (mark t)) h s = record { eight = length-set h.tags t (some h.place) ∙ s.eight; within = λ p m. by p (mem_set h.tags t (some h.place) m) }
  where
    by : (p : ℕ) → (some p ≡ some h.place) ⊎ Memᴰ (some p) h.tags → p ≤ h.place
    by p (inl e) = omega (arith, some-injective p h.place e)
    by p (inr m) = s.within p m

sane_held : (ms : List Move) (h : Held) → Sane h → Sane (held ms h)
sane_held [] h s = s
sane_held (m ∷ ms) h s = sane_held ms (act m h) (sane_act m h s)

-- "the place, the number of bytes consumed so far"
pub place_is : (ms : List Move) (h : Held) → (held ms h).place ≡ h.place + length (eaten ms)
place_is [] h = omega arith
place_is (eat b ∷ ms) h = place_is ms (act (eat b) h) ∙ omega arith
place_is (turn first ∷ ms) h = place_is ms h
place_is (turn second ∷ ms) h = place_is ms h
place_is (turn (mark t) ∷ ms) h = place_is ms (act (turn (mark t)) h)

module _ {A : Net} {w : List ℕ} {a : ℕ} {τ : List (Option ℕ)} (d : Answer A w a τ) where
  hand : Sane (held d.moves empty_handed)
  hand = sane_held d.moves empty_handed sane_empty

  pub answer_eight : length τ ≡ 8
  answer_eight = ap length (sym d.stored) ∙ hand.eight

  pub answer_within : (p : ℕ) → Memᴰ (some p) τ → p ≤ length w
  answer_within p m =
      let q = hand.within p (rw (← d.stored) at m) in
      let e = place_is d.moves empty_handed in
      omega (arith, ap length d.accepts.whole)
