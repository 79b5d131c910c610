-- The first END of a situation of a net that fits: its answer is below 255, it has eight tags, none past the HEAD's count, and its registers are
-- among those that the situation needs. Assumes nothing.
use mathlib.Core.Path.{◌≡◌, refl, sym, ap, ◌∙◌, subst}
use mathlib.Core.List.{List, [], ◌∷◌, Memᴰ}
use mathlib.Core.Option.{Option, none, some, some-injective}
use Prim.Native.Nat.{ℕ, zero, suc, ◌≤◌, ◌<◌}
use native.Mathlib.Omega.{arith}
use lib.ListN.{length, get_or, replicate, length-set}
use lib.Seq.{get_or-set_other}
use Rattle.net.specs.Rec.{Rec, range, mask, fork, tag, end, Net, rec}
use Rattle.net.specs.File as file
use Rattle.net.specs.File.{Legal}
use Rattle.ground.specs.Lists.{Every}
use Rattle.ground.proofs.Members.{each_has}
use Rattle.paths.specs.Ways.{Move, Step, by_range, by_mask, by_first, by_second, by_tag, Way, stay, go, Held, empty_handed, act, held, Answer}
use Rattle.paths.specs.Search.{Thread}
use Rattle.paths.specs.Situation.{ending, first_end}
use Rattle.paths.specs.Registers.{Tags, Key, holds, renamed}
use Rattle.paths.proofs.Laws.{run_answer}
use Rattle.build.specs.Card.{State, states, need}
use Rattle.built.specs.Fits.{Fits}
use Rattle.built.proofs.States.{state_of}
use Rattle.built.proofs.Commands.{Sound, sound}

-- ---- records of a legal net

abbrev Mild : ℕ → Rec → Type 0
Mild tags (range lo hi n) = Unit {0}
Mild tags (mask bits n) = Unit {0}
Mild tags (fork x y) = Unit {0}
Mild tags (tag t n) = t < tags
Mild tags (end a) = a ≤ 254

fits_mild : (tags count : ℕ) (k : Rec) → file.Fits tags count k → Mild tags k
fits_mild tags count (range lo hi n) h = tt
fits_mild tags count (mask bits n) h = tt
fits_mild tags count (fork x y) h = tt
fits_mild tags count (tag t n) h = h.0
fits_mild tags count (end a) h = h

mild_at : (tags count : ℕ) (A : Net) → Every (file.Fits tags count) A → (r : ℕ) → Mild tags (rec A r)
mild_at tags count [] h r = tt
mild_at tags count (k ∷ A) h zero = fits_mild tags count k h.0
mild_at tags count (k ∷ A) h (suc r) = mild_at tags count A h.1 r

-- ---- what a path holds

-- eight tags, none past the HEAD's count
pub record Eight (tags : ℕ) (τ : Tags) : Type 0 where
  pub size : length τ ≡ 8
  pub past : (t : ℕ) → tags ≤ t → get_or τ t none ≡ none

all_none : (n t : ℕ) → ◌≡◌ {A = Option ℕ} (get_or (replicate n none) t none) none
all_none zero t = refl
all_none (suc n) zero = refl
all_none (suc n) (suc t) = all_none n t

module _ {tags : ℕ} {A : Net} (legal : Legal tags A) where
  step_eight : {r n : ℕ} {m : Move} → Step A r m n → (h : Held) → Eight tags h.tags → Eight tags (act m h).tags
  step_eight (by_range e a b) h k = k
  step_eight (by_mask e a) h k = k
  step_eight (by_first e) h k = k
  step_eight (by_second e) h k = k
  step_eight {r} (by_tag {t} e) h k =
      let l : t < tags = subst (Mild tags) e (mild_at tags (length A) A legal.fits r) in
      record { size = length-set h.tags t (some h.place) ∙ k.size; past = λ u g. get_or-set_other h.tags t u (some h.place) none (omega arith) ∙ k.past u g }

  way_eight : {r last : ℕ} {ms : List Move} → Way A r ms last → (h : Held) → Eight tags h.tags → Eight tags (held ms h).tags
  way_eight stay h k = k
  way_eight (go {m = m} s p) h k = way_eight p (act m h) (step_eight s h k)

  answer_eight : {w : List ℕ} {e : ℕ} {τ : Tags} → Answer A w e τ → Eight tags τ
  answer_eight a = subst (Eight tags) a.stored (way_eight a.accepts.path empty_handed (record { size = refl; past = λ t _. all_none 8 t }))

  answer_small : {w : List ℕ} {e : ℕ} {τ : Tags} → Answer A w e τ → e ≤ 254
  answer_small a = subst (Mild tags) a.accepts.at_end (mild_at tags (length A) A legal.fits a.accepts.last)

-- ---- back from the places to the registers

renamed_length : (σ : ℕ → ℕ → ℕ) (t : ℕ) (τ : Tags) → length (renamed σ t τ) ≡ length τ
renamed_length σ t [] = refl
renamed_length σ t (none ∷ τ) = ap suc (renamed_length σ (suc t) τ)
renamed_length σ t (some p ∷ τ) = ap suc (renamed_length σ (suc t) τ)

renamed_none : (σ : ℕ → ℕ → ℕ) (t : ℕ) (τ : Tags) (u : ℕ) → get_or (renamed σ t τ) u none ≡ none → get_or τ u none ≡ none
renamed_none σ t [] u e = refl
renamed_none σ t (none ∷ τ) zero e = refl
renamed_none σ t (some p ∷ τ) zero e = let z : ◌≡◌ {A = ℕ} 0 1 = cc in absurd (omega arith)
renamed_none σ t (none ∷ τ) (suc u) e = renamed_none σ (suc t) τ u e
renamed_none σ t (some p ∷ τ) (suc u) e = renamed_none σ (suc t) τ u e

renamed_eight : {tags : ℕ} (σ : ℕ → ℕ → ℕ) (τ : Tags) → Eight tags (renamed σ 0 τ) → Eight tags τ
renamed_eight σ τ h = record { size = sym (renamed_length σ 0 τ) ∙ h.size; past = λ t g. renamed_none σ 0 τ t (h.past t g) }

-- ---- its registers are held by the situation

end_in : (A : Net) (l : State) (e : ℕ) (τ : Tags) → first_end A l ≡ some (e, τ) → (s : Thread Tags) × Memᴰ s l × (s.had ≡ τ)
end_in A [] e τ p = let z : ◌≡◌ {A = ℕ} 0 1 = cc in absurd (omega arith)
end_in A (s ∷ l) e τ p = by (λ q. end_in A l e τ q) (rec A s.on) p
  where
    later : (t : Thread Tags) × Memᴰ t l × (t.had ≡ τ) → (t : Thread Tags) × Memᴰ t (s ∷ l) × (t.had ≡ τ)
    later r = (r.0, Memᴰ.tail r.1, r.2)

    by : (first_end A l ≡ some (e, τ) → (t : Thread Tags) × Memᴰ t l × (t.had ≡ τ)) → (k : Rec) → ending k s.had (first_end A l) ≡ some (e, τ)
        → (t : Thread Tags) × Memᴰ t (s ∷ l) × (t.had ≡ τ)
    by ih (range lo hi n) q = later (ih q)
    by ih (mask bits n) q = later (ih q)
    by ih (fork x y) q = later (ih q)
    by ih (tag t n) q = later (ih q)
    by ih (end a) q = (s, Memᴰ.head refl, ap (λ v. v.1) (some-injective (a, s.had) (e, τ) q))

holds_at : (k : ℕ) (τ : Tags) (t r : ℕ) → get_or τ t none ≡ some r → (j : Key) × Memᴰ j (holds k τ) × (j.1 ≡ r)
holds_at k [] t r e = let z : ◌≡◌ {A = ℕ} 0 1 = cc in absurd (omega arith)
holds_at k (none ∷ τ) zero r e = let z : ◌≡◌ {A = ℕ} 0 1 = cc in absurd (omega arith)
holds_at k (some p ∷ τ) zero r e = ((k, p), Memᴰ.head refl, some-injective p r e)
holds_at k (none ∷ τ) (suc t) r e = holds_at (suc k) τ t r e
holds_at k (some p ∷ τ) (suc t) r e = let c = holds_at (suc k) τ t r e in (c.0, Memᴰ.tail c.1, c.2)

end_register : (A : Net) (s : State) → Sound s → (e : ℕ) (τ : Tags) → first_end A s ≡ some (e, τ) → (t r : ℕ) → get_or τ t none ≡ some r → r < need s
end_register A s h e τ p t r q =
    let c = end_in A s e τ p in
    let d = holds_at 0 c.0.had t r (ap (λ v. get_or v t none) c.2 ∙ q) in
    subst (λ v. v < need s) d.2 (h d.0 (each_has (λ s. holds 0 s.had) c.1 d.1))

-- ---- THE END

pub state_sound : (A : Net) (s : State) → Memᴰ s (states A) → Sound s
state_sound A s m = let r = state_of A s m in subst Sound r.2 (sound A r.0)

pub record Ended (tags : ℕ) (s : State) (e : ℕ) (τ : Tags) : Type 0 where
  pub small : e ≤ 254
  pub eight : Eight tags τ
  pub below : (t r : ℕ) → get_or τ t none ≡ some r → r < need s

pub ended : {tags : ℕ} {A : Net} → Fits tags A → (s : State) → Memᴰ s (states A) → (e : ℕ) (τ : Tags) → first_end A s ≡ some (e, τ) → Ended tags s e τ
ended {A = A} fits s m e τ p =
    let r = state_of A s m in
    let a = run_answer A r.0 e τ (ap (λ v. first_end A v) r.2 ∙ p) in
    record { small = answer_small fits.legal a; eight = renamed_eight _ τ (answer_eight fits.legal a); below = end_register A s (state_sound A s m) e τ p }
