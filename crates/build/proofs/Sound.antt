-- What holds of a file whose situations are all found. Assumes nothing.
use Rattle.std.proofs.Common.{◌≡◌, ℕ, ◌+◌, ◌≤◌, ◌<◌, List, [], length, get_or, sym, ap, ◌∙◌, subst, arith}
use Rattle.net.specs.Rec.{Net}
use Rattle.paths.specs.Registers.{registers, situation}
use Rattle.paths.specs.Limits.{first, Closes}
use Rattle.paths.proofs.Limits.{numbered_zero, closed_numbered}
use Rattle.explore.specs.Slots.{slot, slots, Loaded, Fit}
use Rattle.explore.specs.Explore.{Holds, Kept}
use Rattle.explore.proofs.Exploration.{slots_at, loaded, holds_fit}
use Rattle.explore.proofs.Closed.{closed}
use Rattle.build.specs.Writing.{Closed, net_in, all_in, Explored, Sound, Stands}
use Rattle.build.specs.declared.Found.{Found}

module _ (A : Net) {N : ℕ} {w : List ℕ} {n : ℕ} (x : Explored A N w n) where
  kept : Kept N w n
  kept = x.0

  as_first : slots w 0 n ≡ first A n
  as_first = x.1.0

  whole : length (first A n) ≡ n
  whole = x.1.1

  slot_is : (i : ℕ) → i < n → get_or (first A n) i [] ≡ slot w i
  slot_is i b = let z : 0 + i ≡ i = omega arith in ap (λ v. get_or v i []) (sym as_first) ∙ slots_at w 0 n i [] b ∙ ap (slot w) z

  zeroth : (0 < length (first A n)) × (get_or (first A n) 0 [] ≡ situation A [])
  zeroth = closed_numbered A n (omega (arith, whole)) (numbered_zero A)

  pub some : 0 < n
  some = omega (arith, zeroth.0, whole)

  pub start : slot w 0 ≡ situation A []
  start = sym (slot_is 0 some) ∙ zeroth.1

  pub closes : Closes A n
  closes = record { whole = whole; few = kept.most; small = λ j b. subst (λ v. length (registers v) ≤ 64) (sym (slot_is j b)) (kept.holds j b).small }

  leads : (i b : ℕ) → i < n → b < 256 → Closed A (slots w 0 n) (slot w i) b
  leads i b c d =
      subst (λ v. Closed A v (slot w i) b) (sym as_first)
      (subst (λ v. Closed A (first A n) v b) (slot_is i c) (closed A n whole i b c d))

-- situation i in a list of its own
module _ {f : Found} (h : Sound f) {i : ℕ} (b : i < f.count) {s : List ℕ} (e : Loaded f.work.now i s) where
  one : (slot s 0 ≡ slot f.work.now i) × Holds (length f.offs.now) s 0
  one = loaded (length f.offs.now) f.work.now i s (h.explored.0.holds i b) e

  pub same : slot s 0 ≡ slot f.work.now i
  same = one.0

  pub fits : Fit (length f.offs.now) s
  fits = holds_fit (length f.offs.now) s e.size one.1

  pub stands : Stands f s
  stands = record { holds = one.1; leads = λ c d. subst (λ v. Closed (net_in f) (all_in f) v c) (sym same) (leads (net_in f) h.explored i c b d) }
