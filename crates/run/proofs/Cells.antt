-- A bank of more cells than the 64 registers: what a list of commands does to the registers it does to them alone. Assumes nothing.
use Prim.Native.Nat.{ℕ, zero, suc, ◌+◌, ◌<◌, ◌≤◌}
use native.Mathlib.Omega.{arith}
use mathlib.Core.Path.{◌≡◌, refl, sym, ap, ◌∙◌}
use mathlib.Core.Logic.{◌⊎◌, inl, inr}
use mathlib.Core.List.{List, [], ◌∷◌}
use lib.ListN.{length, set, take, length-take, length-set}
use lib.Seq.{get_or-take, take-set-lt, take-set-le, set_out}
use lib.IntN.{ℤ, pos}
use Rattle.ground.proofs.Tests.{lt_or_le}
use Rattle.card.specs.Table.{Cmd, move, put}
use Rattle.card.specs.Run.{Bank, reg}
use Rattle.card.specs.Decode.{cmd_at, before, cmds_n, cmds_at}
use Rattle.card.specs.declared.Order.{Order}
use Rattle.card.specs.declared.Order.TheVariants.{Move, Put, Stop}
use Rattle.card.proofs.Laws.{move_facts}
use Rattle.run.specs.Carry.{carry}

-- ---- lists whose sources are registers

abbrev pub Sources : List Cmd → Type 0
Sources [] = Unit {0}
Sources (move t f ∷ l) = (f < 64) × Sources l
Sources (put t ∷ l) = Sources l

sources_before : (s : List ℕ) (at : ℕ) (k : ℕ → List Cmd) → ((d : ℕ) → Sources (k d)) → (o : Order) → cmd_at s at ≡ o → Sources (before o k)
sources_before s at k h (Move t f) e = ((move_facts s at t f e).1, h 3)
sources_before s at k h (Put t) e = h 2
sources_before s at k h Stop e = tt

sources_n : (n : ℕ) (s : List ℕ) (at : ℕ) → Sources (cmds_n n s at)
unfolding cmds_n
sources_n zero s at = tt
sources_n (suc n) s at = sources_before s at (λ (d : ℕ). cmds_n n s (at + d)) (λ d. sources_n n s (at + d)) (cmd_at s at) refl

-- the list at any place is one
pub sources_at : (s : List ℕ) (at : ℕ) → Sources (cmds_at s at)
unfolding cmds_at
sources_at s at = sources_n (length s) s at

-- such a list reads the registers alone
pub carry_kept : (l : List Cmd) → Sources l → (p : ℕ) (old cur : Bank) → carry l p (take 64 old) cur ≡ carry l p old cur
unfolding carry
carry_kept [] h p old cur = refl
carry_kept (move t f ∷ l) h p old cur =
    ap (λ (x : ℤ). carry l p (take 64 old) (set cur t x)) (get_or-take 64 old f (pos 0) h.0)
    ∙ carry_kept l h.1 p old (set cur t (reg old f))
carry_kept (put t ∷ l) h p old cur = carry_kept l h p old (set cur t (pos p))

pub carry_registers : (s : List ℕ) (at p : ℕ) (old cur : Bank) → carry (cmds_at s at) p (take 64 old) cur ≡ carry (cmds_at s at) p old cur
carry_registers s at p old cur = carry_kept (cmds_at s at) (sources_at s at) p old cur

-- ---- the registers after a store, and after a list

module _ (b : Bank) (t : ℕ) (x : ℤ) where
  pub regs_set_low : t < 64 → take 64 (set b t x) ≡ set (take 64 b) t x
  regs_set_low h = take-set-lt 64 b t x h

  pub regs_set_high : 64 ≤ t → take 64 (set b t x) ≡ take 64 b
  regs_set_high h = take-set-le 64 b t x h

  pub regs_set : take 64 (set b t x) ≡ set (take 64 b) t x
  regs_set = by (lt_or_le t 64)
    where
      by : (t < 64) ⊎ (64 ≤ t) → take 64 (set b t x) ≡ set (take 64 b) t x
      by (inl h) = regs_set_low h
      by (inr h) = regs_set_high h ∙ sym (set_out (take 64 b) t x (let n = length-take 64 b in omega arith))

pub regs_carry : (l : List Cmd) → Sources l → (p : ℕ) (old cur : Bank) → take 64 (carry l p old cur) ≡ carry l p (take 64 old) (take 64 cur)
unfolding carry
regs_carry [] h p old cur = refl
regs_carry (move t f ∷ l) h p old cur =
    regs_carry l h.1 p old (set cur t (reg old f))
    ∙ ap (carry l p (take 64 old)) (regs_set cur t (reg old f)
    ∙ ap (set (take 64 cur) t) (sym (get_or-take 64 old f (pos 0) h.0)))
regs_carry (put t ∷ l) h p old cur =
    regs_carry l h p old (set cur t (pos p)) ∙ ap (carry l p (take 64 old)) (regs_set cur t (pos p))

-- no list makes a bank longer or shorter
pub length_carry : (l : List Cmd) (p : ℕ) (old cur : Bank) → length (carry l p old cur) ≡ length cur
unfolding carry
length_carry [] p old cur = refl
length_carry (move t f ∷ l) p old cur = length_carry l p old (set cur t (reg old f)) ∙ length-set cur t (reg old f)
length_carry (put t ∷ l) p old cur = length_carry l p old (set cur t (pos p)) ∙ length-set cur t (pos p)
