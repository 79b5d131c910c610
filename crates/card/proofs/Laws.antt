-- Laws of the commands at a place. Assumes nothing.
use Prim.Native.Nat.{ℕ, zero, suc, ◌+◌, ◌-◌, ◌<◌, ◌≤◌}
use native.Mathlib.Omega.{arith}
use mathlib.Core.Path.{◌≡◌, refl, sym, ap, ◌∙◌, subst}
use mathlib.Core.Bool.{Bool, true, false}
use mathlib.Core.List.{List, ◌∷◌}
use lib.ListN.{length}
use lib.Dec.{ltb, leb}
use borrow.Author.Tests.{ltb-false, leb-false, le-leb}
use Rattle.card.specs.Table.{Cmd, move, put}
use Rattle.card.specs.declared.Order.{Order}
use Rattle.card.specs.declared.Order.TheVariants.{Move, Put, Stop}
use Rattle.ground.specs.Pick.{pick}
use Rattle.card.specs.Decode.{cmd_at, before, cmds_n, cmds_at}

-- ---- what a command that was read says of the bytes

Sound : List ℕ → ℕ → Order → Type 0
Sound s at (Move t f) = (t < 64) × (f < 64) × (at + 3 ≤ length s)
Sound s at (Put t) = (t < 64) × (at + 2 ≤ length s)
Sound s at Stop = Unit {0}

by_test : (s : List ℕ) (at : ℕ) (b : Bool) (x y : Order) → (b ≡ true → Sound s at x) → (b ≡ false → Sound s at y) → Sound s at (pick b x y)
unfolding pick
by_test s at true x y f g = f refl
by_test s at false x y f g = g refl

stop_sound : (s : List ℕ) (at : ℕ) → Sound s at Stop
unfolding Sound
stop_sound s at = tt

move_sound : (s : List ℕ) (at t f : ℕ) → leb (length s) at ≡ false → ltb (length s - at) 3 ≡ false → leb 64 t ≡ false → leb 64 f ≡ false → Sound s at (Move t f)
unfolding Sound
move_sound s at t f a b c d =
    let a' = leb-false (length s) at a in
    let b' = ltb-false (length s - at) 3 b in
    (leb-false 64 t c, leb-false 64 f d, omega arith)

put_sound : (s : List ℕ) (at t : ℕ) → leb (length s) at ≡ false → ltb (length s - at) 2 ≡ false → leb 64 t ≡ false → Sound s at (Put t)
unfolding Sound
put_sound s at t a b c =
    let a' = leb-false (length s) at a in
    let b' = ltb-false (length s - at) 2 b in
    (leb-false 64 t c, omega arith)

sound : (s : List ℕ) (at : ℕ) → Sound s at (cmd_at s at)
unfolding cmd_at
sound s at =
    by_test s at _ _ _ (λ _. stop_sound s at) (λ a.
    by_test s at _ _ _
    (λ _. by_test s at _ _ _ (λ _. stop_sound s at) (λ b. by_test s at _ _ _ (λ _. stop_sound s at) (λ c. by_test s at _ _ _ (λ _. stop_sound s at) (λ d.
    move_sound s at _ _ a b c d))))
    (λ _. by_test s at _ _ _
    (λ _. by_test s at _ _ _ (λ _. stop_sound s at) (λ b. by_test s at _ _ _ (λ _. stop_sound s at) (λ c. put_sound s at _ a b c)))
    (λ _. stop_sound s at)))

pub move_facts : (s : List ℕ) (at t f : ℕ) → cmd_at s at ≡ Move t f → (t < 64) × (f < 64) × (at + 3 ≤ length s)
unfolding Sound
move_facts s at t f e = subst (Sound s at) e (sound s at)

pub put_facts : (s : List ℕ) (at t : ℕ) → cmd_at s at ≡ Put t → (t < 64) × (at + 2 ≤ length s)
unfolding Sound
put_facts s at t e = subst (Sound s at) e (sound s at)

-- ---- the list at a place

pub at_end : (s : List ℕ) (at : ℕ) → length s ≤ at → cmd_at s at ≡ Stop
unfolding pick cmd_at
at_end s at l = simp (le-leb _ _ l)

before_ext : (o : Order) (f g : ℕ → List Cmd) → ((d : ℕ) → 0 < d → f d ≡ g d) → before o f ≡ before o g
before_ext (Move t s) f g h = ap (λ (l : List Cmd). move t s ∷ l) (h 3 (omega arith))
before_ext (Put t) f g h = ap (λ (l : List Cmd). put t ∷ l) (h 2 (omega arith))
before_ext Stop f g h = refl

-- more than enough is as good as enough
fuel : (s : List ℕ) (n m at : ℕ) → length s ≤ at + n → length s ≤ at + m → cmds_n n s at ≡ cmds_n m s at
unfolding cmds_n
fuel s zero zero at a b = refl
fuel s zero (suc m) at a b = sym (ap (λ (o : Order). before o (λ (d : ℕ). cmds_n m s (at + d))) (at_end s at (omega arith)))
fuel s (suc n) zero at a b = ap (λ (o : Order). before o (λ (d : ℕ). cmds_n n s (at + d))) (at_end s at (omega arith))
fuel s (suc n) (suc m) at a b = before_ext (cmd_at s at) _ _ (λ d p. fuel s n m (at + d) (omega arith) (omega arith))

pub cmds_step : (s : List ℕ) (at : ℕ) (o : Order) → cmd_at s at ≡ o → cmds_at s at ≡ before o (λ (d : ℕ). cmds_at s (at + d))
unfolding cmds_at cmds_n
cmds_step s at o e =
    fuel s (length s) (suc (length s)) at (omega arith) (omega arith)
    ∙ ap (λ (x : Order). before x (λ (d : ℕ). cmds_n (length s) s (at + d))) e
