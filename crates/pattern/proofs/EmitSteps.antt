-- What the writing functions leave, step by step. Assumes nothing.
use Prim.Native.Nat.{ℕ, ◌+◌, ◌≤◌, ◌<◌}
use mathlib.Core.Path.{◌≡◌, refl, sym, ap, subst, ◌∙◌}
use mathlib.Core.List.{List, [], ◌∷◌, ◌++◌}
use mathlib.Core.Bool.{true, false}
use native.Mathlib.Omega.{arith}
use Rattle.std.specs.Prelude.{Ok, Err}
use lib.ListN.{length, length-append}
use lib.Dec.{eqb}
use borrow.Author.Tests.{eq-eqb}
use Rattle.ground.specs.Lists.{Wrote}
use Rattle.ground.specs.Pick.{look}
use Rattle.ground.proofs.Lists.{each_append}
use Rattle.ground.proofs.Stores.{wrote_none}
use Rattle.net.specs.Rec.{Rec, fork}
use Rattle.net.specs.File.{rec_bytes}
use Rattle.pattern.specs.Pat.{Pat, size, start_at, compile}
use Rattle.pattern.specs.Pat.Pat.{Empty, Seq, Alt, Star, Plus, Opt}
use Rattle.pattern.specs.Reader.{Res, ok, form, deep, alts, seq, piece, atom, and_then, read, stops, repeating, repeated, closed}
use Rattle.pattern.specs.Writing.{bytes, coded, sized, Room}
use Rattle.pattern.specs.Measured.{measured}
use Rattle.pattern.specs.declared.Fault.{Fault}
use Rattle.pattern.specs.declared.reading.Sum.{Sum}
use Rattle.pattern.proofs.Laws.{alts_one, alts_more, seq_none, seq_some, piece_ok, atom_closed}
use Rattle.pattern.proofs.Steps.{inv, once}
use Rattle.pattern.proofs.Emit.{start_below}

pub bytes_append : (a b : List Rec) → bytes (a ++ b) ≡ bytes a ++ bytes b
unfolding bytes
bytes_append a b = each_append rec_bytes a b

-- refused: nothing is written
coded_refused : (r : Res) (n f : ℕ) {e : Fault} → Err e ≡ measured r → coded r n f ≡ []
unfolding measured coded
coded_refused (ok e p) n f h = cc
coded_refused (form q) n f h = refl
coded_refused (deep q) n f h = refl

pub wrote_refused : (l : List ℕ) (o n f : ℕ) (r : Res) {e : Fault} → Err e ≡ measured r → Wrote l l o o (coded r n f)
wrote_refused l o n f r h = subst (Wrote l l o o) (sym (coded_refused r n f h)) (wrote_none l o)

-- the same pattern is written the same
pub record Is (r : Res) (p : Pat) : Type 0 where
  pub end : ℕ
  pub was : r ≡ ok end p

pub coded_is : (r : Res) (p : Pat) (n f : ℕ) → Is r p → coded r n f ≡ bytes (compile p n f)
unfolding coded
coded_is r p n f x = ap (λ r. coded r n f) x.was

pub sized_is : (r : Res) (p : Pat) → Is r p → sized r ≡ size p
unfolding sized
sized_is r p x = ap sized x.was

pub coded_same : (r r' : Res) (p : Pat) (n f : ℕ) → Is r p → Is r' p → coded r n f ≡ coded r' n f
coded_same r r' p n f x y = coded_is r p n f x ∙ sym (coded_is r' p n f y)

pub room_same : (r r' : Res) (p : Pat) (n f o len : ℕ) → Is r p → Is r' p → Room r n f o len → Room r' n f o len
room_same r r' p n f o len x y m = record {
  room = subst (λ (ws : List ℕ). o + length ws ≤ len) (coded_same r r' p n f x y) m.room;
  numbers = let a = sized_is r p x in let b = sized_is r' p y in omega (arith, m.numbers);
  follow = m.follow;
}

pub wrote_same : (a b : List ℕ) (o o' : ℕ) (r r' : Res) (p : Pat) (n f : ℕ) → Is r p → Is r' p → Wrote a b o o' (coded r' n f) → Wrote a b o o' (coded r n f)
wrote_same a b o o' r r' p n f x y w = subst (Wrote a b o o') (sym (coded_same r r' p n f x y)) w

pub room_moved : (r : Res) (n f o o' len len' : ℕ) → o ≡ o' → len ≡ len' → Room r n f o len → Room r n f o' len'
room_moved r n f o o' len len' a b m = record { room = let z = m.room in omega arith; numbers = m.numbers; follow = m.follow }

-- what a piece's room leaves for its parts: two parts, the first behind a FORK perhaps
module _ (r r₁ r₂ : Res) (p q : Pat) (x₁ : Is r₁ p) (x₂ : Is r₂ q) (n f n₁ n₂ : ℕ) (s₁ : size p ≡ n₁) (s₂ : size q ≡ n₂) where
  module _ (x : Is r (Alt p q)) where
    pub alt_coded : coded r n f ≡ rec_bytes (fork (start_at n₁ (n + 1) f) (start_at n₂ (n + 1 + n₁) f)) ++ (coded r₁ (n + 1) f ++ coded r₂ (n + 1 + n₁) f)
    unfolding bytes
    alt_coded = coded_is r (Alt p q) n f x ∙
        rw (← s₁, ← s₂, coded_is r₁ p (n + 1) f x₁, coded_is r₂ q (n + 1 + size p) f x₂, bytes_append (compile p (n + 1) f) (compile q (n + 1 + size p) f))

    module _ (o len : ℕ) (m : Room r n f o len) where
      alt_length : length (coded r n f) ≡ 3 + (length (coded r₁ (n + 1) f) + length (coded r₂ (n + 1 + n₁) f))
      alt_length = let z = length-append (coded r₁ (n + 1) f) (coded r₂ (n + 1 + n₁) f) in let y = ap length alt_coded in omega arith

      alt_sized : (sized r ≡ 1 + (n₁ + n₂)) × (sized r₁ ≡ n₁) × (sized r₂ ≡ n₂)
      alt_sized = let a = sized_is r (Alt p q) x in let b = sized_is r₁ p x₁ in let c = sized_is r₂ q x₂ in (omega arith, omega arith, omega arith)

      pub alt_fork : (o + 3 ≤ len) × (start_at n₁ (n + 1) f < 256) × (start_at n₂ (n + 1 + n₁) f < 256)
      alt_fork =
          let z = alt_length in let y = alt_sized in let k = m.room in let g = m.numbers in let w = m.follow in
          (omega arith, start_below n₁ (n + 1) f 256 (omega arith) w, start_below n₂ (n + 1 + n₁) f 256 (omega arith) w)

      pub alt_first : Room r₁ (n + 1) f (o + 3) len
      alt_first = let z = alt_length in let y = alt_sized in let k = m.room in let g = m.numbers in record { room = omega arith; numbers = omega arith; follow = m.follow }

      pub alt_second : Room r₂ (n + 1 + n₁) f (o + 3 + length (coded r₁ (n + 1) f)) len
      alt_second = let z = alt_length in let y = alt_sized in let k = m.room in let g = m.numbers in record { room = omega arith; numbers = omega arith; follow = m.follow }

  module _ (x : Is r (Seq p q)) where
    pub seq_coded : coded r n f ≡ coded r₁ n (start_at n₂ (n + n₁) f) ++ coded r₂ (n + n₁) f
    seq_coded = coded_is r (Seq p q) n f x ∙
        rw (← s₁, ← s₂, coded_is r₁ p n (start_at (size q) (n + size p) f) x₁, coded_is r₂ q (n + size p) f x₂, bytes_append (compile p n (start_at (size q) (n + size p) f)) (compile q (n + size p) f))

    module _ (o len : ℕ) (m : Room r n f o len) where
      seq_length : length (coded r n f) ≡ length (coded r₁ n (start_at n₂ (n + n₁) f)) + length (coded r₂ (n + n₁) f)
      seq_length = ap length seq_coded ∙ length-append (coded r₁ n (start_at n₂ (n + n₁) f)) (coded r₂ (n + n₁) f)

      seq_sized : (sized r ≡ n₁ + n₂) × (sized r₁ ≡ n₁) × (sized r₂ ≡ n₂)
      seq_sized = let a = sized_is r (Seq p q) x in let b = sized_is r₁ p x₁ in let c = sized_is r₂ q x₂ in (omega arith, omega arith, omega arith)

      pub seq_first : Room r₁ n (start_at n₂ (n + n₁) f) o len
      seq_first =
          let z = seq_length in let y = seq_sized in let k = m.room in let g = m.numbers in
          record { room = omega arith; numbers = omega arith; follow = start_below n₂ (n + n₁) f 256 (omega arith) m.follow }

      pub seq_second : Room r₂ (n + n₁) f (o + length (coded r₁ n (start_at n₂ (n + n₁) f))) len
      seq_second = let z = seq_length in let y = seq_sized in let k = m.room in let g = m.numbers in record { room = omega arith; numbers = omega arith; follow = m.follow }

-- a FORK, then the part
module _ (r r₁ : Res) (p : Pat) (x₁ : Is r₁ p) (n f g a b : ℕ) (y : sized r ≡ sized r₁ + 1) (z : coded r n f ≡ rec_bytes (fork a b) ++ coded r₁ (n + 1) g) (o len : ℕ) (m : Room r n f o len) (h : g < 256) where
  pub fork_first : o + 3 ≤ len
  fork_first = let k = m.room in let e = ap length z in omega arith

  pub fork_then : Room r₁ (n + 1) g (o + 3) len
  fork_then = let k = m.room in let e = ap length z in let w = m.numbers in record { room = omega arith; numbers = omega arith; follow = h }

module _ (r r₁ : Res) (p : Pat) (x₁ : Is r₁ p) (n f n₁ : ℕ) (s₁ : size p ≡ n₁) where
  module _ (x : Is r (Star p)) where
    pub star_sized : sized r ≡ sized r₁ + 1
    star_sized = sized_is r (Star p) x ∙ ap (λ k. k + 1) (sym (sized_is r₁ p x₁))

    pub star_coded : coded r n f ≡ rec_bytes (fork (start_at n₁ (n + 1) n) f) ++ coded r₁ (n + 1) n
    unfolding bytes
    star_coded = coded_is r (Star p) n f x ∙ rw (← s₁, coded_is r₁ p (n + 1) n x₁)

  module _ (x : Is r (Opt p)) where
    pub opt_sized : sized r ≡ sized r₁ + 1
    opt_sized = sized_is r (Opt p) x ∙ ap (λ k. k + 1) (sym (sized_is r₁ p x₁))

    pub opt_coded : coded r n f ≡ rec_bytes (fork (start_at n₁ (n + 1) f) f) ++ coded r₁ (n + 1) f
    unfolding bytes
    opt_coded = coded_is r (Opt p) n f x ∙ rw (← s₁, coded_is r₁ p (n + 1) f x₁)

  module _ (x : Is r (Plus p)) where
    pub plus_coded : coded r n f ≡ coded r₁ n (n + n₁) ++ rec_bytes (fork (start_at n₁ n (n + n₁)) f)
    unfolding bytes
    plus_coded = coded_is r (Plus p) n f x ∙ rw (← s₁, coded_is r₁ p n (n + size p) x₁, bytes_append (compile p n (n + size p)) (fork (start_at (size p) n (n + size p)) f ∷ []))

    module _ (o len : ℕ) (m : Room r n f o len) where
      plus_sized : (sized r ≡ n₁ + 1) × (sized r₁ ≡ n₁)
      plus_sized = let a = sized_is r (Plus p) x in let b = sized_is r₁ p x₁ in (omega arith, omega arith)

      plus_length : length (coded r n f) ≡ length (coded r₁ n (n + n₁)) + 3
      plus_length = ap length plus_coded ∙ length-append (coded r₁ n (n + n₁)) (rec_bytes (fork (start_at n₁ n (n + n₁)) f))

      pub plus_first : Room r₁ n (n + n₁) o len
      plus_first = let k = m.room in let e = plus_length in let w = m.numbers in let y = plus_sized in record { room = omega arith; numbers = omega arith; follow = omega arith }

      pub plus_fork : (o + length (coded r₁ n (n + n₁)) + 3 ≤ len) × (start_at n₁ n (n + n₁) < 256) × (f < 256)
      plus_fork = let k = m.room in let e = plus_length in let w = m.numbers in let y = plus_sized in (omega arith, start_below n₁ n (n + n₁) 256 (omega arith) (omega arith), m.follow)

-- What was read, from the answers.
pub is_inv : (r : Res) {e : ℕ} {m : Sum} (q : Ok (e, m) ≡ measured r) → Is r (inv r q).pat
is_inv r {e = e} q = record { end = e; was = (inv r q).is }

module _ (s : List ℕ) (d i : ℕ) (h : i ≤ length s) where
  module _ {e : ℕ} {m : Sum} (q : Ok (e, m) ≡ measured (read s seq d i)) where
    pub alts_is_one : (look s e ≡ 124 → ⊥) → Is (read s alts d i) (inv (read s seq d i) q).pat
    alts_is_one b = let v = inv (read s seq d i) q in record { end = e; was = alts_one s d i h e v.pat v.is b }

    pub alts_is : look s e ≡ 124 → {e' : ℕ} {m' : Sum} (q' : Ok (e', m') ≡ measured (read s alts d (e + 1))) → Is (read s alts d i) (Alt (inv (read s seq d i) q).pat (inv (read s alts d (e + 1)) q').pat)
    alts_is b {e' = e'} q' =
        let v = inv (read s seq d i) q in let w = inv (read s alts d (e + 1)) q' in
        record { end = e'; was = alts_more s d i h e v.pat v.is b ∙ ap (λ r. and_then r (λ e' p. ok e' (Alt v.pat p))) w.is }

  pub seq_is_none : stops (look s i) ≡ true → Is (read s seq d i) Empty
  seq_is_none b = record { end = i; was = seq_none s d i h b }

  pub seq_is : stops (look s i) ≡ false → {e : ℕ} {m : Sum} (q : Ok (e, m) ≡ measured (read s piece d i)) {e' : ℕ} {m' : Sum} (q' : Ok (e', m') ≡ measured (read s seq d e)) → Is (read s seq d i) (Seq (inv (read s piece d i) q).pat (inv (read s seq d e) q').pat)
  seq_is b {e = e} q {e' = e'} q' =
      let v = inv (read s piece d i) q in let w = inv (read s seq d e) q' in
      record { end = e'; was = seq_some s d i h b ∙ ap (λ r. and_then r (λ e p. and_then (read s seq d e) (λ e' q. ok e' (Seq p q)))) v.is ∙ ap (λ r. and_then r (λ e' p. ok e' (Seq v.pat p))) w.is }

  module _ {e : ℕ} {m : Sum} (q : Ok (e, m) ≡ measured (read s atom d i)) where
    piece_at : (c : ℕ) → look s e ≡ c → read s piece d i ≡ repeated (eqb c 42) c e (inv (read s atom d i) q).pat
    piece_at c b = let v = inv (read s atom d i) q in piece_ok s d i h e v.pat v.is ∙ ap (λ x. repeated (eqb x 42) x e v.pat) b

    pub piece_is_star : look s e ≡ 42 → Is (read s piece d i) (Star (inv (read s atom d i) q).pat)
    piece_is_star b = record { end = e + 1; was = piece_at 42 b }

    pub piece_is_plus : look s e ≡ 43 → Is (read s piece d i) (Plus (inv (read s atom d i) q).pat)
    piece_is_plus b = record { end = e + 1; was = piece_at 43 b }

    pub piece_is_opt : look s e ≡ 63 → Is (read s piece d i) (Opt (inv (read s atom d i) q).pat)
    piece_is_opt b = record { end = e + 1; was = piece_at 63 b }

    pub piece_is_one : repeating (look s e) ≡ false → Is (read s piece d i) (inv (read s atom d i) q).pat
    piece_is_one b = let v = inv (read s atom d i) q in record { end = e; was = piece_ok s d i h e v.pat v.is ∙ once (look s e) e v.pat b }

  pub atom_is : look s i ≡ 40 → (d ≡ 16 → ⊥) → {e : ℕ} {m : Sum} (q : Ok (e, m) ≡ measured (read s alts (d + 1) (i + 1))) → look s e ≡ 41 → Is (read s atom d i) (inv (read s alts (d + 1) (i + 1)) q).pat
  atom_is o g {e = e} q b = let v = inv (read s alts (d + 1) (i + 1)) q in record { end = e + 1; was = atom_closed s d i h e v.pat o g v.is ∙ ap (λ x. closed x e v.pat) (eq-eqb _ _ b) }

-- nothing is written for what is empty
pub wrote_empty : (l : List ℕ) (o n f : ℕ) (r : Res) → Is r Empty → Wrote l l o o (coded r n f)
unfolding bytes
wrote_empty l o n f r x = subst (Wrote l l o o) (sym (coded_is r Empty n f x)) (wrote_none l o)

-- the parts written are the whole written
pub wrote_whole : (a b : List ℕ) (o o' : ℕ) (v w : List ℕ) → v ≡ w → Wrote a b o o' w → Wrote a b o o' v
wrote_whole a b o o' v w e x = subst (Wrote a b o o') (sym e) x

pub forked : (a b : List ℕ) (o o' x x' y y' : ℕ) → x ≡ x' → y ≡ y' → Wrote a b o o' (rec_bytes (fork x y)) → Wrote a b o o' (rec_bytes (fork x' y'))
forked a b o o' x x' y y' e g w = subst (λ (k : ℕ). Wrote a b o o' (rec_bytes (fork k y'))) e (subst (λ (k : ℕ). Wrote a b o o' (rec_bytes (fork x k))) g w)

pub below : (x y m : ℕ) → x ≡ y → y < m → x < m
below x y m e h = omega arith

pub sized_of : (r : Res) {e : ℕ} {m : Sum} (q : Ok (e, m) ≡ measured r) → size (inv r q).pat ≡ m.size
sized_of r q = ap (λ k. k.size) (inv r q).summed
