-- Rows joined one byte after another. Assumes nothing.
use mathlib.Core.Path.{◌≡◌, refl, sym, ap, ◌∙◌, subst}
use mathlib.Core.Bool.{Bool, true, false, ◌&&◌, cond}
use mathlib.Core.List.{List, [], ◌∷◌, map, append-nil}
use Prim.Native.Nat.{ℕ, suc, ◌+◌, ◌*◌, ◌-◌, ◌≤◌, ◌<◌}
use native.Mathlib.Omega.{arith}
use lib.Dec.{eqb, eqb→eq, eqb_refl}
use borrow.Author.Tests.{eq-eqb}
use Rattle.ground.specs.Lists.{each}
use Rattle.net.specs.Rec.{Net}
use Rattle.paths.specs.Registers.{next, origins}
use Rattle.std.proofs.lemmas.Bool.{and_parts}
use Rattle.paths.specs.Equal.{same_list, same_situation}
use Rattle.paths.proofs.Member.{T_of, of_T}
use Rattle.card.specs.Table.{Cmd, move, put, Row, row_bytes}
use Rattle.explore.specs.Lists.{span, position}
use Rattle.build.specs.Card.{State, need, commands, byte_row, same_cmd, alike, both, ahead, joined}
use Rattle.build.specs.Orders.{orders_of}
use Rattle.build.specs.Writing.{row_of, alike_deeds, Does, Writes, GoesOn, rows_bytes}
use Rattle.build.specs.declared.Deed.{Deed}
use Rattle.build.specs.declared.Open.{Open}
use Rattle.build.specs.declared.Pen.{Pen}
use Rattle.ground.proofs.Stores.{wrote_none}
use Rattle.build.proofs.Writing.{Left, left_all, left_on, left_last, writes_as}

-- ---- equal commands, as a test

cmd_eq : (c d : Cmd) → same_cmd c d ≡ true → c ≡ d
cmd_eq (move a b) (move c d) e =
    let p = and_parts (eqb a c) (eqb b d) e in
    let x = eqb→eq a c (T_of p.0) in
    let y = eqb→eq b d (T_of p.1) in
    λ i. move (x i) (y i)
cmd_eq (move a b) (put c) e = cc
cmd_eq (put a) (move c d) e = cc
cmd_eq (put a) (put c) e = ap put (eqb→eq a c (T_of e))

cmd_refl : (c : Cmd) → same_cmd c c ≡ true
cmd_refl (move a b) = rw (of_T (eqb a a) (eqb_refl a), of_T (eqb b b) (eqb_refl b))
cmd_refl (put a) = of_T (eqb a a) (eqb_refl a)

cmds_eq : (l k : List Cmd) → same_list same_cmd l k ≡ true → l ≡ k
cmds_eq [] [] e = refl
cmds_eq [] (y ∷ k) e = cc
cmds_eq (x ∷ l) [] e = cc
cmds_eq (x ∷ l) (y ∷ k) e =
    let a = and_parts (same_cmd x y) (same_list same_cmd l k) e in
    let p = cmd_eq x y a.0 in
    let q = cmds_eq l k a.1 in
    λ i. p i ∷ q i

cmds_refl : (l : List Cmd) → same_list same_cmd l l ≡ true
cmds_refl [] = refl
cmds_refl (x ∷ l) = rw (cmd_refl x, cmds_refl l)

-- ---- rows with equal next and commands

module _ (p q : Row) where
  pub ahead_joins : p.next ≡ q.next → p.cmds ≡ q.cmds → (X : List Row) → ahead p (ahead q X) ≡ ahead (both p q) X
  ahead_joins e f X = by X
    where
      same : alike p q ≡ true
      same = rw (eq-eqb p.next q.next e, ← f, cmds_refl p.cmds)

      alike_as : (x : Row) → alike p x ≡ alike q x
      alike_as x = λ i. eqb (e i) x.next && same_list same_cmd (f i) x.cmds

      on : (x : Row) (l : List Row) (c : Bool) → alike q x ≡ c → ahead p (cond c (both q x ∷ l) (q ∷ x ∷ l)) ≡ cond (alike p x) (both (both p q) x ∷ l) (both p q ∷ x ∷ l)
      on x l true h = rw (same, alike_as x ∙ h)
      on x l false h = rw (same, alike_as x ∙ h)

      by : (X : List Row) → ahead p (ahead q X) ≡ ahead (both p q) X
      by [] = rw same
      by (x ∷ l) = on x l (alike q x) refl

  pub ahead_parts : alike p q ≡ false → (X : List Row) → ahead p (ahead q X) ≡ p ∷ ahead q X
  ahead_parts h [] = rw h
  ahead_parts h (x ∷ l) = on (alike q x)
    where
      on : (c : Bool) → ahead p (cond c (both q x ∷ l) (q ∷ x ∷ l)) ≡ p ∷ cond c (both q x ∷ l) (q ∷ x ∷ l)
      on true = rw h
      on false = rw h

-- ---- the rows from byte b on

span_cons : (b n m : ℕ) → n ≡ suc m → span b n ≡ b ∷ span (b + 1) m
unfolding span
span_cons b n m e = ap (span b) e

module _ (f : ℕ → Row) where
  pub rows_cons : (b : ℕ) → b < 256 → joined (map f (span b (256 - b))) ≡ ahead (f b) (joined (map f (span (b + 1) (256 - (b + 1)))))
  unfolding joined
  rows_cons b h = let e : 256 - b ≡ suc (256 - (b + 1)) = omega arith in ap (λ v. joined (map f v)) (span_cons b (256 - b) (256 - (b + 1)) e)

  pub rows_none : (b : ℕ) → 256 ≤ b → joined (map f (span b (256 - b))) ≡ []
  unfolding joined span
  rows_none b h = let e : 256 - b ≡ 0 = omega arith in ap (λ v. joined (map f (span b v))) e

-- ---- one byte

module _ (A : Net) (S : List State) (s : State) where
  -- the row of a byte is that of its deed
  row_is : (b : ℕ) (d : Deed) → Does A S s b d → byte_row A S s b ≡ row_of b b d
  row_is b d h = let p = sym h.next in let q = sym h.cmds in λ i. record { lo = b; hi = b; next = p i; cmds = q i }

  -- the deed of the byte before serves
  same_deed : (b : ℕ) (d e : Deed) → Does A S s b e → d.next ≡ e.next → orders_of d.orders ≡ orders_of e.orders → Does A S s b d
  same_deed b d e h p q = record { next = p ∙ h.next; cmds = q ∙ h.cmds }

  module _ (p : Pen) (q : Open) (b : ℕ) (pos : 0 < b) (was : Does A S s (b - 1) q.deed) where
    kept : Does A S s b q.deed → GoesOn A S s p p q b q
    kept h =
        record {
          does = h;
          within = omega arith;
          wrote = [];
          out = record { same = refl; wrote = wrote_none p.out.now p.at };
          rest = λ X. ap (each row_bytes) (ap (λ v. ahead (row_of q.lo (b - 1) q.deed) (ahead v X)) (row_is b q.deed h) ∙ ahead_joins (row_of q.lo (b - 1) q.deed) (row_of b b q.deed) refl refl X);
        }

    -- a byte that every record treats as the byte before
    pub skipped_byte : next A b s ≡ next A (b - 1) s → origins A b s ≡ origins A (b - 1) s → GoesOn A S s p p q b q
    skipped_byte e f =
        kept (record {
          next = was.next ∙ ap (λ v. position same_situation v S) (sym e);
          cmds = was.cmds ∙ ap (commands (need s) 0) (sym f);
        })

    module _ (d : Deed) (h : Does A S s b d) where
      pub joins : alike_deeds q.deed d ≡ true → GoesOn A S s p p q b q
      joins e =
          let a = and_parts (eqb q.deed.next d.next) (same_list same_cmd (orders_of q.deed.orders) (orders_of d.orders)) e in
          kept (same_deed b q.deed d h (eqb→eq q.deed.next d.next (T_of a.0)) (cmds_eq (orders_of q.deed.orders) (orders_of d.orders) a.1))

      pub parts : alike_deeds q.deed d ≡ false → (p' : Pen) → Writes p p' (row_bytes (row_of q.lo (b - 1) q.deed)) → p'.at ≤ p.at + 196 → GoesOn A S s p p' q b (record { lo = b; deed = d })
      parts e p' w m =
          record {
            does = h;
            within = m;
            wrote = row_bytes (row_of q.lo (b - 1) q.deed);
            out = w;
            rest = λ X. ap (each row_bytes) (ap (λ v. ahead (row_of q.lo (b - 1) q.deed) (ahead v X)) (row_is b d h) ∙ ahead_parts (row_of q.lo (b - 1) q.deed) (row_of b b d) e X);
          }

  -- ---- the loop over the bytes

  -- what is left to write before byte b, with the open row q
  abbrev pub rest_rows : Open → ℕ → List ℕ
  rest_rows q b = each row_bytes (ahead (row_of q.lo (b - 1) q.deed) (joined (map (byte_row A S s) (span b (256 - b)))))

  -- what the loop over the bytes keeps, before byte b
  pub record Rows (p₀ p : Pen) (q : Open) (b : ℕ) : Type 0 where
    pub within : p.at + 196 ≤ p₀.at + 196 * b
    pub does : Does A S s (b - 1) q.deed
    pub left : Left p₀ (rows_bytes A S s) p (rest_rows q b)

  pub rows_start : (p : Pen) (d : Deed) → Does A S s 0 d → Rows p p (record { lo = 0; deed = d }) 1
  unfolding rows_bytes
  rows_start p d h =
      let all = each row_bytes (joined (map (byte_row A S s) (span 0 256))) in
      let e : rest_rows (record { lo = 0; deed = d }) 1 ≡ all = sym (ap (each row_bytes) (rows_cons (byte_row A S s) 0 (omega arith) ∙ ap (λ v. ahead v (joined (map (byte_row A S s) (span 1 255)))) (row_is 0 d h))) in
      record { within = omega arith; does = h; left = subst (Left p all p) (sym e) (left_all p all) }

  module _ {p₀ p : Pen} {q : Open} {b : ℕ} (h : Rows p₀ p q b) where
    pub rows_on : b < 256 → {p' : Pen} {a : Open} → GoesOn A S s p p' q b a → Rows p₀ p' a (b + 1)
    rows_on c {p'} {a} g =
        let z : b + 1 - 1 ≡ b = omega arith in
        let X = joined (map (byte_row A S s) (span (b + 1) (256 - (b + 1)))) in
        record {
          within = omega (arith, h.within, g.within);
          does = subst (λ v. Does A S s v a.deed) (sym z) g.does;
          left =
              subst (λ v. Left p₀ (rows_bytes A S s) p' (each row_bytes (ahead (row_of a.lo v a.deed) X))) (sym z)
              (left_on h.left (ap (λ v. each row_bytes (ahead (row_of q.lo (b - 1) q.deed) v)) (rows_cons (byte_row A S s) b c) ∙ g.rest X) g.out);
        }

    pub rows_end : b ≡ 256 → {p' : Pen} → Writes p p' (row_bytes (row_of q.lo 255 q.deed)) → Writes p₀ p' (rows_bytes A S s)
    rows_end e w =
        let z : 255 ≡ b - 1 = omega arith in
        let n = sym (rows_none (byte_row A S s) b (omega arith)) in
        left_last h.left
        (writes_as w (sym (append-nil (row_bytes (row_of q.lo 255 q.deed))) ∙ (λ i. each row_bytes (ahead (row_of q.lo (z i) q.deed) (n i)))))
