-- The form pass takes a file exactly if a formed table is written as it. Assumes nothing.
use Prim.Native.Nat.{ℕ, ◌<◌, ◌≤◌}
use native.Mathlib.Omega.{arith}
use mathlib.Core.Path.{◌≡◌, refl, sym, ap, ◌∙◌, subst}
use mathlib.Core.Bool.{Bool, true, false}
use mathlib.Core.List.{List, [], ◌∷◌, ◌++◌}
use lib.ListN.{length, get_or, drop}
use borrow.Author.Tests.{eqb-true, ltb-false, le-ltb, lt-leb}
use Rattle.ground.specs.Lists.{each}
use Rattle.ground.specs.Pick.{pick}
use Rattle.card.specs.Table.{Row, Table, cmd_bytes, row_bytes, sit_bytes, bytes_of, FormedSits, Formed}
use Rattle.card.specs.Decode.{table_at}
use Rattle.card.specs.declared.form.Head.{Head}
use Rattle.std.proofs.Common.{Result, Ok, Err, is_ok}
use Rattle.card.specs.declared.form.Kind.{Kind}
use Rattle.card.specs.declared.form.Kind.TheVariants.{Misplaced, Short, Field}
use Rattle.card.specs.declared.form.Fault.{Fault}
use Rattle.card.specs.Form.{head_at, begin, form_from, after_head, form_of}
use Rattle.card.specs.FormOk.{FormOk}
use Rattle.ground.proofs.Picks.{by_test}
use Rattle.ground.proofs.Lists.{one_there, four_there}
use Rattle.card.proofs.Decoded.{reads_as}
use Rattle.card.proofs.Rest.{Rest, closed_rows, rest_of, rest_fine, begin_sane}

-- ---- the HEAD

pub record HeadIs (s : List ℕ) (h : Head) : Type 0 where
  pub fits : 5 ≤ length s
  pub kind : get_or s 0 0 ≡ 0x21
  pub edition : get_or s 1 0 ≡ 1
  pub tags_here : get_or s 2 0 ≡ h.tags
  pub regs_here : get_or s 3 0 ≡ h.regs
  pub sits_here : get_or s 4 0 ≡ h.sits
  pub tags : h.tags ≤ 8
  pub regs : h.regs ≤ 64
  pub some : 1 ≤ h.sits
  pub most : h.sits ≤ 96

module _ (s : List ℕ) where
  HeadTold : Result Head Kind → Type 0
  HeadTold (Ok h) = HeadIs s h
  HeadTold (Err k) = Unit {0}

  wrong : (k : Kind) → HeadTold (Err k)
  unfolding HeadTold
  wrong k = tt

  counts : (h : Head) → HeadIs s h → HeadTold (Ok h)
  unfolding HeadTold
  counts h i = i

  head_told : HeadTold (head_at s)
  unfolding head_at
  head_told =
      by_test HeadTold _ _ _ (λ _. wrong Short) (λ _. by_test HeadTold _ _ _ (λ k. by_test HeadTold _ _ _ (λ _. wrong Short) (λ l.
      by_test HeadTold _ _ _ (λ e. by_test HeadTold _ _ _ (λ _. wrong Field) (λ a. by_test HeadTold _ _ _ (λ _. wrong Field) (λ b.
      by_test HeadTold _ _ _ (λ _. wrong Field) (λ c. by_test HeadTold _ _ _ (λ _. wrong Field) (λ d.
      counts _ (record {
        fits = ltb-false _ _ l;
        kind = eqb-true _ _ k;
        edition = eqb-true _ _ e;
        tags_here = refl;
        regs_here = refl;
        sits_here = refl;
        tags = ltb-false _ _ a;
        regs = ltb-false _ _ b;
        some = ltb-false _ _ c;
        most = ltb-false _ _ d;
      })))))) (λ _. wrong Field))) (λ _. wrong Misplaced))

  head_is : (h : Head) → head_at s ≡ Ok h → HeadIs s h
  unfolding HeadTold
  head_is h e = subst HeadTold e head_told

-- ---- a file that passes says a formed table

pub record Says (s : List ℕ) : Type 0 where
  pub table : Table
  pub formed : Formed table
  pub bytes : s ≡ bytes_of table

module _ (s : List ℕ) where
  said : (h : Head) → HeadIs s h → Rest h begin (drop 5 s) → Says s
  unfolding bytes_of
  said h i r =
      let none = closed_rows h.regs h.sits 256 r.rows refl r.upward in
      let all : h.sits ≡ length r.sits = omega (arith, r.count) in
      record {
        table = record { tags = h.tags; registers = h.regs; start = r.cmds; sits = r.sits };
        formed = record {
          tags = i.tags;
          registers = i.regs;
          some = omega (arith, i.some);
          most = omega (arith, i.most);
          sets = r.sets refl;
          start = r.rising;
          sits = subst (λ (n : ℕ). FormedSits h.tags h.regs n r.sits) all r.formed;
        };
        bytes =
            four_there s 0 (omega (arith, i.fits))
            ∙ ap (λ (x : List ℕ). get_or s 0 0 ∷ get_or s 1 0 ∷ get_or s 2 0 ∷ get_or s 3 0 ∷ x) (one_there s 4 i.fits)
            ∙ ap (λ (x : ℕ). x ∷ get_or s 1 0 ∷ get_or s 2 0 ∷ get_or s 3 0 ∷ get_or s 4 0 ∷ drop 5 s) i.kind
            ∙ ap (λ (x : ℕ). 0x21 ∷ x ∷ get_or s 2 0 ∷ get_or s 3 0 ∷ get_or s 4 0 ∷ drop 5 s) i.edition
            ∙ ap (λ (x : ℕ). 0x21 ∷ 1 ∷ x ∷ get_or s 3 0 ∷ get_or s 4 0 ∷ drop 5 s) i.tags_here
            ∙ ap (λ (x : ℕ). 0x21 ∷ 1 ∷ h.tags ∷ x ∷ get_or s 4 0 ∷ drop 5 s) i.regs_here
            ∙ ap (λ (x : ℕ). 0x21 ∷ 1 ∷ h.tags ∷ h.regs ∷ x ∷ drop 5 s) (i.sits_here ∙ all)
            ∙ ap (λ (x : List ℕ). 0x21 ∷ 1 ∷ h.tags ∷ h.regs ∷ length r.sits ∷ x) (r.bytes
            ∙ ap (λ (l : List Row). each cmd_bytes r.cmds ++ (each row_bytes l ++ each sit_bytes r.sits)) none);
      }

  passed : ((i : ℕ) → get_or s i 0 < 256) → (x : Result Head Kind) → head_at s ≡ x → after_head x (λ (h : Head). form_from (length s) s h begin) ≡ Ok tt → Says s
  passed small (Ok h) e k = said h (head_is s h e) (rest_of s h small (length s) begin (omega arith) (omega arith) k)
  passed small (Err n) e k = cc

  pub fine_says : ((i : ℕ) → get_or s i 0 < 256) → form_of s ≡ Ok tt → Says s
  unfolding form_of
  fine_says small e = passed small (head_at s) refl e

-- ---- and what a formed table is written as passes

abbrev head_of : Table → Head
head_of T = record { tags = T.tags; regs = T.registers; sits = length T.sits }

head_made : (T : Table) → Formed T → head_at (bytes_of T) ≡ Ok (head_of T)
unfolding pick head_at bytes_of
head_made T f =
    simp (lt-leb (length (bytes_of T)) 0 (omega arith), le-ltb (length (bytes_of T)) 5 (omega arith), le-ltb 8 T.tags f.tags, le-ltb 64 T.registers f.registers, le-ltb (length T.sits) 1 f.some, le-ltb 96 (length T.sits) f.most)

rest_made : (T : Table) → Formed T → Rest (head_of T) begin (drop 5 (bytes_of T))
unfolding bytes_of
rest_made T f =
    record {
      cmds = T.start;
      rows = [];
      sits = T.sits;
      bytes = refl;
      rising = f.start;
      sets = λ _. f.sets;
      after = λ z. absurd (omega arith);
      upward = refl;
      count = omega arith;
      formed = f.sits;
    }

pub formed_fine : (T : Table) → Formed T → form_of (bytes_of T) ≡ Ok tt
unfolding form_of
formed_fine T f =
    let s = bytes_of T in
    ap (λ (x : Result Head Kind). after_head x (λ (h : Head). form_from (length s) s h begin)) (head_made T f)
    ∙ rest_fine s (head_of T) (length s) begin (omega arith) (begin_sane s (head_of T)) (rest_made T f)

-- ---- the answer

pub ok_right : (s : List ℕ) → ((i : ℕ) → get_or s i 0 < 256) → form_of s ≡ Ok tt → FormOk s true
ok_right s small e =
    let t = fine_says s small e in
    let same = reads_as s t.table t.formed t.bytes in
    record {
      right = λ _. (subst Formed same t.formed, t.bytes ∙ ap bytes_of same);
      wrong = λ z. absurd (let n : ◌≡◌ {A = ℕ} 0 1 = cc in omega arith);
    }

pub ok_wrong : (s : List ℕ) (e : Fault) → form_of s ≡ Err e → FormOk s false
ok_wrong s e is =
    record {
      right = λ z. absurd (let n : ◌≡◌ {A = ℕ} 0 1 = cc in omega arith);
      wrong = λ _ T f b. let w = sym is ∙ ap form_of b ∙ formed_fine T f in cc;
    }

pub answered : (s : List ℕ) → ((i : ℕ) → get_or s i 0 < 256) → (v : Result (Unit {0}) Fault) → v ≡ form_of s → FormOk s (is_ok v)
answered s small (Ok u) e = ok_right s small (sym e)
answered s small (Err f) e = ok_wrong s f (sym e)

-- the verdict by the HEAD
pub verdict_of : (s : List ℕ) (h : Head) → head_at s ≡ Ok h → form_from (length s) s h begin ≡ form_of s
unfolding form_of
verdict_of s h e = sym (ap (λ (x : Result Head Kind). after_head x (λ (g : Head). form_from (length s) s g begin)) e)

pub verdict_wrong : (s : List ℕ) (k : Kind) → head_at s ≡ Err k → Err (record { kind = k; at = 0 }) ≡ form_of s
unfolding form_of
verdict_wrong s k e = sym (ap (λ (x : Result Head Kind). after_head x (λ (g : Head). form_from (length s) s g begin)) e)

-- one answer alone meets the promise
pub form_ok_one : (s : List ℕ) (a b : Bool) → FormOk s a → FormOk s b → a ≡ b
form_ok_one s true true x y = refl
form_ok_one s false false x y = refl
form_ok_one s true false x y = let t = x.right refl in absurd (y.wrong refl (table_at s) t.0 t.1)
form_ok_one s false true x y = let t = y.right refl in absurd (x.wrong refl (table_at s) t.0 t.1)
