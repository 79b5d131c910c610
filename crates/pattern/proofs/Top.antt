-- The pattern maker's answer, case by case. Assumes nothing.
use Prim.Native.Nat.{ℕ, ◌+◌, ◌≤◌, ◌<◌}
use mathlib.Core.Path.{◌≡◌, refl, sym, ap, subst, ◌∙◌}
use mathlib.Core.List.{List, [], ◌∷◌, ◌++◌}
use native.Mathlib.Omega.{arith}
use Rattle.std.specs.Prelude.{Ok, Err}
use lib.ListN.{length, length-append}
use lib.Dec.{ltb}
use Rattle.ground.specs.Pick.{pick}
use Rattle.ground.specs.Lists.{Wrote}
use Rattle.ground.proofs.Picks.{pick_lt, pick_not_lt, pick_le, pick_not_le}
use Rattle.answers.specs.Answers.{OK, PATTERN_LONG, PATTERN_FORM, PATTERN_BIG, OUT_SMALL}
use Rattle.net.specs.Rec.{Rec, mask, fork, end}
use Rattle.net.specs.File.{rec_bytes}
use Rattle.pattern.specs.Pat.{Pat, size, start_at, compile, automaton}
use Rattle.pattern.specs.Pat.Pat.{Empty, Byte, Any, Set, Tag, Seq, Alt, Star, Plus, Opt}
use Rattle.pattern.specs.Reader.{Res, ok, form, deep, alts, read}
use Rattle.pattern.specs.Measured.{measured, width, tags}
use Rattle.pattern.specs.Writing.{bytes, coded, Room, head_of, filed}
use Rattle.pattern.specs.Made.{made_of}
use Rattle.pattern.specs.Maker.{file, given, refuse, written, made, judged, maker}
use Rattle.pattern.specs.declared.reading.Sum.{Sum}
use Rattle.pattern.specs.declared.Fault.{Fault}
use Rattle.pattern.specs.declared.Fault.TheVariants.{Form, Deep}
use Rattle.pattern.proofs.Steps.{inv}
use Rattle.pattern.proofs.EmitSteps.{bytes_append, is_inv, coded_is, sized_is, sized_of}
use Rattle.pattern.proofs.Sane.{Sane}

-- how many records and bytes a pattern is, wherever it stands
pub compile_long : (p : Pat) (n f : ℕ) → length (compile p n f) ≡ size p
compile_long Empty n f = refl
compile_long (Byte b) n f = refl
compile_long Any n f = refl
compile_long (Set s) n f = refl
compile_long (Tag t) n f = refl
compile_long (Seq p q) n f =
    let g = start_at (size q) (n + size p) f in
    let a = compile_long p n g in let b = compile_long q (n + size p) f in
    let c = length-append (compile p n g) (compile q (n + size p) f) in omega arith
compile_long (Alt p q) n f =
    let a = compile_long p (n + 1) f in let b = compile_long q (n + 1 + size p) f in
    let c = length-append (compile p (n + 1) f) (compile q (n + 1 + size p) f) in omega arith
compile_long (Star p) n f = let a = compile_long p (n + 1) n in omega arith
compile_long (Plus p) n f =
    let a = compile_long p n (n + size p) in
    let c = length-append (compile p n (n + size p)) (fork (start_at (size p) n (n + size p)) f ∷ []) in omega arith
compile_long (Opt p) n f = let a = compile_long p (n + 1) f in omega arith

pub bytes_width : (p : Pat) → Sane p → (n f : ℕ) → length (bytes (compile p n f)) ≡ width p
unfolding bytes
bytes_width Empty h n f = refl
bytes_width (Byte b) h n f = refl
bytes_width Any h n f = refl
bytes_width (Set s) h n f = let a = length-append (rec_bytes (mask s f)) [] in let b = length-append s (f ∷ []) in let c = h.0 in omega arith
bytes_width (Tag t) h n f = refl
bytes_width (Seq p q) h n f =
    let g = start_at (size q) (n + size p) f in
    ap length (bytes_append (compile p n g) (compile q (n + size p) f)) ∙ length-append (bytes (compile p n g)) _ ∙ ap (λ k. k + length (bytes (compile q (n + size p) f))) (bytes_width p h.0 n g) ∙ ap (λ k. width p + k) (bytes_width q h.1 (n + size p) f)
bytes_width (Alt p q) h n f =
    let a = bytes_width p h.0 (n + 1) f in let b = bytes_width q h.1 (n + 1 + size p) f in
    let c = length-append (bytes (compile p (n + 1) f)) (bytes (compile q (n + 1 + size p) f)) in
    let e = ap length (bytes_append (compile p (n + 1) f) (compile q (n + 1 + size p) f)) in omega arith
bytes_width (Star p) h n f = let a = bytes_width p h (n + 1) n in omega arith
bytes_width (Plus p) h n f =
    let a = bytes_width p h n (n + size p) in
    let x : List Rec = fork (start_at (size p) n (n + size p)) f ∷ [] in
    ap length (bytes_append (compile p n (n + size p)) x) ∙ length-append (bytes (compile p n (n + size p))) (bytes x) ∙ ap (λ k. k + 3) a
bytes_width (Opt p) h n f = let a = bytes_width p h (n + 1) f in omega arith

-- the file, as it is written
file_is_filed : (p : Pat) → file p ≡ head_of (tags p) (size p + 1) ++ (bytes (compile p 0 (size p)) ++ rec_bytes (end 0))
unfolding file bytes
file_is_filed p =
    let a = compile_long p 0 (size p) in
    let b = length-append (compile p 0 (size p)) (end 0 ∷ []) in
    let n : length (automaton p) ≡ size p + 1 = omega arith in
    ap (λ k. head_of (tags p) k ++ bytes (automaton p)) n ∙ ap (λ l. head_of (tags p) (size p + 1) ++ l) (bytes_append (compile p 0 (size p)) (end 0 ∷ []))

file_length : (p : Pat) → Sane p → length (file p) ≡ width p + 6
file_length p h =
    let a = bytes_width p h 0 (size p) in
    let b = length-append (bytes (compile p 0 (size p))) (rec_bytes (end 0)) in
    let c = ap length (file_is_filed p) in omega arith

module _ (s out : List ℕ) where
  pub at_long : 255 < length s → refuse PATTERN_LONG 0 out ≡ maker s out
  unfolding maker
  at_long h = sym (pick_lt 255 (length s) _ _ h)

  fault_of : (r : Res) {f : Fault} → Err f ≡ measured r → given (made_of (Err f)) out ≡ judged r s out
  unfolding measured
  fault_of (ok e p) h = cc
  fault_of (form q) {f = f} h = let z : f ≡ Form q = cc in ap (λ x. given (made_of (Err x)) out) z
  fault_of (deep q) {f = f} h = let z : f ≡ Deep q = cc in ap (λ x. given (made_of (Err x)) out) z

  pub at_fault : length s ≤ 255 → {f : Fault} → Err f ≡ measured (read s alts 0 0) → given (made_of (Err f)) out ≡ maker s out
  unfolding maker
  at_fault h q = fault_of (read s alts 0 0) q ∙ sym (pick_not_lt 255 (length s) _ _ h)

module _ (s out : List ℕ) (h : length s ≤ 255) {e : ℕ} {u : Sum} (q : Ok (e, u) ≡ measured (read s alts 0 0)) where
  abbrev pub pat : Pat
  pat = (inv (read s alts 0 0) q).pat

  whole : maker s out ≡ judged (ok e pat) s out
  unfolding maker
  whole = pick_not_lt 255 (length s) _ _ h ∙ ap (λ r. judged r s out) (inv (read s alts 0 0) q).is

  pub at_open : e < length s → refuse PATTERN_FORM e out ≡ maker s out
  at_open l = sym (whole ∙ pick_lt e (length s) _ _ l)

  module _ (l : length s ≤ e) where
    ended : maker s out ≡ made pat out
    ended = whole ∙ pick_not_lt e (length s) _ _ l

    pub at_big : 64 ≤ u.size → refuse PATTERN_BIG 0 out ≡ maker s out
    at_big g = sym (ended ∙ pick_le 64 (size pat) _ _ (subst (λ (k : ℕ). 64 ≤ k) (sym (sized_of (read s alts 0 0) q)) g))

    module _ (g : u.size < 64) (sane : Sane pat) where
      fitted : maker s out ≡ pick (ltb (length out) (length (file pat))) (refuse OUT_SMALL 0 out) (written (file pat) out)
      fitted = ended ∙ pick_not_le 64 (size pat) _ _ (subst (λ (k : ℕ). k < 64) (sym (sized_of (read s alts 0 0) q)) g)

      file_is : length (file pat) ≡ u.width + 6
      file_is = file_length pat sane ∙ ap (λ k. k.width + 6) (inv (read s alts 0 0) q).summed

      pub at_small : length out < u.width + 6 → refuse OUT_SMALL 0 out ≡ maker s out
      at_small k = sym (fitted ∙ pick_lt (length out) (length (file pat)) _ _ (subst (λ (j : ℕ). length out < j) (sym file_is) k))

      module _ (k : u.width + 6 ≤ length out) where
        coded_long : length (coded (read s alts 0 0) 0 u.size) ≡ u.width
        coded_long =
            ap length (coded_is (read s alts 0 0) pat 0 u.size (is_inv (read s alts 0 0) q)) ∙ bytes_width pat sane 0 u.size
            ∙ ap (λ j. j.width) (inv (read s alts 0 0) q).summed

        pub room : Room (read s alts 0 0) 0 u.size 4 (length out)
        room =
            let a = coded_long in
            let c = sized_is (read s alts 0 0) pat (is_inv (read s alts 0 0) q) ∙ sized_of (read s alts 0 0) q in
            record { room = omega arith; numbers = omega arith; follow = omega arith }

        pub room_end : 4 + length (coded (read s alts 0 0) 0 u.size) + 2 ≤ length out
        room_end = let a = coded_long in omega arith

        as_filed : filed (read s alts 0 0) u.size u.tags 0 ≡ file pat
        as_filed =
            ap (λ ws. head_of u.tags (u.size + 1) ++ (ws ++ rec_bytes (end 0))) (coded_is (read s alts 0 0) pat 0 u.size (is_inv (read s alts 0 0) q))
            ∙ ap (λ j. head_of j.tags (j.size + 1) ++ (bytes (compile pat 0 j.size) ++ rec_bytes (end 0))) (sym (inv (read s alts 0 0) q).summed)
            ∙ sym (file_is_filed pat)

        pub at_ok : (out' : List ℕ) (n : ℕ) → Wrote out out' 0 n (filed (read s alts 0 0) u.size u.tags 0) → given (record { code = OK; place = 0; length = n }) out' ≡ maker s out
        at_ok out' n w =
            let y = subst (Wrote out out' 0 n) as_filed w in
            let z = y.on in
            ap (λ j. given (record { code = OK; place = 0; length = j }) out') (omega arith) ∙ ap (λ o. given (record { code = OK; place = 0; length = length (file pat) }) o) y.held
            ∙ sym (fitted ∙ pick_not_lt (length out) (length (file pat)) _ _ (subst (λ (j : ℕ). j ≤ length out) (sym file_is) k))
