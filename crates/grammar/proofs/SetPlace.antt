-- What `scan` finds is what the grammar spells, and its place of a fault is the grammar's. Assumes nothing.
use Prim.Native.Nat.{ℕ, ◌+◌, ◌≤◌, ◌<◌}
use mathlib.Core.Path.{◌≡◌, refl, sym, ap, subst, ◌∙◌}
use mathlib.Core.List.{List, [], ◌∷◌, ◌++◌, append_assoc}
use native.Mathlib.Omega.{arith}
use lib.ListN.{length, take, length-append}
use lib.Seq.{take-append_seam, take-append-add}
use Rattle.ground.specs.Lists.{Bytes}
use Rattle.ground.proofs.Every.{bytes_front}
use Rattle.pattern.specs.Sets.{Item, Step, fresh, shut, bad, set_on, listing, wrong, scan}
use Rattle.pattern.specs.Grammar.{ItemsSpell}
use Rattle.grammar.proofs.SetRun.{set_run, got, set_run_append, run_bad, Going, Heard, Broke, Stuck, Follow, follow}
use Rattle.grammar.proofs.SetSpelled.{set_run_lem}
use Rattle.grammar.proofs.SetHeard.{Sofar, nothing, sofar_run, completed}

-- A set that is found: its items are spelled, and a `]` follows.
pub record Listed (w : List ℕ) (i e : ℕ) (ys : List Item) : Type 0 where
  pub items : List ℕ
  pub rest : List ℕ
  pub parts : w ≡ items ++ 93 ∷ rest
  pub place : e ≡ i + length items + 1
  pub spelled : ItemsSpell items ys

-- some set begins with these bytes, after its `[` or `[^`
abbrev pub SetBegins : List ℕ → Type 0
SetBegins w = (v z : List ℕ) × (ys : List Item) × (w ++ v ≡ z ++ 93 ∷ []) × ItemsSpell z ys

-- A set that is broken off: some set begins with the bytes before the place, and none with the byte at it.
pub record Broken (w : List ℕ) (i q : ℕ) : Type 0 where
  pub word : List ℕ
  pub rest : List ℕ
  pub parts : w ≡ word ++ rest
  pub place : q ≡ i + length word
  pub going : Going (set_run fresh word)
  pub sofar : Sofar word (set_run fresh word) (got fresh word)
  pub stuck : Stuck (set_run fresh word) rest

module _ (w : List ℕ) (bs : Bytes w) (i : ℕ) where
  listed : (e : ℕ) (ys : List Item) → Heard w i fresh [] e ys → Listed w i e ys
  listed e ys h =
      let b : Bytes (h.word ++ h.last ∷ []) = bytes_front (h.word ++ h.last ∷ []) h.rest (subst Bytes (h.parts ∙ sym (append_assoc h.word (h.last ∷ []) h.rest)) bs) in
      let r = sofar_run (h.word ++ h.last ∷ []) [] fresh [] b nothing in
      let t : Sofar (h.word ++ h.last ∷ []) shut (got fresh (h.word ++ h.last ∷ [])) = subst (λ (s : Step). Sofar (h.word ++ h.last ∷ []) s (got fresh (h.word ++ h.last ∷ []))) (set_run_append fresh h.word (h.last ∷ []) ∙ h.shuts) r in
      let n : length h.word + 1 ≡ length t.0 + 1 = sym (length-append h.word (h.last ∷ [])) ∙ ap length t.1 ∙ length-append t.0 (93 ∷ []) in
      let m = h.ends in
      record {
        items = t.0;
        rest = h.rest;
        parts = h.parts ∙ sym (append_assoc h.word (h.last ∷ []) h.rest) ∙ ap (λ l. l ++ h.rest) t.1 ∙ append_assoc t.0 (93 ∷ []) h.rest;
        place = omega arith;
        spelled = subst (ItemsSpell t.0) (sym h.all) t.2;
      }

  broken : (q : ℕ) → Broke w i fresh q → Broken w i q
  broken q h = record {
    word = h.word;
    rest = h.rest;
    parts = h.parts;
    place = h.place;
    going = h.going;
    sofar = sofar_run h.word [] fresh [] (bytes_front h.word h.rest (subst Bytes h.parts bs)) nothing;
    stuck = h.stuck;
  }

  -- "A set is `[`, perhaps `^`, one or more items, `]`": what is found is spelled
  pub scan_listing : (e : ℕ) (ys : List Item) → scan w i fresh [] ≡ listing e ys → Listed w i e ys
  scan_listing e ys h = listed e ys (subst (Follow w i fresh []) h (follow w i fresh [] tt))

  pub scan_wrong : (q : ℕ) → scan w i fresh [] ≡ wrong q → Broken w i q
  scan_wrong q h = broken q (subst (Follow w i fresh []) h (follow w i fresh [] tt))

-- In the grammar's words alone.
module _ (w : List ℕ) (bs : Bytes w) (i q : ℕ) (h : Broken w i q) where
  -- some set begins with the bytes before the place
  pub set_before : SetBegins h.word
  set_before =
      let c = completed (set_run fresh h.word) h.word (got fresh h.word) h.going h.sofar in
      let v = h.word ++ (c.word ++ 93 ∷ []) in
      let b : Bytes (c.word ++ 93 ∷ []) = both c.word c.bytes in
      let r = sofar_run (c.word ++ 93 ∷ []) h.word (set_run fresh h.word) (got fresh h.word) b h.sofar in
      let e : set_run (set_run fresh h.word) (c.word ++ 93 ∷ []) ≡ shut = set_run_append (set_run fresh h.word) c.word (93 ∷ []) ∙ c.shuts in
      let t : Sofar v shut (got fresh h.word ++ got (set_run fresh h.word) (c.word ++ 93 ∷ [])) = subst (λ (s : Step). Sofar v s (got fresh h.word ++ got (set_run fresh h.word) (c.word ++ 93 ∷ []))) e r in
      (c.word ++ 93 ∷ [], t.0, got fresh h.word ++ got (set_run fresh h.word) (c.word ++ 93 ∷ []), t.1, t.2)
    where
      both : (v : List ℕ) → Bytes v → Bytes (v ++ 93 ∷ [])
      both [] b = (omega arith, tt)
      both (c ∷ v) b = (b.0, both v b.1)

  -- and none with the byte at it
  pub set_beyond : (c : ℕ) (r : List ℕ) → h.rest ≡ c ∷ r → SetBegins (h.word ++ c ∷ []) → ⊥
  set_beyond c r e b =
      let z = set_run_lem b.4 in
      let x : set_run fresh (b.1 ++ 93 ∷ []) ≡ shut = set_run_append fresh b.1 (93 ∷ []) ∙ z.ends in
      let g : set_on (set_run fresh h.word) c ≡ bad = subst (Stuck (set_run fresh h.word)) e h.stuck in
      let y : set_run fresh ((h.word ++ c ∷ []) ++ b.0) ≡ bad = set_run_append fresh (h.word ++ c ∷ []) b.0 ∙ ap (λ s. set_run s b.0) (set_run_append fresh h.word (c ∷ []) ∙ g) ∙ run_bad b.0 in
      let s : shut ≡ bad = sym x ∙ ap (set_run fresh) (sym b.3) ∙ y in
      let n : ◌≡◌ {A = ℕ} 0 1 = cc in omega arith

-- The place of a fault, n bytes on: some set begins with the bytes before it, and none with the byte at it.
pub record SetFault (w : List ℕ) (n : ℕ) : Type 0 where
  pub inside : n ≤ length w
  pub before : SetBegins (take n w)
  pub beyond : n < length w → SetBegins (take (n + 1) w) → ⊥

pub set_place : (w : List ℕ) → Bytes w → (i q : ℕ) → scan w i fresh [] ≡ wrong q → (n : ℕ) × (q ≡ i + n) × SetFault w n
set_place w bs i q e = (
  length h.word,
  h.place,
  record {
    inside = let a = ap length h.parts in let b = length-append h.word h.rest in omega arith;
    before = subst SetBegins (sym front) (set_before w bs i q h);
    beyond = past h.rest refl;
  },
)
  where
    h : Broken w i q
    h = scan_wrong w bs i q e

    front : take (length h.word) w ≡ h.word
    front = ap (take (length h.word)) h.parts ∙ take-append_seam h.word h.rest

    past : (r : List ℕ) → h.rest ≡ r → length h.word < length w → SetBegins (take (length h.word + 1) w) → ⊥
    past [] g l b = let a = ap length h.parts in let n = length-append h.word h.rest in let m = ap length g in omega arith
    past (c ∷ r) g l b = set_beyond w bs i q h c r g (subst SetBegins (ap (take (length h.word + 1)) (h.parts ∙ ap (λ l. h.word ++ l) g) ∙ take-append-add h.word (c ∷ r) 1) b)
