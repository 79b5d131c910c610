-- The walk over bytes, from the grammar's side: what is spelled so far, how it can go on to a set, and what `scan` finds. Assumes nothing.
use Prim.Native.Nat.{ℕ, ◌≤◌, ◌<◌}
use mathlib.Core.Path.{◌≡◌, refl, sym, ap, subst, ◌∙◌}
use mathlib.Core.Bool.{Bool, true, false}
use mathlib.Core.List.{List, [], ◌∷◌, ◌++◌, append_assoc, append-nil}
use native.Mathlib.Omega.{arith}
use lib.Dec.{eqb, ltb}
use borrow.Author.Tests.{eqb-true, ltb-false, le-ltb}
use Rattle.ground.specs.Pick.{pick}
use Rattle.ground.proofs.Picks.{picked, passed}
use Rattle.ground.specs.Lists.{Bytes}
use Rattle.ground.proofs.Tests.{either_no, no_either}
use Rattle.ground.proofs.Every.{bytes_back}
use Rattle.pattern.specs.Tests.{among}
use Rattle.pattern.specs.Sets.{Item, span, class, Step, fresh, ready, held, quote, dash, dash_quote, name, shut, bad, item, ends, upto, after_name, class_of, set_on, gained, Named, whole, begun, none, names, seek}
use Rattle.pattern.specs.Grammar.{CharSpells, itself, quoted, ItemSpells, char, chars, named, ItemsSpell, last_item, more_items}
use Rattle.grammar.proofs.SetRun.{set_run, got, set_run_append, Going}
use Rattle.grammar.proofs.SetSpelled.{shuts}
use Rattle.grammar.proofs.Names.{word_bytes, word_run, seek_whole, seek_begun}

-- none or some items
pub data Many : List ℕ → List Item → Type 0 where
  nothing : Many [] []
  some : {w : List ℕ} {xs : List Item} → ItemsSpell w xs → Many w xs

items_more : {w v : List ℕ} {xs : List Item} {x : Item} → ItemsSpell w xs → ItemSpells v x → ItemsSpell (w ++ v) (xs ++ x ∷ [])
items_more (last_item h) g = more_items h (last_item g)
items_more {v = v} {x = x} (more_items {w = a} {v = b} h t) g = rw append_assoc (more_items h (items_more t g))

many_more : {w v : List ℕ} {xs : List Item} {x : Item} → Many w xs → ItemSpells v x → ItemsSpell (w ++ v) (xs ++ x ∷ [])
many_more nothing g = last_item g
many_more (some h) g = items_more h g

-- the bytes u lead to this step, and these items are complete
abbrev pub Sofar : List ℕ → Step → List Item → Type 0
Sofar u fresh xs = Many u xs
Sofar u ready xs = ItemsSpell u xs
Sofar u (held c) xs = (z v : List ℕ) × (u ≡ z ++ v) × Many z xs × CharSpells v c
Sofar u quote xs = (z : List ℕ) × (u ≡ z ++ 92 ∷ []) × Many z xs
Sofar u (dash c) xs = (z v : List ℕ) × (u ≡ z ++ (v ++ 45 ∷ [])) × Many z xs × CharSpells v c
Sofar u (dash_quote c) xs = (z v : List ℕ) × (u ≡ z ++ (v ++ 45 ∷ 92 ∷ [])) × Many z xs × CharSpells v c
Sofar u (name w) xs = (z : List ℕ) × (u ≡ z ++ 91 ∷ w) × Many z xs × (set_run (name []) w ≡ name w) × (seek w names 0 ≡ begun)
Sofar u shut xs = (z : List ℕ) × (u ≡ z ++ 93 ∷ []) × ItemsSpell z xs
Sofar u bad xs = Unit {0}

snoc : (u z v : List ℕ) (c : ℕ) → u ≡ z ++ v → u ++ c ∷ [] ≡ z ++ (v ++ c ∷ [])
snoc u z v c e = ap (λ l. l ++ c ∷ []) e ∙ append_assoc z v (c ∷ [])

-- One byte more, at each step.
module _ (u : List ℕ) (c : ℕ) (small : c < 256) where
  item_on : (xs : List Item) → Many u xs → Sofar (u ++ c ∷ []) (item c) xs
  item_on xs m = by (eqb c 92) (eqb c 91) (among c (93 ∷ 45 ∷ 94 ∷ [])) refl refl refl
    where
      by : (x y z : Bool) → eqb c 92 ≡ x → eqb c 91 ≡ y → among c (93 ∷ 45 ∷ 94 ∷ []) ≡ z → Sofar (u ++ c ∷ []) (item c) xs
      by true y z a b d = subst (λ (s : Step). Sofar (u ++ c ∷ []) s xs) (sym (picked quote _ a)) (u, ap (λ n. u ++ n ∷ []) (eqb-true c 92 a), m)
      by false true z a b d = subst (λ (s : Step). Sofar (u ++ c ∷ []) s xs) (sym (passed quote _ a ∙ picked (name []) _ b)) (u, ap (λ n. u ++ n ∷ []) (eqb-true c 91 b), m, refl, refl)
      by false false true a b d = subst (λ (s : Step). Sofar (u ++ c ∷ []) s xs) (sym (passed quote _ a ∙ passed (name []) _ b ∙ picked bad (held c) d)) tt
      by false false false a b d = subst (λ (s : Step). Sofar (u ++ c ∷ []) s xs) (sym (passed quote _ a ∙ passed (name []) _ b ∙ passed bad (held c) d)) (u, c ∷ [], refl, m, itself (record { byte = small; plain = let g = either_no (eqb c 93) _ d in no_either (eqb c 91) _ b (no_either (eqb c 93) _ g.0 (no_either (eqb c 92) _ a g.1)) }))

  ends_on : (xs : List Item) → ItemsSpell u xs → Sofar (u ++ c ∷ []) (ends c) xs
  ends_on xs h = by (eqb c 93) refl
    where
      by : (x : Bool) → eqb c 93 ≡ x → Sofar (u ++ c ∷ []) (ends c) xs
      by true a = subst (λ (s : Step). Sofar (u ++ c ∷ []) s xs) (sym (picked shut (item c) a)) (u, ap (λ n. u ++ n ∷ []) (eqb-true c 93 a), h)
      by false a = subst (λ (s : Step). Sofar (u ++ c ∷ []) s xs) (sym (passed shut (item c) a)) (item_on xs (some h))

  upto_on : (a : ℕ) (xs : List Item) → (a ≤ c → ItemsSpell (u ++ c ∷ []) (xs ++ span a c ∷ [])) → Sofar (u ++ c ∷ []) (upto a c) (xs ++ span a c ∷ [])
  upto_on a xs f = by (ltb c a) refl
    where
      by : (x : Bool) → ltb c a ≡ x → Sofar (u ++ c ∷ []) (upto a c) (xs ++ span a c ∷ [])
      by true t = subst (λ (s : Step). Sofar (u ++ c ∷ []) s (xs ++ span a c ∷ [])) (sym (picked bad ready t)) tt
      by false t = subst (λ (s : Step). Sofar (u ++ c ∷ []) s (xs ++ span a c ∷ [])) (sym (passed bad ready t)) (f (ltb-false c a t))

  held_on : (a : ℕ) (xs : List Item) → Sofar u (held a) xs → Sofar (u ++ c ∷ []) (set_on (held a) c) (xs ++ gained (held a) c)
  unfolding set_on gained
  held_on a xs h = by (eqb c 45) refl
    where
      by : (x : Bool) → eqb c 45 ≡ x → Sofar (u ++ c ∷ []) (pick (eqb c 45) (dash a) (ends c)) (xs ++ pick (eqb c 45) [] (span a a ∷ []))
      by true t = rw (picked (dash a) (ends c) t, picked [] (span a a ∷ []) t, append-nil xs) (h.0, h.1, ap (λ n. u ++ n ∷ []) (eqb-true c 45 t) ∙ snoc u h.0 h.1 45 h.2, h.3, h.4)
      by false t = rw (passed (dash a) (ends c) t, passed [] (span a a ∷ []) t) (ends_on (xs ++ span a a ∷ []) (subst (λ (l : List ℕ). ItemsSpell l (xs ++ span a a ∷ [])) (sym h.2) (many_more h.3 (char h.4))))

  dash_on : (a : ℕ) (xs : List Item) → Sofar u (dash a) xs → Sofar (u ++ c ∷ []) (set_on (dash a) c) (xs ++ gained (dash a) c)
  unfolding set_on gained
  dash_on a xs h = by (eqb c 92) (among c (91 ∷ 93 ∷ 45 ∷ 94 ∷ [])) refl refl
    where
      by : (x y : Bool) → eqb c 92 ≡ x → among c (91 ∷ 93 ∷ 45 ∷ 94 ∷ []) ≡ y → Sofar (u ++ c ∷ []) (pick (eqb c 92) (dash_quote a) (pick (among c (91 ∷ 93 ∷ 45 ∷ 94 ∷ [])) bad (upto a c))) (xs ++ pick (eqb c 92) [] (span a c ∷ []))
      by true y s t =
          rw (picked (dash_quote a) (pick (among c (91 ∷ 93 ∷ 45 ∷ 94 ∷ [])) bad (upto a c)) s, picked [] (span a c ∷ []) s, append-nil xs)
          (h.0, h.1, ap (λ n. u ++ n ∷ []) (eqb-true c 92 s) ∙ snoc u h.0 (h.1 ++ 45 ∷ []) 92 h.2 ∙ ap (λ l. h.0 ++ l) (append_assoc h.1 (45 ∷ []) (92 ∷ [])), h.3, h.4)
      by false true s t = rw (passed (dash_quote a) (pick (among c (91 ∷ 93 ∷ 45 ∷ 94 ∷ [])) bad (upto a c)) s, picked bad (upto a c) t) tt
      by false false s t =
          rw (passed (dash_quote a) (pick (among c (91 ∷ 93 ∷ 45 ∷ 94 ∷ [])) bad (upto a c)) s, passed bad (upto a c) t, passed [] (span a c ∷ []) s)
          (upto_on a xs (λ l. subst (λ (z : List ℕ). ItemsSpell z (xs ++ span a c ∷ [])) (sym (snoc u h.0 (h.1 ++ 45 ∷ []) c h.2 ∙ ap (λ l. h.0 ++ l) (append_assoc h.1 (45 ∷ []) (c ∷ []))))
          (many_more h.3 (chars h.4 (itself (record { byte = small; plain = let f = either_no (eqb c 91) _ t in let g = either_no (eqb c 93) _ f.1 in no_either (eqb c 91) _ f.0 (no_either (eqb c 93) _ g.0 (no_either (eqb c 92) _ s g.1)) })) l))))

  name_on : (w : List ℕ) (xs : List Item) → Sofar u (name w) xs → Sofar (u ++ c ∷ []) (set_on (name w) c) (xs ++ gained (name w) c)
  unfolding set_on gained
  name_on w xs h = by (seek (w ++ c ∷ []) names 0) refl
    where
      more : u ++ c ∷ [] ≡ h.0 ++ 91 ∷ (w ++ c ∷ [])
      more = snoc u h.0 (91 ∷ w) c h.1

      by : (n : Named) → seek (w ++ c ∷ []) names 0 ≡ n → Sofar (u ++ c ∷ []) (after_name (seek (w ++ c ∷ []) names 0) (w ++ c ∷ [])) (xs ++ class_of (seek (w ++ c ∷ []) names 0))
      by (whole k) e =
          let k' = seek_whole (w ++ c ∷ []) k e in
          subst (λ (n : Named). Sofar (u ++ c ∷ []) (after_name n (w ++ c ∷ [])) (xs ++ class_of n)) (sym e)
          (subst (λ (z : List ℕ). ItemsSpell z (xs ++ class k ∷ [])) (sym (more ∙ ap (λ v. h.0 ++ 91 ∷ v) k'.1)) (many_more h.2 (named k'.0)))
      by begun e =
          subst (λ (n : Named). Sofar (u ++ c ∷ []) (after_name n (w ++ c ∷ [])) (xs ++ class_of n)) (sym e)
          (h.0, more, subst (Many h.0) (sym (append-nil xs)) h.2, set_run_append (name []) w (c ∷ []) ∙ ap (λ s. set_on s c) h.3 ∙ ap (λ n. after_name n (w ++ c ∷ [])) e, e)
      by none e = subst (λ (n : Named). Sofar (u ++ c ∷ []) (after_name n (w ++ c ∷ [])) (xs ++ class_of n)) (sym e) tt

  pub sofar_on : (st : Step) (xs : List Item) → Sofar u st xs → Sofar (u ++ c ∷ []) (set_on st c) (xs ++ gained st c)
  unfolding set_on gained
  sofar_on fresh xs h = subst (Sofar (u ++ c ∷ []) (item c)) (sym (append-nil xs)) (item_on xs h)
  sofar_on ready xs h = subst (Sofar (u ++ c ∷ []) (ends c)) (sym (append-nil xs)) (ends_on xs h)
  sofar_on (held a) xs h = held_on a xs h
  sofar_on quote xs h = (h.0, 92 ∷ c ∷ [], snoc u h.0 (92 ∷ []) c h.1, subst (Many h.0) (sym (append-nil xs)) h.2, quoted small)
  sofar_on (dash a) xs h = dash_on a xs h
  sofar_on (dash_quote a) xs h =
      upto_on a xs (λ l. subst (λ (z : List ℕ). ItemsSpell z (xs ++ span a c ∷ [])) (sym (snoc u h.0 (h.1 ++ 45 ∷ 92 ∷ []) c h.2 ∙ ap (λ l. h.0 ++ l) (append_assoc h.1 (45 ∷ 92 ∷ []) (c ∷ []))))
      (many_more h.3 (chars h.4 (quoted small) l)))
  sofar_on (name w) xs h = name_on w xs h
  sofar_on shut xs h = tt
  sofar_on bad xs h = tt

pub sofar_run : (v u : List ℕ) (st : Step) (xs : List Item) → Bytes v → Sofar u st xs → Sofar (u ++ v) (set_run st v) (xs ++ got st v)
sofar_run [] u st xs b h = rw (append-nil u, append-nil xs) h
sofar_run (c ∷ v) u st xs b h =
    subst (λ (l : List ℕ). Sofar l (set_run (set_on st c) v) (xs ++ (gained st c ++ got (set_on st c) v))) (append_assoc u (c ∷ []) v)
    (subst (Sofar ((u ++ c ∷ []) ++ v) (set_run (set_on st c) v)) (append_assoc xs (gained st c) (got (set_on st c) v))
    (sofar_run v (u ++ c ∷ []) (set_on st c) (xs ++ gained st c) b.1 (sofar_on u c b.0 st xs h)))

-- Wherever a set goes on, some bytes and a `]` end it.
pub record Completed (st : Step) : Type 0 where
  pub word : List ℕ
  pub bytes : Bytes word
  pub going : Going (set_run st word)
  pub shuts : set_on (set_run st word) 93 ≡ shut

complete_ready : (st : Step) (w : List ℕ) → Bytes w → set_run st w ≡ ready → Completed st
complete_ready st w b e = record { word = w; bytes = b; going = subst Going (sym e) tt; shuts = ap (λ s. set_on s 93) e ∙ (shuts ready tt).0 }

char_byte : {w : List ℕ} {c : ℕ} → CharSpells w c → c < 256
char_byte (itself p) = p.byte
char_byte (quoted h) = h

pub completed : (st : Step) (u : List ℕ) (xs : List Item) → Going st → Sofar u st xs → Completed st
unfolding set_on pick
completed fresh u xs g h = record { word = 97 ∷ []; bytes = (omega arith, tt); going = tt; shuts = refl }
completed ready u xs g h = complete_ready ready [] tt refl
completed (held c) u xs g h = record { word = []; bytes = tt; going = tt; shuts = refl }
completed quote u xs g h = record { word = 97 ∷ []; bytes = (omega arith, tt); going = tt; shuts = refl }
completed (dash c) u xs g h = complete_ready (dash c) (92 ∷ c ∷ []) (omega arith, (char_byte h.4, tt)) (passed bad ready (le-ltb c c (omega arith)))
completed (dash_quote c) u xs g h = complete_ready (dash_quote c) (c ∷ []) (char_byte h.4, tt) (passed bad ready (le-ltb c c (omega arith)))
completed (name w) u xs g h =
    let r = seek_begun w h.4 in
    complete_ready (name w) r.2.0 (bytes_back w r.2.0 (subst Bytes (sym r.2.1) (word_bytes r.0 r.1)))
    (sym (set_run_append (name []) w r.2.0 ∙ ap (λ s. set_run s r.2.0) h.3) ∙ ap (set_run (name [])) r.2.1 ∙ word_run r.0 r.1)
completed shut u xs g h = absurd g
completed bad u xs g h = absurd g
