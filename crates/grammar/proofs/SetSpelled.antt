-- The walk over items that are spelled: it goes on, and gains exactly these items. Assumes nothing.
use Prim.Native.Nat.{ℕ, ◌+◌, ◌≤◌}
use mathlib.Core.Path.{◌≡◌, refl, sym, ap, subst, ◌∙◌}
use mathlib.Core.Bool.{false}
use mathlib.Core.List.{List, [], ◌∷◌, ◌++◌, append_assoc, append-nil}
use lib.ListN.{length, get_or}
use lib.Dec.{eqb}
use borrow.Author.Tests.{le-ltb}
use Rattle.ground.specs.Pick.{pick}
use Rattle.ground.proofs.Picks.{picked, passed}
use Rattle.pattern.specs.Tests.{among}
use Rattle.pattern.specs.Sets.{Item, span, Step, fresh, ready, held, quote, dash, dash_quote, name, shut, bad, item, ends, upto, set_on, gained, names, word_of, listing, scan}
use Rattle.pattern.specs.Grammar.{Plain, CharSpells, itself, quoted, ItemSpells, char, chars, named, ItemsSpell, last_item, more_items}
use Rattle.ground.proofs.Tests.{either_no, no_either}
use Rattle.grammar.proofs.SetRun.{set_run, got, set_run_append, got_append, Going, scan_shut}
use Rattle.grammar.proofs.Names.{word_run, word_got}

-- an item may begin here
abbrev pub Between : Step → Type 0
Between fresh = Unit {0}
Between ready = Unit {0}
Between (held c) = Unit {0}
Between quote = ⊥
Between (dash c) = ⊥
Between (dash_quote c) = ⊥
Between (name w) = ⊥
Between shut = ⊥
Between bad = ⊥

-- an item stands before
abbrev pub Some : Step → Type 0
Some fresh = ⊥
Some ready = Unit {0}
Some (held c) = Unit {0}
Some quote = ⊥
Some (dash c) = ⊥
Some (dash_quote c) = ⊥
Some (name w) = ⊥
Some shut = ⊥
Some bad = ⊥

-- the item that is read and not yet known to be complete
abbrev pub pending : Step → List Item
pending fresh = []
pending ready = []
pending (held c) = span c c ∷ []
pending quote = []
pending (dash c) = []
pending (dash_quote c) = []
pending (name w) = []
pending shut = []
pending bad = []

pub some_between : (st : Step) → Some st → Between st
some_between fresh s = tt
some_between ready s = tt
some_between (held c) s = tt
some_between quote s = s
some_between (dash c) s = s
some_between (dash_quote c) s = s
some_between (name w) s = s
some_between shut s = s
some_between bad s = s

pub some_going : (st : Step) → Some st → Going st
some_going fresh s = tt
some_going ready s = tt
some_going (held c) s = tt
some_going quote s = tt
some_going (dash c) s = tt
some_going (dash_quote c) s = tt
some_going (name w) s = tt
some_going shut s = s
some_going bad s = s

-- a byte that begins an item shows that the one before is complete
item_begins : (st : Step) (c : ℕ) → Between st → eqb c 45 ≡ false → eqb c 93 ≡ false → (set_on st c ≡ item c) × (gained st c ≡ pending st)
unfolding set_on gained
item_begins fresh c b x y = (refl, refl)
item_begins ready c b x y = (passed shut (item c) y, refl)
item_begins (held a) c b x y = (passed (dash a) (ends c) x ∙ passed shut (item c) y, passed [] (span a a ∷ []) x)
item_begins quote c b x y = absurd b
item_begins (dash a) c b x y = absurd b
item_begins (dash_quote a) c b x y = absurd b
item_begins (name w) c b x y = absurd b
item_begins shut c b x y = absurd b
item_begins bad c b x y = absurd b

-- none of `[ ] \ - ^`
pub record Tame (c : ℕ) : Type 0 where
  pub no_open : eqb c 91 ≡ false
  pub no_close : eqb c 93 ≡ false
  pub no_quote : eqb c 92 ≡ false
  pub no_dash : eqb c 45 ≡ false
  pub no_caret : eqb c 94 ≡ false

pub tame : (c : ℕ) → Plain c → Tame c
tame c p =
    let a = either_no (eqb c 91) _ p.plain in
    let b = either_no (eqb c 93) _ a.1 in
    let d = either_no (eqb c 92) _ b.1 in
    let e = either_no (eqb c 45) _ d.1 in
    let f = either_no (eqb c 94) _ e.1 in
    record { no_open = a.0; no_close = b.0; no_quote = d.0; no_dash = e.0; no_caret = f.0 }

item_held : (c : ℕ) → Tame c → item c ≡ held c
item_held c t =
    passed quote (pick (eqb c 91) (name []) (pick (among c (93 ∷ 45 ∷ 94 ∷ [])) bad (held c))) t.no_quote
    ∙ passed (name []) (pick (among c (93 ∷ 45 ∷ 94 ∷ [])) bad (held c)) t.no_open
    ∙ passed bad (held c) (no_either (eqb c 93) _ t.no_close (no_either (eqb c 45) _ t.no_dash (no_either (eqb c 94) _ t.no_caret refl)))

-- one character
pub record CharRun (st : Step) (w : List ℕ) (c : ℕ) : Type 0 where
  pub gets : set_run st w ≡ held c
  pub gives : got st w ≡ pending st

char_run : (st : Step) {w : List ℕ} {c : ℕ} → Between st → CharSpells w c → CharRun st w c
unfolding set_on gained
char_run st b (itself {c = c} p) = let t = tame c p in let i = item_begins st c b t.no_dash t.no_close in record { gets = i.0 ∙ item_held c t; gives = append-nil (gained st c) ∙ i.1 }
char_run st b (quoted {c = c} h) =
    let i = item_begins st 92 b refl refl in
    let q : item 92 ≡ quote = picked quote _ refl in
    record { gets = ap (λ s. set_on s c) (i.0 ∙ q); gives = ap (λ s. gained st 92 ++ (gained s c ++ [])) (i.0 ∙ q) ∙ append-nil (gained st 92) ∙ i.1 }

-- the end of c-d
end_run : (c : ℕ) {w : List ℕ} {d : ℕ} → CharSpells w d → c ≤ d → (set_run (dash c) w ≡ ready) × (got (dash c) w ≡ span c d ∷ [])
unfolding set_on gained
end_run c (itself {c = d} p) h =
    let t = tame d p in (
      passed (dash_quote c) (pick (among d (91 ∷ 93 ∷ 45 ∷ 94 ∷ [])) bad (upto c d)) t.no_quote
          ∙ passed bad (upto c d) (no_either (eqb d 91) _ t.no_open (no_either (eqb d 93) _ t.no_close (no_either (eqb d 45) _ t.no_dash (no_either (eqb d 94) _ t.no_caret refl))))
          ∙ passed bad ready (le-ltb d c h),
      append-nil _ ∙ passed [] (span c d ∷ []) t.no_quote,
    )
end_run c (quoted {c = d} g) h =
    let q : set_on (dash c) 92 ≡ dash_quote c = picked (dash_quote c) _ refl in (
      ap (λ s. set_on s d) q ∙ passed bad ready (le-ltb d c h),
      ap (λ s. gained (dash c) 92 ++ (gained s d ++ [])) q ∙ ap (λ l. l ++ span c d ∷ []) (picked [] (span c 92 ∷ []) refl),
    )

-- one item, and some
pub record ItemsRun (st : Step) (w : List ℕ) (xs : List Item) : Type 0 where
  pub stood : Step
  pub some : Some stood
  pub gets : set_run st w ≡ stood
  pub gives : got st w ++ pending stood ≡ pending st ++ xs

item_run : (st : Step) {w : List ℕ} {x : Item} → Between st → ItemSpells w x → ItemsRun st w (x ∷ [])
unfolding set_on gained
item_run st b (char {c = c} h) = let r = char_run st b h in record { stood = held c; some = tt; gets = r.gets; gives = ap (λ l. l ++ span c c ∷ []) r.gives }
item_run st b (chars {w = w} {v = v} {c = c} {d = d} h g l) =
    let r = char_run st b h in
    let e = end_run c g l in
    let q : set_on (held c) 45 ≡ dash c = picked (dash c) (ends 45) refl in
    let z : gained (held c) 45 ≡ [] = picked [] (span c c ∷ []) refl in
    record {
      stood = ready;
      some = tt;
      gets = set_run_append st w (45 ∷ v) ∙ ap (λ s. set_run (set_on s 45) v) r.gets ∙ ap (λ s. set_run s v) q ∙ e.0;
      gives = append-nil _ ∙ got_append st w (45 ∷ v) ∙ ap (λ l. l ++ got (set_run st w) (45 ∷ v)) r.gives
          ∙ ap (λ l. pending st ++ l) (ap (λ s. got s (45 ∷ v)) r.gets ∙ ap (λ l. l ++ got (set_on (held c) 45) v) z ∙ ap (λ s. got s v) q ∙ e.1);
    }
item_run st b (named {k = k} h) =
    let i = item_begins st 91 b refl refl in
    let q : item 91 ≡ name [] = passed quote _ refl ∙ picked (name []) _ refl in
    record {
      stood = ready;
      some = tt;
      gets = ap (λ s. set_run s (word_of (get_or names k []))) (i.0 ∙ q) ∙ word_run k h;
      gives = append-nil _ ∙ ap (λ l. l ++ got (set_on st 91) (word_of (get_or names k []))) i.1 ∙ ap (λ l. pending st ++ l) (ap (λ s. got s (word_of (get_or names k []))) (i.0 ∙ q) ∙ word_got k h);
    }

pub items_run : (st : Step) {w : List ℕ} {xs : List Item} → Between st → ItemsSpell w xs → ItemsRun st w xs
items_run st b (last_item h) = item_run st b h
items_run st b (more_items {w = w} {v = v} {x = x} {xs = xs} h g) =
    let r = item_run st b h in
    let q = items_run r.stood (some_between r.stood r.some) g in
    record {
      stood = q.stood;
      some = q.some;
      gets = set_run_append st w v ∙ ap (λ s. set_run s v) r.gets ∙ q.gets;
      gives = ap (λ l. l ++ pending q.stood) (got_append st w v ∙ ap (λ s. got st w ++ got s v) r.gets)
          ∙ append_assoc (got st w) (got r.stood v) (pending q.stood) ∙ ap (λ l. got st w ++ l) q.gives
          ∙ sym (append_assoc (got st w) (pending r.stood) xs) ∙ ap (λ l. l ++ xs) r.gives ∙ append_assoc (pending st) (x ∷ []) xs;
    }

-- the `]` after some items
pub shuts : (st : Step) → Some st → (set_on st 93 ≡ shut) × (gained st 93 ≡ pending st)
unfolding set_on gained pick
shuts fresh s = absurd s
shuts ready s = (refl, refl)
shuts (held c) s = (refl, refl)
shuts quote s = absurd s
shuts (dash c) s = absurd s
shuts (dash_quote c) s = absurd s
shuts (name w) s = absurd s
shuts shut s = absurd s
shuts bad s = absurd s

-- Items that are spelled, and the `]`: the walk ends there with these items.
pub record SetRun (w : List ℕ) (xs : List Item) : Type 0 where
  pub going : Going (set_run fresh w)
  pub ends : set_on (set_run fresh w) 93 ≡ shut
  pub gives : got fresh (w ++ 93 ∷ []) ≡ xs

pub set_run_lem : {w : List ℕ} {xs : List Item} → ItemsSpell w xs → SetRun w xs
set_run_lem {w} {xs} h =
    let r = items_run fresh tt h in
    let z = shuts r.stood r.some in
    record {
      going = subst Going (sym r.gets) (some_going r.stood r.some);
      ends = ap (λ s. set_on s 93) r.gets ∙ z.0;
      gives = got_append fresh w (93 ∷ []) ∙ ap (λ s. got fresh w ++ (gained s 93 ++ [])) r.gets ∙ ap (λ l. got fresh w ++ l) (append-nil (gained r.stood 93) ∙ z.1) ∙ r.gives;
    }

-- What is spelled is what `scan` finds, whatever follows.
pub scan_spelled : {w : List ℕ} {xs : List Item} → ItemsSpell w xs → (r : List ℕ) (i : ℕ) → scan (w ++ 93 ∷ r) i fresh [] ≡ listing (i + length w + 1) xs
scan_spelled {w} {xs} h r i = let z = set_run_lem h in scan_shut w r 93 i fresh [] z.going z.ends ∙ ap (listing (i + length w + 1)) z.gives

-- The items of a text are unique.
pub items_one : {w : List ℕ} {xs ys : List Item} → ItemsSpell w xs → ItemsSpell w ys → xs ≡ ys
items_one {w} {xs} {ys} h g = sym (set_run_lem h).gives ∙ (set_run_lem g).gives
