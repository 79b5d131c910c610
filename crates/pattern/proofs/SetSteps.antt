-- The steps of a set, as the code takes them. Assumes nothing.
use Rattle.std.proofs.Common.{◌≡◌, ℕ, ◌+◌, ◌-◌, ◌≤◌, ◌<◌, Bool, true, false, ◌||◌, List, [], ◌∷◌, ◌++◌, Option, Some, None, length, get_or, take, drop, refl, sym, ap, ◌∙◌, arith, add-one, drop-cons, drop_of_length-le}
use Rattle.ground.specs.Bits.{flag}
use Rattle.pattern.specs.Sets as sets
use Rattle.pattern.specs.Sets.{Item, Step, Named, lists, listed, names, seek, set_on, after_name, gained, class_of, onward}
use Rattle.pattern.specs.Standing.{stands, Sound, leads, Stepped, item_of, items_of, raised, Shown, Shows, Listed}
use Rattle.pattern.specs.declared.sets.Item as sets_item
use Rattle.pattern.specs.declared.sets.Stand.{Stand}
use Rattle.pattern.specs.declared.sets.Stand.TheVariants.{Fresh, Ready, Held, Quote, Dash, DashQuote, Name, Shut}
use Rattle.ground.proofs.Tests.{or_assoc}
use Rattle.ground.proofs.Lists.{part_more}

-- a name that goes on with the byte at i
module _ (s : List ℕ) (from i : ℕ) (h : from ≤ i) (l : i < length s) where
  pub name_on : set_on (sets.name (take (i - from) (drop from s))) (get_or s i 0) ≡ after_name (seek (take (i + 1 - from) (drop from s)) names 0) (take (i + 1 - from) (drop from s))
  unfolding set_on
  name_on = ap (λ w. after_name (seek w names 0) w) (sym (part_more s 0 from i h l))

  pub name_gained : gained (sets.name (take (i - from) (drop from s))) (get_or s i 0) ≡ class_of (seek (take (i + 1 - from) (drop from s)) names 0)
  unfolding gained
  name_gained = ap (λ w. class_of (seek w names 0)) (sym (part_more s 0 from i h l))

-- a mark more
listed_more : (b : ℕ) (xs ys : List Item) → listed b (xs ++ ys) ≡ listed b xs || listed b ys
listed_more b [] ys = refl
listed_more b (x ∷ xs) ys = ap (λ t. lists b x || t) (listed_more b xs ys) ∙ sym (or_assoc (lists b x) (listed b xs) (listed b ys))

-- the marks after an item was gained, or none
shown_more : (m m' : List ℕ) (xs : List Item) (x : Item) → Shown m xs → length m' ≡ length m → ((b : ℕ) → b < length m → get_or m' b 0 ≡ raised (lists b x) (get_or m b 0)) → Shown m' (xs ++ x ∷ [])
shown_more m m' xs x h l g = record { right = λ b q. let r : b < length m = omega arith in g b r ∙ ap (raised (lists b x)) (h.right b r) ∙ join (lists b x) (listed b xs) ∙ sym (ap flag (listed_more b xs (x ∷ []))) }
  where
    join : (c a : Bool) → raised c (flag a) ≡ flag (a || (c || false))
    join true true = refl
    join true false = refl
    join false true = refl
    join false false = refl

-- the marks after the byte at i, if it shows an item to be complete
pub shown_gained : {m m' : List ℕ} {g : List Item} (xs : List Item) → Shown m xs → (x : sets_item.Item) → length m' ≡ length m → items_of (Some x) ≡ g → ((b : ℕ) → b < length m → get_or m' b 0 ≡ raised (lists b (item_of x)) (get_or m b 0)) → Shown m' (xs ++ g)
shown_gained {m} {m'} xs h x l e g = rw (← e) (shown_more m m' xs (item_of x) h l g)

-- a reading of a set from a place on has come to i: the answer is the answer from here, after some items, which the marks show
pub record Come (s : List ℕ) (from i : ℕ) (st : Stand) (m : List ℕ) : Type 0 where
  pub sound : Sound i st
  pub items : List Item
  pub same : sets.scan (drop from s) from sets.fresh [] ≡ sets.scan (drop i s) i (stands s i st) items
  pub shown : Shown m items

module _ {s : List ℕ} {from i : ℕ} {st : Stand} {m : List ℕ} (a : Come s from i st m) where
  pub come_end : length s ≡ i → sets.scan (drop from s) from sets.fresh [] ≡ sets.wrong (length s)
  unfolding sets.scan
  come_end h = rw h (a.same ∙ ap (λ w. sets.scan w i (stands s i st) a.items) (drop_of_length-le s (omega arith)))

  -- the items after the byte at i
  abbrev pub more : List Item
  more = a.items ++ gained (stands s i st) (get_or s i 0)

  module _ (h : i < length s) where
    come : (r : Option Stand) → Stepped s i (set_on (stands s i st) (get_or s i 0)) r → sets.scan (drop from s) from sets.fresh [] ≡ onward (leads s (i + 1) r) (sets.scan (drop (i + 1) s)) i more
    unfolding sets.scan
    come r e = a.same ∙ ap (λ w. sets.scan w i (stands s i st) a.items) (drop-cons s i 0 h) ∙ rw (e.is, add-one)

    pub come_bad : Stepped s i (set_on (stands s i st) (get_or s i 0)) None → sets.scan (drop from s) from sets.fresh [] ≡ sets.wrong i
    come_bad e = come None e

    pub come_shut : (r : Stand) → r ≡ Shut → Stepped s i (set_on (stands s i st) (get_or s i 0)) (Some r) → sets.scan (drop from s) from sets.fresh [] ≡ sets.listing (i + 1) more
    come_shut r n e = come (Some r) e ∙ rw n

    pub come_on : (r : Stand) → (r ≡ Shut → ⊥) → Stepped s i (set_on (stands s i st) (get_or s i 0)) (Some r) → (m' : List ℕ) → Shown m' more → Come s from (i + 1) r m'
    come_on r n e m' k = record { sound = e.sound; items = more; same = come (Some r) e ∙ on r n; shown = k }
      where
        on : (r : Stand) → (r ≡ Shut → ⊥) → onward (stands s (i + 1) r) (sets.scan (drop (i + 1) s)) i more ≡ sets.scan (drop (i + 1) s) (i + 1) (stands s (i + 1) r) more
        on Fresh n = refl
        on Ready n = refl
        on (Held c) n = refl
        on Quote n = refl
        on (Dash c) n = refl
        on (DashQuote c) n = refl
        on (Name c) n = refl
        on Shut n = absurd (n refl)

-- 256 marks
pub listed_long : (m : List ℕ) (z : sets.Scanned) → length m ≡ 256 → Shows m z → Listed m z
unfolding Listed Shows
listed_long m (sets.listing e xs) l h = record { long = l; right = λ b q. h.right b (omega arith) }
listed_long m (sets.wrong q) l h = tt
