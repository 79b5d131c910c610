-- What the registers of a list mean: two bytes for each, a tag and where its place comes from. Assumes nothing.
use Rattle.std.specs.Prelude.{Option, MatchOption, ◌≡◌, ◌⊎◌, ℕ, zero, suc, ◌+◌, ◌*◌, ◌≤◌, ◌<◌, length, get_or}
use mathlib.Core.List.{List, [], ◌∷◌, map, foldl}
use Rattle.paths.specs.Search.{Thread}
use Rattle.net.specs.Rec.{Net}
use Rattle.paths.specs.Registers.{begin, next, origins, situation, Tags, Key, index, note, renamed, rename, registers, number}
use Rattle.explore.specs.Slots.{threads_at, slot, Fit}

abbrev pub key_of : List ℕ → ℕ → Key
key_of r k = (get_or r (2 * k) 0, get_or r (2 * k + 1) 0)

-- n registers from register k on
unfoldable pub keys_at : List ℕ → ℕ → ℕ → List Key
keys_at r k zero = []
keys_at r k (suc n) = key_of r k ∷ keys_at r (k + 1) n

-- the number of a register among `ks`, if it is one of them
abbrev pub Finds : List Key → Key → Option ℕ → Type 0
Finds ks k a = MatchOption a (length ks ≤ index k ks) (λ i. (i < length ks) × (i ≡ index k ks))

-- `l` after `ks`, each once, is the first n registers of r; or they are more than 64
pub record Gathers (ks l : List Key) (r : List ℕ) (a : Option ℕ) : Type 0 where
  pub size : length r ≡ 128
  pub count : MatchOption a (64 < length (foldl note ks l)) (λ n. (n ≤ 64) × (keys_at r 0 n ≡ foldl note ks l))

-- register numbers for places
abbrev pub names : List Key → Thread Tags → Thread Tags
names ks s = record { on = s.on; had = renamed (λ t p. index (t, p) ks) 0 s.had }

-- the first i threads of the list w have register numbers for places
pub record Named (ks : List Key) (w w' : List ℕ) (i : ℕ) : Type 0 where
  pub size : length w' ≡ length w
  pub done : threads_at w' 2 i ≡ rename (λ t p. index (t, p) ks) (threads_at w 2 i)
  pub else : (k : ℕ) → (k < 2) ⊎ (2 + 9 * i ≤ k) → get_or w' k 0 ≡ get_or w k 0

-- the list w is l with register numbers, and its n registers are r
pub record Numbered (l : List (Thread Tags)) (w r : List ℕ) (n : ℕ) : Type 0 where
  pub few : n ≤ 64
  pub count : n ≡ length (registers l)
  pub tally : get_or w 1 0 ≡ n
  pub regs : keys_at r 0 n ≡ registers l
  pub sit : slot w 0 ≡ number l

-- that, or they are more than 64
pub record Numbers (l : List (Thread Tags)) (w r : List ℕ) (a : Option ℕ) : Type 0 where
  pub size : length r ≡ 128
  pub what : MatchOption a (64 < length (registers l)) (Numbered l w r)

-- w is the situation s, with its count of registers
pub record Is (s : List (Thread Tags)) (w : List ℕ) (a : ℕ) : Type 0 where
  pub few : a ≤ 64
  pub count : a ≡ length (registers s)
  pub tally : get_or w 1 0 ≡ a
  pub sit : slot w 0 ≡ s

-- the next situation, and where each of its registers comes from; or it needs more than 64 registers
pub record Stepped (A : Net) (N b : ℕ) (l : List (Thread Tags)) (w r : List ℕ) (a : Option ℕ) : Type 0 where
  pub fit : Fit N w
  pub size : length r ≡ 128
  pub what : MatchOption a (64 < length (registers (next A b l))) (λ n. Is (next A b l) w n × (map (λ k. k.1) (keys_at r 0 n) ≡ origins A b l))

-- the first situation, and the places of its registers; or it needs more than 64 registers
pub record Begun (A : Net) (N : ℕ) (w r : List ℕ) (a : Option ℕ) : Type 0 where
  pub fit : Fit N w
  pub what : MatchOption a (64 < length (registers (situation A []))) (λ n. Is (situation A []) w n × (keys_at r 0 n ≡ registers (begin A)))
