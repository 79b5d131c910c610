-- What the writer's states mean, and what it leaves in the output. Assumes nothing.
use Rattle.std.specs.Prelude.{Option, MatchOption, ◌≡◌, Bool, true, ◌&&◌, cond, List, [], ◌∷◌, ◌++◌, map, ℕ, ◌+◌, ◌-◌, ◌≤◌, ◌<◌, eqb, length}
use Rattle.std.proofs.Math.Option.{none, some}
use Rattle.net.specs.Rec.{Net}
use Rattle.ground.specs.Lists.{each, Wrote}
use Rattle.paths.specs.Situation.{first_end}
use Rattle.paths.specs.Registers.{next, origins}
use Rattle.paths.specs.Equal.{same_list, same_situation}
use Rattle.paths.specs.Numbering.{among}
use Rattle.paths.specs.Limits.{first}
use Rattle.card.specs.Table.{Cmd, move, put, Row, row_bytes, sit_bytes}
use Rattle.explore.specs.Lists.{span, position}
use Rattle.explore.specs.States.{tags_of}
use Rattle.explore.specs.Slots.{slot, slots}
use Rattle.explore.specs.Explore.{Holds, Kept, Told}
use Rattle.explore.specs.Items.{Formed}
use Rattle.net.specs.Items.{net_at}
use Rattle.build.specs.declared.Found.{Found}
use Rattle.build.specs.Card.{State, need, commands, same_cmd, byte_row, ahead, joined, sit_of}
use Rattle.build.specs.Orders.{orders_of}
use Rattle.build.specs.declared.Deed.{Deed}
use Rattle.build.specs.declared.Open.{Open}
use Rattle.build.specs.declared.Pen.{Pen}

-- what fills register k from o: at most one command
abbrev pub command : (fresh k o : ℕ) → List Cmd
command fresh k o = cond (eqb o fresh) (put k ∷ []) (cond (eqb o k) [] (move k o ∷ []))

-- `bs` stands in what the pen writes to, as far as there is room, and all else is as before; the pen is past them
pub record Writes (p p' : Pen) (bs : List ℕ) : Type 0 where
  pub same : p'.out.ghost_name ≡ p.out.ghost_name
  pub wrote : Wrote p.out.now p'.out.now p.at p'.at bs

abbrev pub row_of : ℕ → ℕ → Deed → Row
row_of lo hi d = record { lo = lo; hi = hi; next = d.next; cmds = orders_of d.orders }

abbrev pub alike_deeds : Deed → Deed → Bool
alike_deeds a b = eqb a.next b.next && same_list same_cmd (orders_of a.orders) (orders_of b.orders)

-- byte b leads from s to one of S
abbrev pub Closed : Net → List State → State → ℕ → Type 0
Closed A S s b = among same_situation (next A b s) S ≡ true

-- what byte b does in s
pub record Does (A : Net) (S : List State) (s : State) (b : ℕ) (d : Deed) : Type 0 where
  pub next : d.next ≡ position same_situation (next A b s) S
  pub cmds : orders_of d.orders ≡ commands (need s) 0 (origins A b s)

-- the net of a file, and the situations found
abbrev pub net_in : Found → Net
net_in f = net_at f.file.now f.offs.now

abbrev pub all_in : Found → List State
all_in f = slots f.work.now 0 f.count

-- all n situations of A are in the memory
abbrev pub Explored : Net → (N : ℕ) → List ℕ → ℕ → Type 0
Explored A N w n = Kept N w n × ((slots w 0 n ≡ first A n) × (length (first A n) ≡ n))

-- a legal file, its fresh bytes, and all its situations
pub record Sound (f : Found) : Type 0 where
  pub formed : Formed f.file.now f.offs.now
  pub told : Told (net_in f) (length f.offs.now) f.news.now
  pub explored : Explored (net_in f) (length f.offs.now) f.work.now f.count

-- s is one of its situations
pub record Stands (f : Found) (s : List ℕ) : Type 0 where
  pub holds : Holds (length f.offs.now) s 0
  pub leads : (b : ℕ) → b < 256 → Closed (net_in f) (all_in f) (slot s 0) b

-- after byte b, which joined the open row q or closed it: what has been written, and what is still to be written whatever rows follow
pub record GoesOn (A : Net) (S : List State) (s : State) (p p' : Pen) (q : Open) (b : ℕ) (a : Open) : Type 0 where
  pub does : Does A S s b a.deed
  pub within : p'.at ≤ p.at + 196
  pub wrote : List ℕ
  pub out : Writes p p' wrote
  pub rest : (X : List Row) → each row_bytes (ahead (row_of q.lo (b - 1) q.deed) (ahead (byte_row A S s b) X)) ≡ wrote ++ each row_bytes (ahead (row_of a.lo b a.deed) X)

unfoldable pub rows_bytes : Net → List State → State → List ℕ
rows_bytes A S s = each row_bytes (joined (map (byte_row A S s) (span 0 256)))

-- those of S that l lists
unfoldable pub sits_bytes : Net → List State → List State → List ℕ
sits_bytes A S l = each sit_bytes (map (sit_of A S) l)

-- the first END of a list: its answer, and its registers
abbrev pub Ends : Net → State → Option (ℕ × List ℕ) → Type 0
Ends A s a = MatchOption a (first_end A s ≡ none) (λ e. first_end A s ≡ some (e.0, tags_of e.1))
