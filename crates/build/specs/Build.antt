-- What `build` answers, writes and leaves, for every input. Assumes nothing: these are definitions.
use Rattle.std.specs.Prelude.{Result, Ok, Err, ◌≡◌, Bool, false, ◌||◌, List, [], ◌∷◌, ℕ, ltb, length, take, replicate}
use Rattle.std.proofs.lemmas.List.Edits.{sets}
use Rattle.ground.specs.Pick.{pick}
use Rattle.answers.specs.Refusals.{code_of}
use Rattle.answers.specs.declared.Refusal.{Refusal}
use Rattle.net.specs.Rec.{Net}
use Rattle.net.specs.Items.{NetRead, net, refused, net_of, number}
use Rattle.card.specs.Table.{bytes_of}
use Rattle.build.specs.Card.{states, need, most, table_of}
use Rattle.build.specs.declared.Built.{Built}

abbrev pub any : {A : Type 0} → (A → Bool) → List A → Bool
any f [] = false
any f (x ∷ l) = f x || any f l

-- "REGISTERS is answered exactly if one of the first 97 situations (all, if fewer) needs more than 64 registers."
unfoldable pub over_registers : Net → Bool
over_registers A = any (λ s. ltb 64 (need s)) (take 97 (states A))

-- "Otherwise SITUATIONS exactly if there is a 97th." The first 97 have inputs of at most 96 bytes.
unfoldable pub over_situations : Net → Bool
over_situations A = ltb 96 (length (states A))

-- the number of the answer; and the table's length, its situations and its registers
pub record Answer : Type 0 where
  pub code : ℕ
  pub length : ℕ
  pub situations : ℕ
  pub registers : ℕ

-- "Unless OK, lengths and counts are 0"
abbrev pub refusal : ℕ → Answer
refusal code = record { code = code; length = 0; situations = 0; registers = 0 }

-- what the call hands back, as the four
abbrev pub answered : Result Built Refusal → Answer
answered (Ok b) = record { code = 0; length = b.length; situations = b.situations; registers = b.registers }
answered (Err e) = refusal (code_of e)

-- what is handed back, and the output
pub record Done : Type 0 where
  pub result : Answer
  pub out : List ℕ

-- "Output beyond the result keeps its bytes, and all of it on refusal."
abbrev pub refuses : ℕ → List ℕ → Done
refuses code out = record { result = refusal code; out = out }

abbrev pub gives : ℕ → Net → List ℕ → Done
gives tags A out =
    record {
      result = record { code = 0; length = length (bytes_of (table_of tags A)); situations = length (states A); registers = most (states A) };
      out = sets out 0 (bytes_of (table_of tags A));
    }

-- "10 or 11, 12"
unfoldable pub makes : ℕ → Net → List ℕ → Done
makes tags A out =
    pick (over_registers A) (refuses 10 out)
    (pick (over_situations A) (refuses 11 out)
    (pick (ltb (length out) (length (bytes_of (table_of tags A)))) (refuses 12 out)
    (gives tags A out)))

-- "build 9, net, 10 or 11, 12"
unfoldable pub of_net : NetRead → List ℕ → Done
of_net (net tags A) out = makes tags A out
of_net (refused f) out = refuses (number f) out

unfoldable pub build_of : (file : List ℕ) (room : ℕ) (out : List ℕ) → Done
build_of file room out = pick (ltb room 65536) (refuses 9 out) (of_net (net_of file) out)

-- "Work memory is all zero after each build, refused or not."
pub record Builds (file work out : List ℕ) (work' out' : List ℕ) (a : Answer) : Type 0 where
  pub result : a ≡ (build_of file (length work) out).result
  pub wrote : out' ≡ (build_of file (length work) out).out
  pub zero : work' ≡ replicate (length work) 0

-- the two steps on the way
pub record Makes (tags : ℕ) (A : Net) (out out' : List ℕ) (a : Answer) : Type 0 where
  pub result : a ≡ (makes tags A out).result
  pub wrote : out' ≡ (makes tags A out).out

pub record Attempts (file : List ℕ) (room : ℕ) (out out' : List ℕ) (a : Answer) : Type 0 where
  pub result : a ≡ (build_of file room out).result
  pub wrote : out' ≡ (build_of file room out).out
