-- A test of the byte at a place. Assumes nothing.
use Rattle.std.proofs.Common.{◌≡◌, ℕ, ◌<◌, Bool, true, false, not, eqb, Option, Some, None, refl, sym, ap, ◌∙◌, arith}
use Rattle.std.proofs.lemmas.Bool.Decides.{nat_tests}
use Rattle.std.specs.Option.{option_eq}
use borrow.Author.Tests.{ne_eqb}
use Rattle.pattern.specs.Reader.{repeating}
use Rattle.pattern.specs.Text.{number_of, IsRepeat}
use Rattle.pattern.specs.declared.text.Repeat.{Repeat}
use Rattle.pattern.specs.declared.text.Repeat.TheVariants.{Star, Plus, Query}

pub same_byte : (o : Option ℕ) (b : ℕ) → b < 256 → eqb (number_of o) b ≡ option_eq eqb o (Some b)
same_byte (Some x) b h = refl
same_byte None b h = ne_eqb 256 b (λ e. omega arith)

-- what such a test says of the number
pub byte_is : (o : Option ℕ) (b : ℕ) {n : ℕ} → b < 256 → number_of o ≡ n → false ≡ not (option_eq eqb o (Some b)) → n ≡ b
byte_is (Some x) b h e t = grind (arith, nat_tests)
byte_is None b h e t = cc

pub byte_is_not : (o : Option ℕ) (b : ℕ) {n : ℕ} → b < 256 → number_of o ≡ n → true ≡ not (option_eq eqb o (Some b)) → n ≡ b → ⊥
byte_is_not (Some x) b h e t z = grind (arith, nat_tests)
byte_is_not None b h e t z = omega arith

-- a test of the byte's number is one of what `look` gives
pub test_of : (f : ℕ → Bool) {m n : ℕ} {t : Bool} → m ≡ n → t ≡ f m → f n ≡ t
test_of f e h = sym (h ∙ ap f e)

pub repeats : (r : Repeat) (c : ℕ) → IsRepeat c (Some r) → repeating c ≡ true
repeats Star c h = ap repeating h
repeats Plus c h = ap repeating h
repeats Query c h = ap repeating h
