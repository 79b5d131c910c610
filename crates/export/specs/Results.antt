-- Results that a caller without structs gets one by one. Assumes nothing: these are definitions.
use Rattle.std.specs.Prelude.{List, ℕ, ℤ}
use Rattle.card.specs.Run.{Told}
use Rattle.pattern.specs.Made.{Made}
use Rattle.build.specs.Build.{Answer}

abbrev pub told : ℕ → ℕ → List ℤ → Told
told code answer places = record { code = code; answer = answer; places = places }

abbrev pub made : ℕ → ℕ → ℕ → Made
made code place length = record { code = code; place = place; length = length }

abbrev pub built : ℕ → ℕ → ℕ → ℕ → Answer
built code length situations registers = record { code = code; length = length; situations = situations; registers = registers }
