-- `in_class` meets its contract: a bit of the word is membership in its class. Assumes nothing.
use mathlib.Core.Path.{sym, ap, ◌∙◌}
use Prim.Native.Nat.{ℕ, ◌/◌, ◌%◌, ◌^◌}
use lib.Dec.{eqb}
use Rattle.std.proofs.Common.{le-ltb}
use Rattle.classes.proofs.Words.{class_test, no_class}
use Rattle.classes.proofs.in_class.Goals as goal

pub returns-then-k-lt-CLASSES : goal.returns-then-k-lt-CLASSES
returns-then-k-lt-CLASSES c = ap (λ (w : ℕ). eqb (w / 2 ^ c.args.k % 2) 1) c.class_word.ensures ∙ class_test c.args.k c.args.b

pub returns-else-k-lt-CLASSES : goal.returns-else-k-lt-CLASSES
returns-else-k-lt-CLASSES c = le-ltb _ _ c.if-k-lt-CLASSES.false ∙ sym (no_class c.args.k c.args.b c.if-k-lt-CLASSES.false)
