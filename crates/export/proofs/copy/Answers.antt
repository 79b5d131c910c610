-- `export::copy` meets its contract. Assumes nothing.
use mathlib.Core.Path.{refl, sym, ap, ◌∙◌}
use mathlib.Core.List.{◌++◌}
use lib.ListN.{length, drop}
use lib.Seq.{take-length}
use Rattle.export.proofs.Copying.{copied_in}
use Rattle.export.proofs.copy.Goals as goal

pub returns : goal.returns
returns c =
    copied_in _ _ _ _ _ c.requires refl refl
    (ap (λ l. l ++ drop (length c.args.part.now) c.args.out.now) (c.copy_from_slice.ensures.after ∙ sym (take-length _)))
