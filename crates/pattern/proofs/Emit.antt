-- Laws of what is written. Assumes nothing.
use Prim.Native.Nat.{ℕ, zero, suc, ◌≤◌, ◌<◌}
use mathlib.Core.Path.{◌≡◌, refl, ap, ◌∙◌}
use mathlib.Core.List.{List, [], ◌∷◌, append-nil}
use lib.ListN.{length}
use Rattle.ground.specs.Pick.{look}
use Rattle.net.specs.File.{rec_bytes}
use Rattle.pattern.specs.Pat.{Pat, start_at, compile}
use Rattle.pattern.specs.Reader.{Res, ok, atom, set_at, read}
use Rattle.pattern.specs.Atoms.{Stands, bits_of, pat_of, record_of}
use Rattle.pattern.specs.declared.reading.Atom.{Atom}
use Rattle.pattern.specs.declared.reading.Atom.TheVariants as one
use Rattle.pattern.specs.Writing.{bytes, coded}
use Rattle.pattern.proofs.Laws.{atom_lone}

pub start_below : (k n f m : ℕ) → n < m → f < m → start_at k n f < m
start_below zero n f m a b = b
start_below (suc k) n f m a b = a

-- the bytes of a reading that went well, or was refused
pub coded_ok : (r : Res) (n f e : ℕ) (p : Pat) → r ≡ ok e p → coded r n f ≡ bytes (compile p n f)
unfolding coded
coded_ok r n f e p h = ap (λ r. coded r n f) h

-- an atom is one record
pat_record : (m : List ℕ) (a : Atom) (n f : ℕ) → compile (pat_of m a) n f ≡ record_of m a f ∷ []
pat_record m (one.Byte b) n f = refl
pat_record m one.Any n f = refl
pat_record m (one.Tag t) n f = refl
pat_record m one.Set n f = refl

coded_atom : (r : Res) (m : List ℕ) (a : Atom) (n f e : ℕ) → r ≡ ok e (pat_of m a) → coded r n f ≡ rec_bytes (record_of m a f)
unfolding bytes
coded_atom r m a n f e h = coded_ok r n f e (pat_of m a) h ∙ ap bytes (pat_record m a n f) ∙ append-nil (rec_bytes (record_of m a f))

pub coded_lone : (s : List ℕ) (d i e n f : ℕ) (a : Atom) → i ≤ length s → (look s i ≡ 40 → ⊥) → Stands s i e a → coded (read s atom d i) n f ≡ rec_bytes (record_of (bits_of (set_at s i)) a f)
coded_lone s d i e n f a h x v = coded_atom (read s atom d i) (bits_of (set_at s i)) a n f e (atom_lone s d i h x ∙ v.is)
