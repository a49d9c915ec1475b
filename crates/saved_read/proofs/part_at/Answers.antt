use mathlib.Core.Path.{refl}
use Rattle.saved.specs.Bytes.{numbers_from, numbers_of}
use Rattle.saved_read.proofs.part_at.Goals as goal

pub returns-in-None : goal.returns-in-None
returns-in-None c = rw c.in-None.is (unfold numbers_of numbers_from in refl)
