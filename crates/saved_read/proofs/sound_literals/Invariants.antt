use Rattle.table.proofs.Stamps.{Marked}
use Rattle.saved.specs.Bytes.{numbers_of}
use Rattle.saved_read.proofs.sound_literals.Given as goal

abbrev pub invariant-loop-i : goal.invariant-loop-i
invariant-loop-i l = Marked l.n (numbers_of 2 l.literals) l.k l.seen l.i
