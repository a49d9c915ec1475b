use Rattle.table.proofs.Stamps.{Marked}
use Rattle.table.proofs.clause_sound.Given as goal

abbrev pub invariant-loop-x : goal.invariant-loop-x
invariant-loop-x l = Marked l.n l.c l.k l.seen l.x-index
