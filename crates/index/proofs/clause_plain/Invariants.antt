use Rattle.std.proofs.Common.{◌≡◌, false, take}
use Rattle.rules.specs.Clause.{tautology}
use Rattle.table.proofs.Stamps.{Marked}
use Rattle.index.proofs.clause_plain.Given as goal

abbrev pub invariant-loop-x : goal.invariant-loop-x
invariant-loop-x l = record { stamps : Marked l.n l.c l.k l.seen l.x-index; plain : tautology (take l.x-index l.c) ≡ false }
