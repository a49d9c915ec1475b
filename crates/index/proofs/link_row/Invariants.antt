use Rattle.table.specs.Lent.{lent}
use Rattle.index.proofs.Links.{Filling}
use Rattle.index.proofs.link_row.Given as goal

abbrev pub invariant-loop-p : goal.invariant-loop-p
invariant-loop-p l = Filling (lent l.t.table) l.heads l.nexts l.k l.p
