use Rattle.table.specs.Lent.{lent}
use Rattle.index.specs.Inner.{Linking}
use Rattle.index.proofs.link_rows.Given as goal

abbrev pub invariant-loop-k : goal.invariant-loop-k
invariant-loop-k l = Linking (lent l.t.table) l.heads l.nexts l.k
