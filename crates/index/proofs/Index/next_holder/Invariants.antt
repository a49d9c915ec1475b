use Rattle.std.proofs.Common.{◌≡◌, true, ◌-◌, drop}
use Rattle.rules.specs.Clause.{mem}
use Rattle.table.specs.Lent.{lent}
use Rattle.table.specs.Table.{offset, row}
use Rattle.index.proofs.Index.next_holder.Given as goal

abbrev pub invariant-loop-p : goal.invariant-loop-p
invariant-loop-p l = mem l.x (drop (l.p - offset (lent l.self.book.table) (l.k - 1)) (row (lent l.self.book.table) l.k)) ≡ true
