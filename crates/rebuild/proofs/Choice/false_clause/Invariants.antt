use Rattle.std.proofs.Common.{◌≡◌}
use Rattle.rules.specs.Walk.{least}
use Rattle.rules.specs.Rebuild.{fails}
use Rattle.table.specs.Lent.{lent}
use Rattle.table.specs.Table.{book_of}
use Rattle.table.specs.Values.{values_of}
use Rattle.index.specs.Index.{live_of}
use Rattle.rebuild.proofs.Choice.false_clause.Given as goal

abbrev pub invariant-loop-k : goal.invariant-loop-k
invariant-loop-k l = least (fails (book_of (lent l.self.opened.book.table)) (live_of l.live) (values_of l.self.vals.now)) l.k ≡ 0
