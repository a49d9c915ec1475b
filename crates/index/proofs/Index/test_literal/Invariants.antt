use Rattle.std.proofs.Common.{◌≡◌}
use Rattle.rules.specs.Walk.{found}
use Rattle.rules.specs.Clause.{neg}
use Rattle.rules.specs.Blocking.{literal}
use Rattle.rules.specs.Book.{bars}
use Rattle.table.specs.Lent.{lent}
use Rattle.table.specs.Table.{row, book_of}
use Rattle.table.proofs.Found.{or_zero}
use Rattle.index.specs.Index.{live_of}
use Rattle.index.proofs.Holders.{Walked, ahead}
use Rattle.index.proofs.Index.test_literal.Given as goal

abbrev pub invariant-loop-next : goal.invariant-loop-next
invariant-loop-next l = record {
  link : l.next ≡ found (or_zero l.next);
  walk :
      Walked (lent l.self.book.table) (neg l.l) (bars literal (book_of (lent l.self.book.table)) (live_of l.live) (row (lent l.self.book.table) l.k) l.l) (or_zero l.next);
}

abbrev pub decreases-loop-next : goal.decreases-loop-next
decreases-loop-next l = ahead l.self.book.table.clauses (or_zero l.next)
