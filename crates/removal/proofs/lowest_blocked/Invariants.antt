use Rattle.std.proofs.Common.{◌≡◌, []}
use Rattle.rules.specs.Blocking.{literal}
use Rattle.rules.specs.Elimination.{next_blocked}
use Rattle.table.specs.Lent.{lent}
use Rattle.table.specs.Table.{book_of}
use Rattle.index.specs.Index.{live_of}
use Rattle.removal.proofs.lowest_blocked.Given as goal

abbrev pub invariant-loop-k : goal.invariant-loop-k
invariant-loop-k l = next_blocked literal (book_of (lent l.index.book.table)) (live_of l.live) l.k ≡ []
