use Rattle.std.proofs.Common.{◌≡◌, drop}
use Rattle.rules.specs.Blocking.{literal}
use Rattle.rules.specs.Elimination.{first_reason}
use Rattle.table.specs.Lent.{lent}
use Rattle.table.specs.Table.{book_of}
use Rattle.index.specs.Index.{live_of}
use Rattle.index.proofs.Index.first_blocking.Given as goal

abbrev pub invariant-loop-l : goal.invariant-loop-l
invariant-loop-l l =
    let t = lent l.self.book.table in
    first_reason literal (book_of t) (live_of l.live) l.k (drop l.l-index l.c) ≡ first_reason literal (book_of t) (live_of l.live) l.k l.c
