use Rattle.std.proofs.Common.{◌≡◌}
use Rattle.rules.specs.Blocking.{literal}
use Rattle.rules.specs.Elimination.{turns}
use Rattle.table.specs.Lent.{lent}
use Rattle.table.specs.Table.{book_of}
use Rattle.index.specs.Index.{live_of}
use Rattle.removal.specs.Inner.{Made}
use Rattle.removal.proofs.Desk.sweep.Given as goal

abbrev pub invariant-loop-k : goal.invariant-loop-k
invariant-loop-k l = record {
  index : l.self.index ≡ l.initial.self.index;
  made : Made (turns literal (book_of (lent l.initial.self.index.book.table)) (live_of l.initial.self.live.now) l.k) l.initial.self.live.now l.initial.self.stack.now l.initial.self.count l.self.live.now l.self.stack.now l.self.count;
  same_lend : l.self.stack.ghost_name ≡ l.initial.self.stack.ghost_name;
}
