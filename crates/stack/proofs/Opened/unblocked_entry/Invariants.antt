use Rattle.table.specs.Lent.{lent}
use Rattle.stack.specs.Tests.{entry_blocks}
use Rattle.stack.proofs.Entries.{Reading}
use Rattle.stack.proofs.Opened.unblocked_entry.Given as goal

abbrev pub invariant-loop-i : goal.invariant-loop-i
invariant-loop-i l = Reading l.self.book.table.clauses (entry_blocks (lent l.self.book.table)) l.self.stack.words.now l.self.stack.count l.live l.i
