use Rattle.table.specs.Lent.{lent}
use Rattle.stack.specs.Tests.{entry_names}
use Rattle.stack.proofs.Entries.{Reading}
use Rattle.stack.proofs.bad_entry.Given as goal

abbrev pub invariant-loop-i : goal.invariant-loop-i
invariant-loop-i l = Reading l.t.table.clauses (entry_names (lent l.t.table)) l.stack.words.now l.stack.count l.live l.i
