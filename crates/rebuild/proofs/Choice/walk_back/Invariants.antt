use Rattle.std.proofs.Common.{◌≡◌}
use Rattle.table.specs.Lent.{lent}
use Rattle.rebuild.proofs.Replay.{Walked}
use Rattle.rebuild.proofs.Choice.walk_back.Given as goal

abbrev pub invariant-loop-i : goal.invariant-loop-i
invariant-loop-i l = record {
  opened : l.self.opened ≡ l.initial.self.opened;
  walked : Walked (lent l.initial.self.opened.book.table) l.initial.self.opened.stack.words.now l.initial.self.opened.stack.count
      l.initial.self.vals.now l.i l.self.vals.now;
  same_lend : l.self.vals.ghost_name ≡ l.initial.self.vals.ghost_name;
}
