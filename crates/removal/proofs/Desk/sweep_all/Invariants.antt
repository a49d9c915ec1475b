use Rattle.std.proofs.Common.{◌≡◌, ◌-◌}
use Rattle.table.specs.Lent.{lent}
use Rattle.removal.proofs.Desks.{Left}
use Rattle.removal.proofs.Desk.sweep_all.Given as goal

abbrev pub invariant-loop-self : goal.invariant-loop-self
invariant-loop-self l = record {
  index : l.self.index ≡ l.initial.self.index;
  left : Left (lent l.initial.self.index.book.table) l.initial.self.live.now l.initial.self.stack.now l.self.live.now l.self.stack.now l.self.count;
  same_lend : l.self.stack.ghost_name ≡ l.initial.self.stack.ghost_name;
}

abbrev pub decreases-loop-self : goal.decreases-loop-self
decreases-loop-self l = l.self.index.book.table.clauses - l.self.count
