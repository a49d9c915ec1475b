use Rattle.std.proofs.Common.{◌-◌, ◌<◌, refl, ◌∙◌}
use Rattle.rules.specs.Blocking.{literal}
use Rattle.rules.specs.Elimination.{turns}
use Rattle.table.specs.Lent.{lent}
use Rattle.table.specs.Table.{book_of}
use Rattle.index.specs.Index.{live_of}
use Rattle.removal.specs.Inner.{Roomy, Made}
use Rattle.removal.proofs.Desks.{left_start, left_more, left_less, left_end}
use Rattle.removal.proofs.Desk.sweep_all.Goals as goal
use Rattle.removal.proofs.Desk.sweep_all.Goals.{After-sweep}

-- the desk before a sweep and after it, and what it made, over the table that the call began with
before : (c : After-sweep) → Roomy (lent c.args.self.now.index.book.table) c.loop-self.self.live.now c.loop-self.self.stack.now c.loop-self.self.count
before c = rw c.loop-self.invariant.index at c.loop-self.self.room

kept : (c : After-sweep) → Roomy (lent c.args.self.now.index.book.table) c.sweep.new.self.live.now c.sweep.new.self.stack.now c.sweep.new.self.count
kept c = rw (c.sweep.ensures.index, c.loop-self.invariant.index) at c.sweep.new.self.room

swept : (c : After-sweep)
    → Made (turns literal (book_of (lent c.args.self.now.index.book.table)) (live_of c.loop-self.self.live.now) c.args.self.now.index.book.table.clauses)
    c.loop-self.self.live.now c.loop-self.self.stack.now c.loop-self.self.count c.sweep.new.self.live.now c.sweep.new.self.stack.now c.sweep.new.self.count
swept c = rw c.loop-self.invariant.index at c.sweep.ensures.made

pub loop-self-init : goal.loop-self-init
loop-self-init c = rw c.requires (record { index = refl; left = left_start _; same_lend = refl })

pub returns-then-self-before-clause-made : goal.returns-then-self-before-clause-made
returns-then-self-before-clause-made c =
    let o = (goal.at.returns-then-self-before-clause-made c).After-sweep in
    left_end _ (before o) (kept o) (swept o) c.if-self-before.true c.loop-self.invariant.left

pub loop-self-smaller : goal.loop-self-smaller
loop-self-smaller c =
    let o = (goal.at.loop-self-smaller c).After-sweep in
    let m = c.args.self.now.index.book.table.clauses in
    let h : m - c.sweep.new.self.count < m - c.loop-self.self.count = left_less _ (before o) (kept o) (swept o) c.if-self-before.false in
    rw (c.sweep.ensures.index, c.loop-self.invariant.index) h

pub loop-self-preserved : goal.loop-self-preserved
loop-self-preserved c =
    let o = (goal.at.loop-self-preserved c).After-sweep in
    let h = c.loop-self.invariant in
    record {
      index = c.sweep.ensures.index ∙ h.index;
      left = left_more _ (before o) (kept o) (swept o) c.if-self-before.false h.left;
      same_lend = c.sweep.ensures.same_lend ∙ h.same_lend;
    }
