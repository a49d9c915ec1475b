use Rattle.std.proofs.Common.{sym, arith}
use Rattle.table.specs.Lent.{lent}
use Rattle.index.specs.Index.{live_of}
use Rattle.stack.proofs.Entries.{Named, reading_start, reading_within, reading_next, entry_named, blocks_found, stays_found, code_fits, checked_stop, checked_end}
use Rattle.stack.proofs.Opened.unblocked_entry.Goals as goal
use Rattle.stack.proofs.Opened.unblocked_entry.Goals.{After-entry-entry}

-- the entry names a clause and a literal of it
names : (c : After-entry-entry) → Named (lent c.args.self.now.book.table) c.entry-entry.result.clause c.entry-entry.result.literal
names c =
    rw (c.entry-entry.ensures.clause, c.entry-entry.ensures.literal)
    (entry_named (lent c.args.self.now.book.table) _ _ c.loop-i.i c.args.self.now.book.sound c.args.self.now.passed.none_bad c.loop-i-test.true)

pub loop-i-init : goal.loop-i-init
loop-i-init c = reading_start _ _ _ _ _ c.requires.lent

pub overflow_cast-entry : goal.overflow_cast-entry
overflow_cast-entry c = let o = c in code_fits (names (goal.at.overflow_cast-entry o).After-entry-entry).small

pub test_literal-requires-clause-live : goal.test_literal-requires-clause-live
test_literal-requires-clause-live c = rw c.requires.same (record { many = c.loop-i.invariant.many; within = reading_within _ _ _ _ _ _ c.loop-i.invariant })

pub test_literal-requires-clause-named : goal.test_literal-requires-clause-named
test_literal-requires-clause-named c = let o = c in let n = names (goal.at.test_literal-requires-clause-named o).After-entry-entry in rw c.requires.same (n.low, n.high)

pub test_literal-requires-clause-held : goal.test_literal-requires-clause-held
test_literal-requires-clause-held c = let o = c in rw c.requires.same (names (goal.at.test_literal-requires-clause-held o).After-entry-entry).holds

pub returns-then-is_some : goal.returns-then-is_some
returns-then-is_some c =
    let o = c in
    let n = names (goal.at.returns-then-is_some o).After-entry-entry in
    let y = stays_found _ (live_of c.loop-i.live) _ _ n.holds (sym (rw (c.test_literal.ensures, c.requires.same) at c.if-is_some.ensures)) in
    checked_stop _ _ _ _ _ c.loop-i.invariant c.loop-i-test.true (rw (c.entry-entry.ensures.clause, c.entry-entry.ensures.literal) at y)

pub bounds-live-k : goal.bounds-live-k
bounds-live-k c = let o = c in omega (arith, (names (goal.at.bounds-live-k o).After-entry-entry).high, c.loop-i.invariant.many)

pub loop-i-preserved : goal.loop-i-preserved
loop-i-preserved c =
    let o = c in
    let n = names (goal.at.loop-i-preserved o).After-entry-entry in
    let y = blocks_found _ (live_of c.loop-i.live) _ _ n.holds (sym (rw (c.test_literal.ensures, c.requires.same) at c.if-is_some.ensures)) in
    rw c.entry-entry.ensures.clause
    (reading_next _ _ _ _ _ _ c.loop-i.invariant c.loop-i-test.true (rw (c.entry-entry.ensures.clause, c.entry-entry.ensures.literal) at y)
    (rw c.entry-entry.ensures.clause at n.high))

pub returns : goal.returns
returns c = checked_end _ _ _ _ _ c.loop-i.invariant (omega arith)
