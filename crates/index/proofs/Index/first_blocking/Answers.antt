use Rattle.std.proofs.Common.{arith}
use Rattle.rules.proofs.Members.{own_at}
use Rattle.table.specs.Lent.{lent}
use Rattle.table.proofs.Found.{none_is, some_is}
use Rattle.index.proofs.Reasons.{reason_here, reason_next, reason_none}
use Rattle.index.proofs.Index.first_blocking.Goals as goal

pub test_literal-requires-clause-held : goal.test_literal-requires-clause-held
test_literal-requires-clause-held c = own_at _ _ c.row-c.ensures.contents _ c.loop-l-test.true

pub returns-then-is_none : goal.returns-then-is_none
returns-then-is_none c =
    reason_here (lent c.args.self.now.book.table) _ _ _ c.row-c.ensures.contents c.loop-l.l-index c.loop-l-test.true
    (none_is _ (rw c.test_literal.ensures at c.if-is_none.ensures)) c.loop-l.invariant

pub loop-l-preserved : goal.loop-l-preserved
loop-l-preserved c =
    reason_next (lent c.args.self.now.book.table) _ _ _ c.row-c.ensures.contents c.loop-l.l-index c.loop-l-test.true
    (some_is _ (rw c.test_literal.ensures at c.if-is_none.ensures)) c.loop-l.invariant

pub returns : goal.returns
returns c = reason_none (lent c.args.self.now.book.table) _ _ _ c.row-c.ensures.contents c.loop-l.l-index (omega arith) c.loop-l.invariant
