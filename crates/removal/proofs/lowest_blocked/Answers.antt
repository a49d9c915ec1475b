use Rattle.std.proofs.Common.{refl, arith}
use Rattle.rules.specs.Elimination.{next_blocked}
use Rattle.table.specs.Lent.{lent}
use Rattle.table.proofs.Soundness.{sound_of}
use Rattle.removal.proofs.Questions.{next_on, next_found, next_end}
use Rattle.removal.proofs.lowest_blocked.Goals as goal

pub loop-k-init : goal.loop-k-init
unfolding next_blocked
loop-k-init c = refl

pub overflow_cast-result : goal.overflow_cast-result
overflow_cast-result c = omega (arith, (sound_of _ c.args.index.now.book.sound).clauses)

pub returns-in-Some : goal.returns-in-Some
returns-in-Some c = next_found (lent c.args.index.now.book.table) _ _ c.loop-k.k c.in-Some.l c.loop-k.invariant c.in-Some.ensures (omega arith)

pub loop-k-preserved : goal.loop-k-preserved
loop-k-preserved c = next_on (lent c.args.index.now.book.table) _ c.loop-k.k c.loop-k.invariant c.in_default.ensures

pub returns : goal.returns
returns c = next_end (lent c.args.index.now.book.table) _ _ c.loop-k.k c.loop-k.invariant (omega arith) (omega arith)
