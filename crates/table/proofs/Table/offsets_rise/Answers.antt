use Rattle.std.proofs.Common.{refl, sym, arith}
use Rattle.rules.specs.Walk.{every_to}
use Rattle.rules.proofs.Walks.{every_to_next, every_to_fails}
use Rattle.table.specs.Lent.{lent}
use Rattle.table.proofs.Soundness.{rises_at, falls_at}
use Rattle.table.proofs.Table.offsets_rise.Goals as goal

pub loop-k-init : goal.loop-k-init
unfolding every_to
loop-k-init c = refl

pub returns-then-self-k : goal.returns-then-self-k
returns-then-self-k c = sym (every_to_fails _ _ c.loop-k.k (falls_at (lent c.args.self.now) c.loop-k.k c.if-self-k.true) (omega arith))

pub loop-k-preserved : goal.loop-k-preserved
loop-k-preserved c = every_to_next _ c.loop-k.k c.loop-k.invariant (rises_at (lent c.args.self.now) c.loop-k.k c.if-self-k.false)
