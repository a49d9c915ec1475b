use Rattle.std.proofs.Common.{arith, ◌≡◌, sym}
use Rattle.index.proofs.Marks.{none_marked, mark_more}
use Rattle.index.proofs.mark_all.Goals as goal

pub loop-k-init : goal.loop-k-init
loop-k-init c = rw (c.fill.ensures.after (λ y e. e)) (none_marked _)

pub loop-k-preserved : goal.loop-k-preserved
loop-k-preserved c = mark_more c.loop-k.k c.loop-k.live (omega arith) c.loop-k.invariant

pub returns : goal.returns
returns c = let e : c.loop-k.k ≡ c.args.m = omega arith in rw (sym e) c.loop-k.invariant
