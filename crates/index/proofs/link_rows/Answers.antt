use Rattle.std.proofs.Common.{◌≡◌, ◌+◌, ◌-◌, arith}
use Rattle.index.proofs.Links.{link_start, link_end}
use Rattle.index.proofs.link_rows.Goals as goal

pub loop-k-init : goal.loop-k-init
loop-k-init c = link_start _ c.args.t.now.sound _ _ c.requires.unlinked.0 c.requires.unlinked.1 c.requires.unlinked.2

pub loop-k-preserved : goal.loop-k-preserved
loop-k-preserved c = let e : c.loop-k.k - 1 + 1 - 1 ≡ c.loop-k.k - 1 = omega arith in rw e at c.link_row.ensures

pub returns : goal.returns
returns c = let e : c.loop-k.k ≡ 0 = omega arith in link_end _ _ _ (rw e at c.loop-k.invariant)
