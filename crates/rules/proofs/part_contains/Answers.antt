use mathlib.Core.Path.{sym, ap, ◌∙◌}
use native.Mathlib.Omega.{arith}
use lib.Seq.{take_all}
use Rattle.rules.specs.Clause.{mem}
use Rattle.rules.proofs.Members.{mem_nil, met_next}
use Rattle.rules.proofs.part_contains.Goals as goal

pub loop-i-init : goal.loop-i-init
loop-i-init c = (omega arith, omega arith, sym (mem_nil _))

pub loop-i-preserved : goal.loop-i-preserved
loop-i-preserved c =
    let m = met_next _ _ c.loop-i.i _ _ c.loop-i-test.true c.loop-i.invariant.2 c.from-many.ensures in
    (omega arith, omega (arith, m.0), m.1)

pub returns : goal.returns
returns c = c.loop-i.invariant.2 ∙ ap (mem c.args.l) (take_all c.loop-i.i c.args.c.now (omega arith))
