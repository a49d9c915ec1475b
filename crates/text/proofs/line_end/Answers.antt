use native.Mathlib.Omega.{arith}
use mathlib.Core.Path.{◌≡◌, ap, sym, ◌∙◌}
use lib.ListN.{length}
use Rattle.std.proofs.lemmas.Slice.{between_to_end}
use Rattle.text.specs.Lines.{ends}
use Rattle.text.proofs.Lines as Lines
use Rattle.text.proofs.line_end.Goals as goal

pub returns-then-ends : goal.returns-then-ends
returns-then-ends c =
    let s = c.args.text.now in
    let i = c.loop-i.i in
    let e = ap ends (between_to_end s i (length s) (omega arith)) in
    (sym (c.loop-i.invariant ∙ Lines.line_stop s i (omega arith) (sym e ∙ sym c.ends.ensures ∙ c.if-ends.true)), omega arith, omega arith)

pub loop-i-preserved : goal.loop-i-preserved
loop-i-preserved c =
    let s = c.args.text.now in
    let i = c.loop-i.i in
    let e = ap ends (between_to_end s i (length s) (omega arith)) in
    c.loop-i.invariant ∙ Lines.line_on s i (omega arith) (sym e ∙ sym c.ends.ensures ∙ c.if-ends.false)

pub returns : goal.returns
returns c =
    let s = c.args.text.now in
    let i = c.loop-i.i in
    let u : i ≡ length s = omega (arith, c.loop-i.auto.i-end c.requires) in
    (sym (c.loop-i.invariant ∙ Lines.line_out s i c.loop-i-test.false ∙ u), omega arith, c.requires)
