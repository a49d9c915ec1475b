use native.Mathlib.Omega.{arith}
use mathlib.Core.Path.{ap, sym, ◌∙◌}
use lib.ListN.{length}
use Rattle.std.proofs.lemmas.Slice.{between_to_end}
use Rattle.text.specs.Lines.{comment}
use Rattle.text.proofs.Lines as Lines
use Rattle.text.proofs.first_line.Goals as goal

pub loop-at-preserved : goal.loop-at-preserved
loop-at-preserved c =
    let s = c.args.text.now in
    let l = c.loop-at in
    let e = ap comment (between_to_end s l.at (length s) (omega arith)) in
    let y = sym e ∙ sym c.comment.ensures ∙ c.loop-at-test.true in
    let n = c.next_line-at.ensures in
    record { rest = l.invariant.rest ∙ Lines.line_comment s l.at (Lines.comment_within s l.at y) y ∙ n.same; within = n.within }

pub returns : goal.returns
returns c =
    let s = c.args.text.now in
    let l = c.loop-at in
    let e = ap comment (between_to_end s l.at (length s) (omega arith)) in
    (sym (l.invariant.rest ∙ Lines.line_other _ l.at (sym e ∙ sym c.comment.ensures ∙ c.loop-at-test.false)), l.invariant.within)
