use native.Mathlib.Omega.{arith}
use mathlib.Core.Path.{ap, sym, ◌∙◌}
use lib.ListN.{length}
use Rattle.std.specs.Prelude.{position}
use Rattle.std.proofs.lemmas.Slice.{between_to_end}
use Rattle.text.proofs.Lines as Lines
use Rattle.text.proofs.next_line.Goals as goal

pub returns-in-Some : goal.returns-in-Some
returns-in-Some c =
    let a = c.args in
    let e = ap (position Lines.is_lf) (between_to_end a.text.now a.from (length a.text.now) (omega arith)) in
    Lines.passed_at a.text.now a.from c.requires c.in-Some.n (sym (c.in-Some.ensures ∙ e))

pub returns-in-None : goal.returns-in-None
returns-in-None c =
    let a = c.args in
    let e = ap (position Lines.is_lf) (between_to_end a.text.now a.from (length a.text.now) (omega arith)) in
    Lines.passed_none a.text.now a.from c.requires (sym (c.in-None.ensures ∙ e))
