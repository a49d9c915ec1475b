use mathlib.Core.Logic.{⊎_elim}
use mathlib.Core.Path.{◌∙◌}
use Rattle.text.proofs.Outcomes as Outcomes
use Rattle.text.proofs.read_text.Goals as goal

pub returns-then-lits-lt16000 : goal.returns-then-lits-lt16000
returns-then-lits-lt16000 c =
    let a = c.args in
    ⊎_elim (λ h. Outcomes.no_lits a.text.now a.lits.now a.offs.now h)
    (λ h. Outcomes.no_offs a.text.now a.lits.now a.offs.now h.0 h.1)
    c.then-lits-lt16000.either

pub returns-then-text-gt65536 : goal.returns-then-text-gt65536
returns-then-text-gt65536 c =
    let a = c.args in
    Outcomes.too_long a.text.now a.lits.now a.offs.now c.if-lits-lt16000.false c.if-offs-lt4001.false c.if-text-gt65536.true

pub returns : goal.returns
returns c =
    let a = c.args in
    c.read_table.ensures
    ∙ Outcomes.tests_pass a.text.now a.lits.now a.offs.now c.if-lits-lt16000.false c.if-offs-lt4001.false c.if-text-gt65536.false
