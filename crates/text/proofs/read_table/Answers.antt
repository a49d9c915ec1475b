use mathlib.Core.Path.{◌≡◌}
use Rattle.std.specs.Prelude.{Err}
use Rattle.std.proofs.Common.{rules}
use Rattle.table.specs.Limits.{base}
use Rattle.text.specs.Text.{table_of}
use Rattle.text.proofs.Outcomes as Outcomes
use Rattle.text.proofs.read_table.Goals as goal

pub returns-in_err-counts : goal.returns-in_err-counts
returns-in_err-counts c =
    let s = c.args.text.now in
    let p = c.first_line-start in
    let l = c.line_end-end in
    let x = c.in_err-counts.field-0.0 in
    let r : c.from_residual.result ≡ Err x = search rules in
    rw r (Outcomes.refused (table_of base s) x (Outcomes.table_is s p.result l.result _ p.ensures.0 l.ensures.0 c.in_err-counts.ensures.same) c.args.lits.now c.args.offs.now)

pub returns : goal.returns
returns c =
    let s = c.args.text.now in
    let p = c.first_line-start in
    let l = c.line_end-end in
    Outcomes.same_left (table_of base s) _ (Outcomes.table_is s p.result l.result _ p.ensures.0 l.ensures.0 c.in_ok-counts.ensures.same) _ c.args.lits.now c.args.offs.now c.read_clauses.ensures
