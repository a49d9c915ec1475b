use Rattle.std.proofs.Common.{arith}
use Rattle.std.proofs.lemmas.Result.{err_from_is_err_and}
use Rattle.stack.proofs.Refusals.{opened_passed, opened, check_refused, check_told}
use Rattle.stack.proofs.check_stack.Goals as goal

pub returns-in_err-opened : goal.returns-in_err-opened
returns-in_err-opened c =
    let p = err_from_is_err_and c.from_residual.result c.from_residual.ensures.1 in
    rw (p.1, p.2) (check_refused _ _ _ _ c.in_err-opened.ensures)

pub check_entries-requires : goal.check_entries-requires
check_entries-requires c = rw c.in_ok-opened.ensures.table (opened c.in_ok-opened.ensures c.open_stack.auto.live (omega arith)).marks_many

pub returns : goal.returns
returns c =
    let h = c.in_ok-opened.ensures in
    check_told _ _ _ (opened_passed h) _ _ (rw (h.table, h.stack) at c.check_entries.ensures)
