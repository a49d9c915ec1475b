use Rattle.std.proofs.Common.{rules}
use Rattle.std.proofs.lemmas.Result.{err_from_is_err_and}
use Rattle.stack.proofs.Refusals.{opened_room, opened_passed}
use Rattle.rebuild.proofs.Refusals.{rebuild_refused, valued, refuses_unblocked, refuses_value, refuses_clause, accepts}
use Rattle.rebuild.proofs.rebuild.Goals as goal

pub returns-in_err-opened : goal.returns-in_err-opened
returns-in_err-opened c =
    let p = err_from_is_err_and c.from_residual.result c.from_residual.ensures.1 in
    rw (p.1, p.2) (rebuild_refused _ _ _ _ _ c.in_err-opened.ensures)

pub returns-in_err-check_entries : goal.returns-in_err-check_entries
returns-in_err-check_entries c =
    let h = c.in_ok-opened.ensures in
    let p = err_from_is_err_and c.from_residual-in_err-check_entries.result c.from_residual-in_err-check_entries.ensures.1 in
    rw (p.1, p.2) (refuses_unblocked _ _ _ _ (opened_passed h) (opened_room h) _ (rw (h.table, h.stack) at c.in_err-check_entries.ensures))

pub returns-in-Some : goal.returns-in-Some
returns-in-Some c =
    let h = c.in_ok-opened.ensures in
    refuses_value _ _ _ _ (opened_passed h) (opened_room h) (rw (h.table, h.stack) at c.in_ok-check_entries.ensures) _ c.in-Some.ensures

pub invariant_of-choice : goal.invariant_of-choice
invariant_of-choice c =
    let h = c.in_ok-opened.ensures in
    record { valued = rw h.table (valued _ _ _ _ (opened_passed h) (opened_room h) c.in_default.ensures) }

pub returns-in-Some-false_clause : goal.returns-in-Some-false_clause
returns-in-Some-false_clause c =
    let h = c.in_ok-opened.ensures in
    refuses_clause _ _ _ _ (opened_passed h) (opened_room h) (rw (h.table, h.stack) at c.in_ok-check_entries.ensures) c.in_default.ensures _
    (rw h.table at c.in-Some-false_clause.ensures)

pub returns : goal.returns
returns c =
    let h = c.in_ok-opened.ensures in
    let kept = accepts _ _ _ _ (opened_passed h) (opened_room h) (rw (h.table, h.stack) at c.in_ok-check_entries.ensures) c.in_default.ensures
    (rw h.table at c.in_default-false_clause.ensures) (rw (h.table, h.stack) at c.walk_back.ensures.vals) in
    search (rules, kept)
