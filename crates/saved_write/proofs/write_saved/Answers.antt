use Rattle.std.proofs.lemmas.Result.{err_from_is_err_and}
use Rattle.saved_write.proofs.Refusals.{writing_refused}
use Rattle.saved_write.proofs.write_saved.Goals as goal

pub returns-in_err-opened : goal.returns-in_err-opened
returns-in_err-opened c =
    let p = err_from_is_err_and c.from_residual.result c.from_residual.ensures.1 in
    rw (p.1, p.2) (writing_refused _ _ _ _ _ c.in_err-opened.ensures)

pub returns : goal.returns
returns c = let h = c.in_ok-opened.ensures in rw (h.table, h.stack) at c.write_checked.ensures
