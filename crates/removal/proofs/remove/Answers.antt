use Rattle.std.proofs.Common.{arith}
use Rattle.std.proofs.lemmas.Result.{err_from_is_err_and}
use Rattle.stack.proofs.Refusals.{opened}
use Rattle.removal.proofs.Outcomes.{removal_refused}
use Rattle.removal.proofs.remove.Goals as goal

pub returns-in_err-book : goal.returns-in_err-book
returns-in_err-book c =
    let p = err_from_is_err_and c.from_residual.result c.from_residual.ensures.1 in
    rw (p.1, p.2) (removal_refused _ _ _ _ c.in_err-book.ensures _ _)

pub remove_named-requires : goal.remove_named-requires
remove_named-requires c = let h = c.in_ok-book.ensures in rw h.table (opened h c.open_stack.auto.live (omega arith))

pub returns : goal.returns
returns c = let h = c.in_ok-book.ensures in rw h.table at c.remove_named.ensures
