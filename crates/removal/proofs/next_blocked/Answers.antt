use Rattle.std.proofs.Common.{refl, arith}
use Rattle.std.proofs.lemmas.Result.{err_from_is_err_and}
use Rattle.table.proofs.Soundness.{sound_of}
use Rattle.table.proofs.Stamps.{zeros}
use Rattle.stack.proofs.Refusals.{opened, open_marks}
use Rattle.removal.proofs.Outcomes.{question_refused, question_answered}
use Rattle.removal.proofs.next_blocked.Goals as goal

pub returns-in_err-opened : goal.returns-in_err-opened
returns-in_err-opened c =
    let p = err_from_is_err_and c.from_residual.result c.from_residual.ensures.1 in
    rw (p.1, p.2) (question_refused _ _ _ _ c.in_err-opened.ensures)

pub build-index-requires-clause-unlinked : goal.build-index-requires-clause-unlinked
build-index-requires-clause-unlinked c = (refl, refl, zeros 4002)

pub build-index-requires-clause-room : goal.build-index-requires-clause-room
build-index-requires-clause-room c = omega (arith, (sound_of _ c.in_ok-opened.opened.book.sound).clauses)

pub lowest_blocked-requires : goal.lowest_blocked-requires
lowest_blocked-requires c =
    let h = c.in_ok-opened.ensures in
    rw (c.build-index.ensures, h.table) (open_marks (opened h c.open_stack.auto.live (omega arith)))

pub returns : goal.returns
returns c =
    let h = c.in_ok-opened.ensures in
    question_answered (opened h c.open_stack.auto.live (omega arith)) _ (rw (c.build-index.ensures, h.table) at c.lowest_blocked.ensures)
