use mathlib.Core.Path.{refl}
use Rattle.std.proofs.lemmas.Result.{err_from_is_err_and}
use Rattle.table.specs.Table.{offset}
use Rattle.saved_write.proofs.Refusals.{writing_unblocked, writing_cramped, room_enough, writing_done}
use Rattle.saved_write.proofs.write_checked.Goals as goal

pub returns-in_err-check_entries : goal.returns-in_err-check_entries
returns-in_err-check_entries c =
    let p = err_from_is_err_and c.from_residual.result c.from_residual.ensures.1 in
    rw (p.1, p.2) (writing_unblocked _ _ _ _ c.args.opened.now.passed _ c.in_err-check_entries.ensures)

pub returns-then-out-len : goal.returns-then-out-len
unfolding offset
returns-then-out-len c = writing_cramped _ _ _ _ c.args.opened.now.passed c.in_ok-check_entries.ensures refl c.if-out-len.true

pub put_form-requires-clause-room : goal.put_form-requires-clause-room
unfolding offset
put_form-requires-clause-room c = room_enough _ _ _ c.args.out.now c.args.opened.now.passed c.in_ok-check_entries.ensures refl c.if-out-len.false

pub returns : goal.returns
unfolding offset
returns c = writing_done _ _ _ _ c.args.opened.now.passed c.in_ok-check_entries.ensures refl c.if-out-len.false c.put_form.ensures
