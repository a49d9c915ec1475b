use Rattle.std.proofs.Common.{◌≡◌, true, arith}
use Rattle.table.specs.Limits.{base}
use Rattle.table.specs.Lent.{lent as lent_table}
use Rattle.table.specs.Table.{sound}
use Rattle.table.proofs.Soundness.{sound_of}
use Rattle.stack.proofs.Refusals.{marks_room, lent}
use Rattle.stack.proofs.open_stack.Goals as goal
use Rattle.stack.proofs.open_stack.Goals.{In_ok-book}

known : (c : In_ok-book) → sound base (lent_table c.args.t.now) ≡ true
known c = rw c.in_ok-book.ensures at c.in_ok-book.book.sound

pub overflow_mul-t : goal.overflow_mul-t
overflow_mul-t c = omega (arith, (sound_of _ (known (goal.at.overflow_mul-t c).In_ok-book)).clauses)

pub mark_all-requires : goal.mark_all-requires
mark_all-requires c = marks_room _ (known (goal.at.mark_all-requires c).In_ok-book) c.requires

pub bad_entry-requires : goal.bad_entry-requires
bad_entry-requires c =
    let o = c in
    rw c.in_ok-book.ensures
    (lent _ _ _ (known (goal.at.bad_entry-requires o).In_ok-book) c.if-stack-t.false c.if-t-stack.false c.requires c.mark_all.auto.live c.mark_all.ensures)
