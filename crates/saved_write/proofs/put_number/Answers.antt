use Rattle.table.specs.Stack.{lay}
use Rattle.saved_write.proofs.Laying.{two_digits}
use Rattle.saved_write.proofs.put_number.Goals as goal

pub returns : goal.returns
unfolding lay
returns c = rw (two_digits c.args.x, c.copy_from_slice.ensures.after, c.to_be_bytes.ensures)
