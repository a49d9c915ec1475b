use mathlib.Core.Path.{◌≡◌}
use lib.ListN.{length, take}
use Rattle.table.specs.Stack.{lay}
use Rattle.saved.specs.Bytes.{bytes_of}
use Rattle.saved_write.proofs.put_numbers.Given as goal

abbrev pub invariant-loop-i : goal.invariant-loop-i
invariant-loop-i l = (length l.out ≡ length l.initial.out) × (l.out ≡ lay (bytes_of 2 (take l.i l.xs)) l.initial.out)
