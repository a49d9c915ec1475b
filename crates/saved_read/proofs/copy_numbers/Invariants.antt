use mathlib.Core.Path.{◌≡◌}
use lib.ListN.{length, take}
use Rattle.table.specs.Stack.{lay}
use Rattle.saved.specs.Bytes.{numbers_of}
use Rattle.saved_read.proofs.copy_numbers.Given as goal

abbrev pub invariant-loop-i : goal.invariant-loop-i
invariant-loop-i l = (length l.out ≡ length l.initial.out) × (l.out ≡ lay (take l.i (numbers_of 2 l.v)) l.initial.out)
