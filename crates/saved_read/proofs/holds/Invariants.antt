use mathlib.Core.Path.{◌≡◌}
use mathlib.Core.Bool.{false}
use lib.ListN.{take}
use Rattle.rules.specs.Clause.{mem}
use Rattle.saved.specs.Bytes.{numbers_of}
use Rattle.saved_read.proofs.holds.Given as goal

abbrev pub invariant-loop-i : goal.invariant-loop-i
invariant-loop-i l = mem l.x (take l.i (numbers_of 2 l.v)) ≡ false
