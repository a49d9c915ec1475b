use Rattle.std.proofs.Common.{◌≡◌, ◌≤◌, ◌-◌, take, length}
use lib.Dec.{ltb}
use Rattle.rules.specs.Clause.{mem}
use Rattle.rules.proofs.part_contains.Given as goal

abbrev pub invariant-loop-i : goal.invariant-loop-i
invariant-loop-i l = (l.i ≤ length l.c) × (l.many ≤ l.i) × (ltb 0 l.many ≡ mem l.l (take l.i l.c))

abbrev pub decreases-loop-i : goal.decreases-loop-i
decreases-loop-i l = length l.c - l.i
