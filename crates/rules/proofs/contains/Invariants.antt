use Rattle.std.proofs.Common.{◌≡◌, ◌≤◌, ◌-◌, length, drop}
use Rattle.rules.specs.Clause.{mem}
use Rattle.rules.proofs.contains.Given as goal

abbrev pub invariant-loop-from : goal.invariant-loop-from
invariant-loop-from l = (l.from ≤ length l.c) × (mem l.l (drop l.from l.c) ≡ mem l.l l.c)

abbrev pub decreases-loop-from : goal.decreases-loop-from
decreases-loop-from l = length l.c - l.from
