use Rattle.std.proofs.Common.{length, ◌-◌, ◌≤◌, ◌≡◌}
use Rattle.lines.proofs.read_table.Given as goal

abbrev pub invariant-loop-len : goal.invariant-loop-len
invariant-loop-len g l = (length l.table ≡ length l.initial.table) × (l.len ≤ length l.table)

abbrev pub decreases-loop-len : goal.decreases-loop-len
decreases-loop-len g l = length l.table - l.len
