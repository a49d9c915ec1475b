use mathlib.Core.Path.{◌≡◌}
use Prim.Native.Nat.{◌-◌}
use lib.ListN.{length}
use Rattle.table.specs.Inner.{Stamped}
use Rattle.saved_read.specs.Inner.{head_as}
use Rattle.saved_read.proofs.State.{State}
use Rattle.saved_read.proofs.scan_lines.Given as goal

abbrev pub invariant-loop-read : goal.invariant-loop-read
invariant-loop-read l =
    State l.bytes (head_as l.head) (l.head.clauses - l.read) l.last l.total l.at l.parts l.words l.count × (length l.parts ≡ length l.initial.parts) × (length l.words ≡ length l.initial.words)
    × (length l.seen ≡ 4_002) × Stamped l.seen l.read
