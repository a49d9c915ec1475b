use mathlib.Core.Path.{◌≡◌}
use lib.ListN.{length}
use Rattle.table.specs.Stack.{lay}
use Rattle.saved.specs.Reading.{all_literals, all_offsets}
use Rattle.saved_read.specs.Inner.{row_of}
use Rattle.saved_read.proofs.fill_rows.Given as goal

abbrev pub invariant-loop-k : goal.invariant-loop-k
invariant-loop-k l =
    (l.at ≡ length (all_literals (row_of l.bytes l.parts) l.k)) × (length l.lits ≡ length l.initial.lits) × (length l.offs ≡ length l.initial.offs)
    × (l.lits ≡ lay (all_literals (row_of l.bytes l.parts) l.k) l.initial.lits) × (l.offs ≡ lay (all_offsets (row_of l.bytes l.parts) l.k) l.initial.offs)
