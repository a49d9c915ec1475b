use mathlib.Core.Path.{◌≡◌}
use Prim.Native.Nat.{◌≤◌}
use lib.ListN.{length}
use Rattle.table.specs.Lent.{lent}
use Rattle.saved_write.specs.Inner.{Put}
use Rattle.saved_write.proofs.Sections.{removed_fields}
use Rattle.saved_write.proofs.put_removed.Given as goal

abbrev pub invariant-loop-i : goal.invariant-loop-i
invariant-loop-i l =
    (length l.out ≡ length l.initial.out)
    × (l.at ≤ length l.initial.out)
    × Put (removed_fields (lent l.opened.book.table) l.opened.stack.words.now l.i) l.initial.out l.out l.at
