use mathlib.Core.Path.{◌≡◌}
use mathlib.Core.List.{◌∷◌}
use Prim.Native.Nat.{◌+◌, ◌*◌}
use native.Mathlib.Omega.{arith}
use lib.ListN.{get_or}
use Rattle.table.specs.Lent.{lent}
use Rattle.table.specs.Stack.{entry_at}
use Rattle.table.proofs.Soundness.{sound_of}
use Rattle.stack.proofs.Entries.{Named, entry_named}
use Rattle.saved.specs.Field.{field}
use Rattle.saved_write.specs.Inner.{removed_line}
use Rattle.saved_write.proofs.Laying.{put_same}
use Rattle.saved_write.proofs.Sections.{removed_written, removed_fits}
use Rattle.saved_write.proofs.put_entry.Goals as goal
use Rattle.saved_write.proofs.put_entry.Goals.{Start}

-- the entry is not bad
named : (s : Start)
    → Named (lent s.args.opened.now.book.table)
    (get_or s.args.opened.now.stack.words.now (2 * s.args.i) 0)
    (get_or s.args.opened.now.stack.words.now (2 * s.args.i + 1) 0)
named s = entry_named _ _ _ s.args.i s.args.opened.now.book.sound s.args.opened.now.passed.none_bad s.requires.i_lt_count

pub overflow_cast-k : goal.overflow_cast-k
overflow_cast-k c =
    let n = named (goal.at.overflow_cast-k c).Start in omega (arith, c.entry-entry.ensures.clause, n.high, (sound_of _ c.args.opened.now.book.sound).clauses)

pub overflow_cast-l : goal.overflow_cast-l
overflow_cast-l c = let n = named (goal.at.overflow_cast-l c).Start in omega (arith, c.entry-entry.ensures.literal, n.small)

pub row-requires : goal.row-requires
row-requires c =
    let n = named (goal.at.row-requires c).Start in
    (omega (arith, c.entry-entry.ensures.clause, n.low), omega (arith, c.entry-entry.ensures.clause, n.high))

pub put_field-requires-clause-few : goal.put_field-requires-clause-few
put_field-requires-clause-few c =
    let n = named (goal.at.put_field-requires-clause-few c).Start in
    let r = rw (c.from.ensures, c.entry-entry.ensures.clause) at c.row.ensures.contents in
    (omega arith, (removed_fits _ c.args.opened.now.book.sound _ n.low n.high r _ c.requires.room).0)

pub put_field-requires-clause-room : goal.put_field-requires-clause-room
put_field-requires-clause-room c =
    let n = named (goal.at.put_field-requires-clause-room c).Start in
    let r = rw (c.from.ensures, c.entry-entry.ensures.clause) at c.row.ensures.contents in
    (removed_fits _ c.args.opened.now.book.sound _ n.low n.high r _ c.requires.room).1

pub returns : goal.returns
returns c =
    let n = named (goal.at.returns c).Start in
    let e = c.entry-entry.result in
    let r = rw (c.from.ensures, c.entry-entry.ensures.clause) at c.row.ensures.contents in
    let w : field 2 3 (e.clause ∷ e.literal ∷ c.row.result.now)
    ≡ field 2 3 (removed_line (lent c.args.opened.now.book.table) (entry_at c.args.opened.now.stack.words.now c.args.i)) =
    rw (c.entry-entry.ensures.clause, c.entry-entry.ensures.literal) (removed_written _ c.args.opened.now.book.sound _ n.low n.high r _) in
    put_same w c.put_field.ensures
