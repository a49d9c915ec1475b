use mathlib.Core.Path.{◌≡◌, refl, sym, ap}
use native.Mathlib.Omega.{arith}
use lib.ListN.{length-take, length-drop}
use borrow.Author.Rules.{rules}
use Rattle.table.specs.Lent.{lent}
use Rattle.table.specs.Stack.{entry_at}
use Rattle.saved.specs.Field.{field}
use Rattle.saved_write.specs.Inner.{removed_line}
use Rattle.saved_write.proofs.Laying.{put_more, put_same}
use Rattle.saved_write.proofs.Sections.{removed_fields, removed_more, removed_room, removed_start}
use Rattle.saved_write.proofs.put_removed.Goals as goal

pub loop-i-init : goal.loop-i-init
loop-i-init c = (refl, omega arith, removed_start _ _ _)

pub put_entry-at-requires-clause-room : goal.put_entry-at-requires-clause-room
put_entry-at-requires-clause-room c =
    let r = removed_room _ _ _ _ c.loop-i-test.true c.requires c.loop-i.invariant.2 in
    simp (length-take, length-drop) (omega arith)

pub overflow_add-at : goal.overflow_add-at
overflow_add-at c =
    let r = removed_room _ _ _ _ c.loop-i-test.true c.requires c.loop-i.invariant.2 in
    omega (arith, c.put_entry-at.ensures.long)

pub loop-i-preserved : goal.loop-i-preserved
loop-i-preserved c =
    let l = c.loop-i in
    let t = lent c.args.opened.now.book.table in
    let w = c.args.opened.now.stack.words.now in
    let r = removed_room t w l.i c.args.opened.now.stack.count c.loop-i-test.true c.requires l.invariant.2 in
    let p = put_more (removed_fields t w l.i) (field 2 3 (removed_line t (entry_at w l.i))) l.invariant.2 c.put_entry-at.ensures in
    (search rules, omega (arith, c.put_entry-at.ensures.long), put_same (sym (removed_more t w l.i)) p)

pub returns : goal.returns
returns c =
    let e : c.loop-i.i ≡ c.args.opened.now.stack.count = omega arith in
    put_same (ap (removed_fields (lent c.args.opened.now.book.table) c.args.opened.now.stack.words.now) e) c.loop-i.invariant.2
