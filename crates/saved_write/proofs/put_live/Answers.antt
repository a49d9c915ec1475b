use mathlib.Core.Path.{◌≡◌, refl, sym, ap}
use Prim.Native.Nat.{◌+◌}
use native.Mathlib.Omega.{arith}
use lib.ListN.{length-take, length-drop}
use borrow.Author.Rules.{rules}
use Rattle.table.specs.Lent.{lent}
use Rattle.index.specs.Index.{live_of}
use Rattle.saved_write.specs.Inner.{fields_of, live_line}
use Rattle.saved_write.proofs.Laying.{put_more, put_same}
use Rattle.saved_write.proofs.Sections.{live_fields, live_more, live_room, live_start}
use Rattle.saved_write.proofs.put_live.Goals as goal

pub loop-k-init : goal.loop-k-init
loop-k-init c = (refl, omega arith, live_start _ _ _)

pub put_if_live-at-requires-clause-room : goal.put_if_live-at-requires-clause-room
put_if_live-at-requires-clause-room c =
    let r = live_room _ _ _ _ c.loop-k-test.true c.requires c.loop-k.invariant.2 in
    simp (length-take, length-drop) (omega arith)

pub overflow_add-at : goal.overflow_add-at
overflow_add-at c =
    let r = live_room _ _ _ _ c.loop-k-test.true c.requires c.loop-k.invariant.2 in
    omega (arith, c.put_if_live-at.ensures.long)

pub loop-k-preserved : goal.loop-k-preserved
loop-k-preserved c =
    let l = c.loop-k in
    let t = lent c.args.t.now.table in
    let v = live_of c.args.live.now in
    let r = live_room t v l.k c.args.t.now.table.clauses c.loop-k-test.true c.requires l.invariant.2 in
    let p = put_more (live_fields t v l.k) (fields_of 2 (live_line t v (l.k + 1))) l.invariant.2 c.put_if_live-at.ensures in
    (search rules, omega (arith, c.put_if_live-at.ensures.long), put_same (sym (live_more t v l.k)) p)

pub returns : goal.returns
returns c =
    let e : c.loop-k.k ≡ c.args.t.now.table.clauses = omega arith in
    put_same (ap (live_fields (lent c.args.t.now.table) (live_of c.args.live.now)) e) c.loop-k.invariant.2
