use mathlib.Core.Path.{sym, ap, ◌∙◌}
use mathlib.Core.List.{List, [], ◌++◌}
use Prim.Native.Nat.{ℕ, ◌+◌, ◌≤◌}
use native.Mathlib.Omega.{arith}
use lib.ListN.{length, length-take, length-drop}
use Rattle.table.specs.Lent.{lent}
use Rattle.table.specs.Table.{offset}
use Rattle.table.specs.Stack.{lay}
use Rattle.table.proofs.Laying.{tail_laid}
use Rattle.index.specs.Index.{live_of}
use Rattle.saved.specs.Field.{end_tag, field}
use Rattle.saved.proofs.Lengths.{length_field}
use Rattle.saved_write.proofs.Laying.{put_more}
use Rattle.saved_write.proofs.Sections.{live_fields, removed_fields, head_fields, form_whole, form_room}
use Rattle.saved_write.proofs.put_form.Goals as goal
use Rattle.saved_write.proofs.put_form.Goals.{After-put_field-live_at}

-- the room that the live clauses, the removed ones and the end need behind the header
behind : (c : After-put_field-live_at)
    → c.put_field-live_at.result
    + length (live_fields (lent c.args.opened.now.book.table) (live_of c.args.live.now) c.args.opened.now.book.table.clauses)
    + length (removed_fields (lent c.args.opened.now.book.table) c.args.opened.now.stack.words.now c.args.opened.now.stack.count)
    + 3
    ≤ length c.args.out.now
behind c =
    let h = c.put_field-live_at.ensures.long ∙ length_field 2 1 _ in omega (arith, form_room _ _ _ c.args.live.now c.requires.marked c.requires.room)

pub put_field-live_at-requires-clause-room : goal.put_field-live_at-requires-clause-room
put_field-live_at-requires-clause-room c = omega (arith, form_room _ _ _ c.args.live.now c.requires.marked c.requires.room)

pub slice_bounds-put_live-count : goal.slice_bounds-put_live-count
slice_bounds-put_live-count c =
    omega (arith, behind (goal.at.slice_bounds-put_live-count c).After-put_field-live_at)

pub slice_bounds-put_live-start : goal.slice_bounds-put_live-start
slice_bounds-put_live-start c =
    omega (arith, behind (goal.at.slice_bounds-put_live-start c).After-put_field-live_at)

pub put_live-requires : goal.put_live-requires
put_live-requires c =
    simp (length-take, length-drop)
    (omega (arith, behind (goal.at.put_live-requires c).After-put_field-live_at))

pub overflow_add-removed_at : goal.overflow_add-removed_at
overflow_add-removed_at c =
    omega (arith, behind (goal.at.overflow_add-removed_at c).After-put_field-live_at, c.put_live.ensures.long)

pub slice_bounds-put_removed-count : goal.slice_bounds-put_removed-count
slice_bounds-put_removed-count c =
    omega (arith, behind (goal.at.slice_bounds-put_removed-count c).After-put_field-live_at, c.put_live.ensures.long)

pub slice_bounds-put_removed-start : goal.slice_bounds-put_removed-start
slice_bounds-put_removed-start c =
    omega (arith, behind (goal.at.slice_bounds-put_removed-start c).After-put_field-live_at, c.put_live.ensures.long)

pub put_removed-requires : goal.put_removed-requires
put_removed-requires c =
    simp (length-take, length-drop)
    (omega (arith, behind (goal.at.put_removed-requires c).After-put_field-live_at, c.put_live.ensures.long))

pub overflow_add-end : goal.overflow_add-end
overflow_add-end c =
    omega (arith, behind (goal.at.overflow_add-end c).After-put_field-live_at, c.put_live.ensures.long, c.put_removed.ensures.long)

pub slice_bounds-put_field-count : goal.slice_bounds-put_field-count
slice_bounds-put_field-count c =
    omega (arith, behind (goal.at.slice_bounds-put_field-count c).After-put_field-live_at, c.put_live.ensures.long, c.put_removed.ensures.long)

pub slice_bounds-put_field-start : goal.slice_bounds-put_field-start
slice_bounds-put_field-start c =
    omega (arith, behind (goal.at.slice_bounds-put_field-start c).After-put_field-live_at, c.put_live.ensures.long, c.put_removed.ensures.long)

pub put_field-requires-clause-room : goal.put_field-requires-clause-room
put_field-requires-clause-room c =
    simp (length-take, length-drop)
    (omega (arith, behind (goal.at.put_field-requires-clause-room c).After-put_field-live_at, c.put_live.ensures.long, c.put_removed.ensures.long))

pub returns : goal.returns
unfolding offset
returns c =
    let t = lent c.args.opened.now.book.table in
    let ws = c.args.opened.now.stack.words.now in
    let n = c.args.opened.now.stack.count in
    let h = head_fields t ws n c.args.live.now c.requires.marked in
    let l = live_fields t (live_of c.args.live.now) t.clauses in
    let g = removed_fields t ws n in
    let p₂ = put_more h l c.put_field-live_at.ensures c.put_live.ensures in
    let p₃ = put_more (h ++ l) g p₂ c.put_removed.ensures in
    tail_laid (h ++ l ++ g) (field 2 end_tag []) c.args.out.now _ _ _ p₃.laid (sym p₃.long) c.put_field.ensures.laid
    ∙ ap (λ (z : List ℕ). lay z c.args.out.now) (form_whole t ws n c.args.live.now c.requires.marked)
