use Rattle.std.proofs.Common.{◌≡◌, ◌-◌, ◌<◌, ◌≤◌, arith, length, get_or}
use Rattle.table.specs.Lent.{lent}
use Rattle.table.specs.Table.{offset}
use Rattle.table.proofs.Soundness.{Sound, sound_of}
use Rattle.index.proofs.Links.{place_small, place_code, fill_start, fill_more, fill_end}
use Rattle.index.proofs.link_row.Goals as goal
use Rattle.index.proofs.link_row.Goals.{In-loop-p, Start}

known : (c : Start) → Sound (lent c.args.t.now.table)
known c = sound_of _ c.requires.linking.table_sound

-- the place is within the buffers, and the code that stands there within the heads
small : (c : In-loop-p) → (c.loop-p.p < 16000) × (c.loop-p.p < length c.args.t.now.table.lits.now) × (get_or c.args.t.now.table.lits.now c.loop-p.p 0 < 4002)
unfolding offset
small c =
    let s = sound_of (lent c.args.t.now.table) c.requires.linking.table_sound in
    let b = place_small _ s _ c.requires.named.0 c.requires.named.1 c.loop-p.p (omega arith) (omega arith) in
    (b.0, b.1, (place_code _ s _ c.requires.named.0 c.requires.named.1 c.loop-p.p (omega arith) (omega arith)).1)

pub offset_bounds-t-k : goal.offset_bounds-t-k
offset_bounds-t-k c = omega (arith, (known (goal.at.offset_bounds-t-k c).Start).clauses)

pub bounds-t-k : goal.bounds-t-k
bounds-t-k c = omega (arith, (known (goal.at.bounds-t-k c).Start).shape.there)

pub offset_bounds-t-k-2 : goal.offset_bounds-t-k-2
offset_bounds-t-k-2 c = omega (arith, (known (goal.at.offset_bounds-t-k-2 c).Start).clauses)

pub bounds-t-k-2 : goal.bounds-t-k-2
bounds-t-k-2 c = omega (arith, (known (goal.at.bounds-t-k-2 c).Start).shape.there)

pub loop-p-init : goal.loop-p-init
unfolding offset
loop-p-init c = fill_start _ _ _ _ c.requires.linking

pub bounds-t-p : goal.bounds-t-p
bounds-t-p c = omega (arith, small (goal.at.bounds-t-p c).In-loop-p)

pub bounds-heads-x : goal.bounds-heads-x
bounds-heads-x c = omega (arith, small (goal.at.bounds-heads-x c).In-loop-p, c.loop-p.invariant.heads_many)

pub bounds-nexts-p : goal.bounds-nexts-p
bounds-nexts-p c = omega (arith, small (goal.at.bounds-nexts-p c).In-loop-p, c.loop-p.invariant.nexts_many)

pub overflow_cast-heads : goal.overflow_cast-heads
overflow_cast-heads c = omega (arith, (known (goal.at.overflow_cast-heads c).Start).clauses)

pub bounds-heads-x-in-loop-p : goal.bounds-heads-x-in-loop-p
bounds-heads-x-in-loop-p c = omega (arith, small (goal.at.bounds-heads-x-in-loop-p c).In-loop-p, c.loop-p.invariant.heads_many)

pub loop-p-preserved : goal.loop-p-preserved
unfolding offset
loop-p-preserved c =
    let o = c in
    fill_more _ (known (goal.at.loop-p-preserved o).Start) _ c.requires.named.0 c.requires.named.1 _ (omega arith) (omega arith) _ _ c.loop-p.invariant

pub returns : goal.returns
unfolding offset
returns c =
    let o = c in
    let up : get_or c.args.t.now.table.offs.now (c.args.k - 1) 0 ≤ get_or c.args.t.now.table.offs.now c.args.k 0 = (known (goal.at.returns o).Start).shape.rising _ c.requires.named.0 c.requires.named.1 in
    let e : c.loop-p.p ≡ get_or c.args.t.now.table.offs.now c.args.k 0 = omega arith in
    fill_end _ c.requires.linking.table_sound _ _ _ c.requires.named.0 c.requires.named.1 (rw e at c.loop-p.invariant)
