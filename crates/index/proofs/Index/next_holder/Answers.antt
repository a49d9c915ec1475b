use Rattle.std.proofs.Common.{◌≡◌, ◌-◌, ◌<◌, ◌∙◌, ap, arith, length, get_or}
use Rattle.rules.specs.Walk.{found}
use Rattle.table.specs.Lent.{lent}
use Rattle.table.specs.Table.{offset}
use Rattle.table.proofs.Soundness.{Sound, sound_of}
use Rattle.index.proofs.Links.{place_small, seek_more, seek_found, seek_end}
use Rattle.index.proofs.Index.next_holder.Goals as goal
use Rattle.index.proofs.Index.next_holder.Goals.{In-loop-p, Start}

known : (c : Start) → Sound (lent c.args.self.now.book.table)
known c = sound_of _ c.args.self.now.book.sound

-- the place is within the buffers
small : (c : In-loop-p) → (c.loop-p.p < 16000) × (c.loop-p.p < length c.args.self.now.book.table.lits.now)
unfolding offset
small c = place_small (lent c.args.self.now.book.table) (sound_of _ c.args.self.now.book.sound) _ c.requires.named.0 c.requires.named.1 c.loop-p.p (omega arith) (omega arith)

pub offset_bounds-self-k : goal.offset_bounds-self-k
offset_bounds-self-k c = omega (arith, (known (goal.at.offset_bounds-self-k c).Start).clauses)

pub bounds-self-k : goal.bounds-self-k
bounds-self-k c = omega (arith, (known (goal.at.bounds-self-k c).Start).shape.there)

pub offset_bounds-self-k-2 : goal.offset_bounds-self-k-2
offset_bounds-self-k-2 c = omega (arith, (known (goal.at.offset_bounds-self-k-2 c).Start).clauses)

pub bounds-self-k-2 : goal.bounds-self-k-2
bounds-self-k-2 c = omega (arith, (known (goal.at.bounds-self-k-2 c).Start).shape.there)

pub loop-p-init : goal.loop-p-init
unfolding offset
loop-p-init c =
    let a = get_or c.args.self.now.book.table.offs.now (c.args.k - 1) 0 in
    let none : a - a ≡ 0 = omega arith in
    rw none c.requires.held

pub bounds-self-p : goal.bounds-self-p
bounds-self-p c = omega (arith, small (goal.at.bounds-self-p c).In-loop-p)

pub bounds-self-p-then-self-p : goal.bounds-self-p-then-self-p
bounds-self-p-then-self-p c = omega (arith, small (goal.at.bounds-self-p-then-self-p c).In-loop-p, c.args.self.now.indexed.nexts_many)

pub returns-then-self-p : goal.returns-then-self-p
unfolding offset
returns-then-self-p c =
    let o = c in
    c.linked.ensures
    ∙ ap found (seek_found _ (known (goal.at.returns-then-self-p o).Start) _ c.requires.named.0 c.requires.named.1 _ (omega arith) (omega arith)
    _ _ _ c.if-self-p.true c.args.self.now.indexed)

pub loop-p-preserved : goal.loop-p-preserved
unfolding offset
loop-p-preserved c =
    let o = c in
    seek_more _ (known (goal.at.loop-p-preserved o).Start) _ c.requires.named.0 c.requires.named.1 _ (omega arith) (omega arith) _ c.if-self-p.false c.loop-p.invariant

pub returns : goal.returns
unfolding offset
returns c =
    let o = c in
    absurd (seek_end _ (known (goal.at.returns o).Start) _ _ _ c.requires.named.0 c.requires.named.1 (omega arith) c.loop-p.invariant)
