use Rattle.std.proofs.Common.{◌≡◌, ℕ, ◌<◌, ◌≤◌, sym, ◌∙◌, ap, arith}
use Rattle.rules.specs.Walk.{found}
use Rattle.rules.specs.Clause.{neg}
use Rattle.rules.specs.Book.{obstacle}
use Rattle.rules.proofs.Literals.{neg_coded}
use Rattle.std.specs.Prelude.{Option}
use Rattle.table.specs.Table.{Table}
use Rattle.table.specs.Lent.{lent}
use Rattle.table.proofs.Found.{or_zero, found_number, found_again, some_found, positive}
use Rattle.table.proofs.Soundness.{Sound, sound_of, literal_coded}
use Rattle.index.specs.Index.{holder_above}
use Rattle.index.proofs.Holders.{ahead, walk_start, walk_next, walk_stop, walk_end, ahead_less}
use Rattle.index.proofs.Reasons.{bars_holder, bars_told}
use Rattle.index.proofs.Index.test_literal.Goals as goal
use Rattle.index.proofs.Index.test_literal.Goals.{Start, In-Some}

known : (c : Start) → Sound (lent c.args.self.now.book.table)
known c = sound_of _ c.args.self.now.book.sound

small : (c : Start) → neg c.args.l < 4002
small c =
    let s = sound_of (lent c.args.self.now.book.table) c.args.self.now.book.sound in
    let q = literal_coded _ s _ _ c.requires.named.0 c.requires.named.1 c.requires.held in
    omega (arith, neg_coded _ _ q.1, s.variables)

-- the walk stands at a clause of the table, which holds the negation
at_clause : (c : In-Some) → (1 ≤ c.in-Some.j) × (c.in-Some.j ≤ c.args.self.now.book.table.clauses)
at_clause c = (positive c.loop-next.next c.loop-next.invariant.link c.in-Some.is, rw c.in-Some.is at c.loop-next.invariant.walk.within)

pub first_holder-next-requires : goal.first_holder-next-requires
first_holder-next-requires c = let o = c in omega (arith, small (goal.at.first_holder-next-requires o).Start, c.negated-z.ensures)

-- what a link leads to is the lowest holder above
led : (t : Table) (z l j : ℕ) (o : Option ℕ) → z ≡ neg l → o ≡ found (holder_above t z j) → (o ≡ found (or_zero o)) × (or_zero o ≡ holder_above t (neg l) j)
led t z l j o n e = (rw e (found_again _), ap or_zero e ∙ found_number _ ∙ ap (λ (x : ℕ). holder_above t x j) n)

pub loop-next-init : goal.loop-next-init
loop-next-init c =
    let q = led (lent c.args.self.now.book.table) _ c.args.l 0 _ c.negated-z.ensures c.first_holder-next.ensures in
    record { link = q.0; walk = walk_start _ _ _ (λ i n. bars_holder _ _ _ _ i n) _ q.1 }

pub bars-requires-clause-named : goal.bars-requires-clause-named
bars-requires-clause-named c = let o = c in let q = at_clause (goal.at.bars-requires-clause-named o).In-Some in (c.requires.live.many, q.0, q.1)

pub returns-then-bars : goal.returns-then-bars
unfolding obstacle
returns-then-bars c =
    let o = c in
    let q = at_clause (goal.at.returns-then-bars o).In-Some in
    some_found q.0
    ∙ ap found (sym (walk_stop _ _ _ _ (rw c.in-Some.is at c.loop-next.invariant.walk) q.0
    (bars_told _ _ _ _ _ _ _ c.row-c.ensures.contents c.bars.ensures ∙ c.if-bars.true)))

pub next_holder-next-requires-clause-named : goal.next_holder-next-requires-clause-named
next_holder-next-requires-clause-named c = let o = c in at_clause (goal.at.next_holder-next-requires-clause-named o).In-Some

pub next_holder-next-requires-clause-held : goal.next_holder-next-requires-clause-held
next_holder-next-requires-clause-held c =
    let o = c in
    let w = rw c.in-Some.is at c.loop-next.invariant.walk in
    rw c.negated-z.ensures (w.holder (at_clause (goal.at.next_holder-next-requires-clause-held o).In-Some).0)

pub loop-next-smaller : goal.loop-next-smaller
loop-next-smaller c =
    let o = c in
    let q = at_clause (goal.at.loop-next-smaller o).In-Some in
    let e = led (lent c.args.self.now.book.table) _ c.args.l c.in-Some.j _ c.negated-z.ensures c.next_holder-next.ensures in
    let h : ahead c.args.self.now.book.table.clauses (or_zero c.next_holder-next.result) < ahead c.args.self.now.book.table.clauses c.in-Some.j
    = ahead_less (lent c.args.self.now.book.table) _ _ _ q.0 q.1 e.1 in
    rw c.in-Some.is h

pub loop-next-preserved : goal.loop-next-preserved
loop-next-preserved c =
    let o = c in
    let q = at_clause (goal.at.loop-next-preserved o).In-Some in
    let e = led (lent c.args.self.now.book.table) _ c.args.l c.in-Some.j _ c.negated-z.ensures c.next_holder-next.ensures in
    record {
      link = e.0;
      walk = walk_next _ _ _ (λ i n. bars_holder _ _ _ _ i n) _ _ (rw c.in-Some.is at c.loop-next.invariant.walk) q.0
          (bars_told _ _ _ _ _ _ _ c.row-c.ensures.contents c.bars.ensures ∙ c.if-bars.false) e.1;
    }

pub returns : goal.returns
unfolding obstacle
returns c = sym (ap found (walk_end _ _ _ (rw c.in_default.is at c.loop-next.invariant.walk)))
