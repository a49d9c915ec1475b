use Rattle.std.proofs.Common.{◌≡◌, ◌-◌, refl, ◌∙◌, arith}
use Rattle.table.specs.Lent.{lent}
use Rattle.stack.proofs.Entries.{Named, entry_named}
use Rattle.rebuild.proofs.Replay.{walk_starts, walk_turns, walk_ends}
use Rattle.rebuild.proofs.Choice.walk_back.Goals as goal
use Rattle.rebuild.proofs.Choice.walk_back.Goals.{After-entry}

-- the entry names a clause and a literal of it
names : (c : After-entry) → Named (lent c.loop-i.self.opened.book.table) c.entry.result.clause c.entry.result.literal
names c =
    rw (c.entry.ensures.clause, c.entry.ensures.literal, c.loop-i.invariant.opened)
    (entry_named _ _ _ (c.loop-i.i - 1) c.args.self.now.opened.book.sound c.args.self.now.opened.passed.none_bad (omega arith))

pub loop-i-init : goal.loop-i-init
loop-i-init c = record { opened = refl; walked = walk_starts _ _ _ _; same_lend = refl }

pub mend-requires-clause-named : goal.mend-requires-clause-named
mend-requires-clause-named c = let o = c in let n = names (goal.at.mend-requires-clause-named o).After-entry in (n.low, n.high)

pub mend-requires-clause-coded : goal.mend-requires-clause-coded
mend-requires-clause-coded c = let o = c in (names (goal.at.mend-requires-clause-coded o).After-entry).code

pub loop-i-preserved : goal.loop-i-preserved
loop-i-preserved c =
    let o = c in
    let h = c.loop-i.invariant in
    record {
      opened = c.mend.ensures.opened ∙ h.opened;
      walked = walk_turns _ _ _ _ _ _ h.walked (c.loop-i.i - 1) (omega arith) (omega arith) (rw h.opened at c.loop-i.self.valued)
          (rw (c.entry.ensures.literal, h.opened) at (names (goal.at.loop-i-preserved o).After-entry).code)
          (rw (c.entry.ensures.clause, c.entry.ensures.literal, h.opened) at c.mend.ensures.vals);
      same_lend = c.mend.ensures.same_lend ∙ h.same_lend;
    }

pub returns-clause-vals : goal.returns-clause-vals
returns-clause-vals c =
    let h = c.loop-i.invariant in
    let e : c.loop-i.i ≡ 0 = omega arith in
    walk_ends _ _ _ _ _ (rw h.opened at c.loop-i.self.valued) (rw e at h.walked)
