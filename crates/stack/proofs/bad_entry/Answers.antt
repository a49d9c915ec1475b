use Rattle.std.proofs.Common.{◌≡◌, true, sym, ◌∙◌, arith}
use Rattle.table.specs.Lent.{lent}
use Rattle.table.specs.Stack.{entry_at}
use Rattle.index.specs.Index.{live_of}
use Rattle.stack.specs.Tests.{entry_names}
use Rattle.stack.proofs.Entries.{Named, reading_start, reading_within, reading_next, named, read_stop, read_end}
use Rattle.stack.proofs.bad_entry.Goals as goal
use Rattle.stack.proofs.bad_entry.Goals.{Else-not-entry_names}

-- the entry names a live clause and a literal of it
names : (c : Else-not-entry_names)
    → (entry_names (lent c.args.t.now.table) (live_of c.loop-i.live) (entry_at c.args.stack.now.words.now c.loop-i.i) ≡ true)
    × Named (lent c.args.t.now.table) c.entry-entry.result.clause c.entry-entry.result.literal
names c =
    let y = sym c.entry_names.ensures ∙ c.if-not-entry_names.false in (
      rw (c.entry-entry.ensures.clause, c.entry-entry.ensures.literal) at y,
      named (lent c.args.t.now.table) c.args.t.now.sound _ (reading_within _ _ _ _ _ _ c.loop-i.invariant) _ _ y,
    )

pub loop-i-init : goal.loop-i-init
loop-i-init c = reading_start _ _ _ _ _ c.requires

pub entry_names-requires : goal.entry_names-requires
entry_names-requires c = reading_within _ _ _ _ _ _ c.loop-i.invariant

pub returns-then-not-entry_names : goal.returns-then-not-entry_names
returns-then-not-entry_names c =
    let y = sym c.entry_names.ensures ∙ c.if-not-entry_names.true in
    read_stop _ _ _ _ _ c.loop-i.invariant c.loop-i-test.true (rw (c.entry-entry.ensures.clause, c.entry-entry.ensures.literal) at y)

pub bounds-live-entry : goal.bounds-live-entry
bounds-live-entry c = let o = c in omega (arith, (names (goal.at.bounds-live-entry o).Else-not-entry_names).1.high, c.loop-i.invariant.many)

pub loop-i-preserved : goal.loop-i-preserved
loop-i-preserved c =
    let o = c in
    let n = names (goal.at.loop-i-preserved o).Else-not-entry_names in
    rw c.entry-entry.ensures.clause (reading_next _ _ _ _ _ _ c.loop-i.invariant c.loop-i-test.true n.0 (rw c.entry-entry.ensures.clause at n.1.high))

pub returns : goal.returns
returns c = read_end _ _ _ _ _ c.loop-i.invariant (omega arith)
