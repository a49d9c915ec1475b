use Rattle.std.proofs.Common.{arith}
use Rattle.table.specs.Lent.{lent}
use Rattle.stack.proofs.Refusals.{open_within, open_marks}
use Rattle.removal.proofs.Rooms.{Pushable, pushable}
use Rattle.removal.proofs.Outcomes.{removal_unnamed, removal_unblocked, removal_made}
use Rattle.removal.proofs.remove_named.Goals as goal
use Rattle.removal.proofs.remove_named.Goals.{Else-not-entry_names}

named : (c : Else-not-entry_names) → Pushable (lent c.args.t.now.table) c.args.stack.now c.args.count c.args.entry.clause c.args.entry.literal
named c = pushable c.requires _ _ c.entry_names.ensures c.if-not-entry_names.false

pub entry_names-requires : goal.entry_names-requires
entry_names-requires c = open_within c.requires

pub returns-then-not-entry_names : goal.returns-then-not-entry_names
returns-then-not-entry_names c = removal_unnamed c.requires _ _ c.entry_names.ensures c.if-not-entry_names.true

pub overflow_cast-entry : goal.overflow_cast-entry
overflow_cast-entry c = omega (arith, (named (goal.at.overflow_cast-entry c).Else-not-entry_names).named.small)

pub prevented-requires-clause-live : goal.prevented-requires-clause-live
prevented-requires-clause-live c = open_marks c.requires

pub prevented-requires-clause-named : goal.prevented-requires-clause-named
prevented-requires-clause-named c = let n = (named (goal.at.prevented-requires-clause-named c).Else-not-entry_names).named in (n.low, n.high)

pub prevented-requires-clause-held : goal.prevented-requires-clause-held
prevented-requires-clause-held c = (named (goal.at.prevented-requires-clause-held c).Else-not-entry_names).named.holds

pub returns-then-prevented : goal.returns-then-prevented
returns-then-prevented c = removal_unblocked c.requires (named (goal.at.returns-then-prevented c).Else-not-entry_names) c.prevented.ensures c.if-prevented.true

pub push_on-requires : goal.push_on-requires
push_on-requires c = omega (arith, (named (goal.at.push_on-requires c).Else-not-entry_names).space)

pub returns : goal.returns
returns c = rw c.push_on.ensures (removal_made c.requires (named (goal.at.returns c).Else-not-entry_names) c.prevented.ensures c.if-prevented.false)
