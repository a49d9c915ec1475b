use Rattle.std.proofs.Common.{◌<◌, arith, length}
use Rattle.table.specs.Lent.{lent}
use Rattle.removal.proofs.Desks.{turn_none, turn_made, turn_marked, turn_pushed, desk_few, live_room}
use Rattle.removal.proofs.Desk.take_turn.Goals as goal
use Rattle.removal.proofs.Desk.take_turn.Goals.{In-Some}

there : (c : In-Some) → c.args.k < length c.args.self.now.live.now
there c = omega (arith, c.args.self.now.room.own.many)

pub invariant_of-self : goal.invariant_of-self
invariant_of-self c = record {
  room = turn_marked (lent c.args.self.now.index.book.table) c.args.k c.in-Some.l c.args.self.now.room c.in-Some.ensures (there (goal.at.invariant_of-self c).In-Some);
}

pub overflow_cast-entry : goal.overflow_cast-entry
overflow_cast-entry c = omega (arith, desk_few (lent c.args.self.now.index.book.table) c.args.self.now.room)

pub push_on-requires : goal.push_on-requires
push_on-requires c =
    omega (arith, c.args.self.now.room.room, live_room (lent c.args.self.now.index.book.table) c.args.k c.in-Some.l c.args.self.now.room c.in-Some.ensures)

pub invariant_of-self-in-Some : goal.invariant_of-self-in-Some
invariant_of-self-in-Some c = record {
  room = rw c.push_on.ensures
      (turn_pushed (lent c.args.self.now.index.book.table) c.args.k c.in-Some.l c.args.self.now.room c.in-Some.ensures
      (there (goal.at.invariant_of-self-in-Some c).In-Some));
}

pub returns-in-Some-clause-made : goal.returns-in-Some-clause-made
returns-in-Some-clause-made c =
    rw c.push_on.ensures
    (turn_made (lent c.args.self.now.index.book.table) c.args.k c.in-Some.l c.in-Some.ensures (there (goal.at.returns-in-Some-clause-made c).In-Some))

pub returns-in_default-clause-made : goal.returns-in_default-clause-made
returns-in_default-clause-made c = turn_none (lent c.args.self.now.index.book.table) c.args.k c.in_default.ensures
