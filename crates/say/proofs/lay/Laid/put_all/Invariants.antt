use Rattle.std.proofs.Common.{◌≡◌, ◌++◌, length, take}
use Rattle.say.specs.Lay.{laid, fitting}
use Rattle.say.proofs.lay.Laid.put_all.Given as goal

abbrev pub invariant-loop-byte : goal.invariant-loop-byte
invariant-loop-byte l = record {
  same_room : l.self.room.ghost_name ≡ l.initial.self.room.ghost_name;
  room : length l.self.room.now ≡ length l.initial.self.room.now;
  bytes : laid l.self ≡ fitting l.initial.self (laid l.initial.self ++ take l.byte-index l.bytes);
}
