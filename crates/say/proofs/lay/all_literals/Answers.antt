-- The first 17 offsets are those that `offsets` laid.
use Rattle.std.proofs.Common.{◌≢◌, ◌<◌, length, arith, get_or-set_other}
use Rattle.say.proofs.Offsets.{offset_at-thousands}
use Rattle.say.proofs.lay.all_literals.Goals as goal

pub returns-then-offs-gt17-clause-long : goal.returns-then-offs-gt17-clause-long
returns-then-offs-gt17-clause-long c = λ k h l.
    let e = offset_at-thousands k (omega arith) in
    let ne : k ≢ 17 = omega arith in
    let lt : k < length c.offsets.new.offs = omega arith in
    let at = c.offsets.ensures k lt in
    rw get_or-set_other cc

pub returns-else-offs-gt17-clause-long : goal.returns-else-offs-gt17-clause-long
returns-else-offs-gt17-clause-long c = λ k h l.
    let e = offset_at-thousands k (omega arith) in let at = c.offsets.ensures k l in cc
