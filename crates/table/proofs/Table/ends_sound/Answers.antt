use Rattle.std.proofs.Common.{arith}
use Rattle.std.proofs.lemmas.Bool.Decides.{nat_tests}
use Rattle.table.specs.Table.{offset}
use Rattle.table.specs.Inner.{ends_sound}
use Rattle.table.proofs.Table.ends_sound.Goals as goal

pub returns-then-self-gt2000 : goal.returns-then-self-gt2000
unfolding ends_sound offset
returns-then-self-gt2000 c = grind (arith, nat_tests)

pub returns-then-e-le16000 : goal.returns-then-e-le16000
unfolding ends_sound offset
returns-then-e-le16000 c = grind (arith, nat_tests)

pub returns-else-e-le16000 : goal.returns-else-e-le16000
unfolding ends_sound offset
returns-else-e-le16000 c = grind (arith, nat_tests)
