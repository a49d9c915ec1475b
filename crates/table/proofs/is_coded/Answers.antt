use Rattle.std.proofs.Common.{arith}
use Rattle.std.proofs.lemmas.Bool.Decides.{nat_tests}
use Rattle.table.specs.Table.{coded}
use Rattle.table.proofs.is_coded.Goals as goal

pub returns-then-x-ge2 : goal.returns-then-x-ge2
unfolding coded
returns-then-x-ge2 c = grind (arith, nat_tests)

pub returns-else-x-ge2 : goal.returns-else-x-ge2
unfolding coded
returns-else-x-ge2 c = grind (arith, nat_tests)
