use mathlib.Core.Path.{refl}
use native.Mathlib.Numerals.{add-one}
use Rattle.saved_read.specs.Inner.{count_on, pushed_on}
use Rattle.saved_read.proofs.push_entry.Goals as goal

pub returns-in-None : goal.returns-in-None
unfolding count_on pushed_on
returns-in-None c = rw c.in-None.is (refl, refl)

pub returns-in-Some : goal.returns-in-Some
unfolding count_on pushed_on
returns-in-Some c = rw (c.push_on.ensures, c.in-Some.is, c.from.ensures, c.from-in-Some.ensures) (add-one c.args.count, refl)
