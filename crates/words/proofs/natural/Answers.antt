use mathlib.Core.Path.{ap, sym, ◌∙◌}
use Prim.Native.Nat.{min}
use Rattle.std.specs.Prelude.{option_map}
use Rattle.std.proofs.Common.{rules}
use Rattle.words.proofs.Digits as Digits
use Rattle.words.proofs.natural.Goals as goal

pub returns-in_default : goal.returns-in_default
returns-in_default c =
    c.value_of.ensures ∙ ap (option_map (min 1000000)) (sym (Digits.natural_digits _ c.in_default.len_at_least (search rules)))

pub returns-in-empty : goal.returns-in-empty
returns-in-empty c = ap (option_map (min 1000000)) (sym (Digits.natural_none _ c.in-empty.len_below))

pub returns-in-empty-2 : goal.returns-in-empty-2
returns-in-empty-2 c = ap (option_map (min 1000000)) (sym (Digits.natural_zero _ c.in-empty.len_at_least (search rules)))
