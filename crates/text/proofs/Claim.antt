-- The one claim of the table of examples, computed over the definitions. Assumes nothing.
use mathlib.Core.Path.{◌≡◌, refl}
use mathlib.Core.Bool.{true}
use Rattle.rules.specs.Clause.{mem}
use Rattle.table.specs.Stack.{lay}
use Rattle.words.specs.Tokens.{scan}
use Rattle.words.specs.Numbers.{digits, natural, number}
use Rattle.text.specs.Lines.{line_end, prologue}
use Rattle.text.specs.Problem.{problem}
use Rattle.text.specs.Clauses.{clause, clauses}
use Rattle.text.specs.Text.{table_of, reading}
use Rattle.table.specs.Answer.{same_reply}
use Rattle.text.specs.Examples.{same_outcome, small, passes, all_pass, examples}

pub every_example_passes : all_pass examples ≡ true
unfolding mem lay scan digits natural number line_end prologue problem clause clauses table_of reading same_reply same_outcome small passes all_pass examples
every_example_passes = refl
