use native.Mathlib.Omega.{arith}
use mathlib.Core.Path.{◌≡◌, ap, sym, ◌∙◌}
use lib.ListN.{length, take}
use lib.Seq.{length-take-le}
use Rattle.table.specs.Limits.{base}
use Rattle.words.specs.declared.Section.TheVariants.{ProblemLine}
use Rattle.words.specs.Tokens.{tokens_from}
use Rattle.text.specs.Problem.{from_p}
use Rattle.text.proofs.Outcomes as Outcomes
use Rattle.text.proofs.read_problem.Goals as goal

pub returns-then-begins_at : goal.returns-then-begins_at
returns-then-begins_at c =
    let a = c.args in
    let l : length (take a.end a.text.now) ≡ a.end = length-take-le _ _ (omega arith) in
    let r = c.read_counts.ensures in
    record {
      same = Outcomes.problem_yes base a.text.now a.start a.end (sym c.begins_at.ensures ∙ c.if-begins_at.true)
          ∙ ap (λ x. from_p base x (tokens_from ProblemLine (take a.end a.text.now) a.start)) (sym l) ∙ r.same;
      placed = r.placed;
    }

pub returns-else-begins_at : goal.returns-else-begins_at
returns-else-begins_at c =
    let a = c.args in
    record { same = Outcomes.problem_no base a.text.now a.start a.end (sym c.begins_at.ensures ∙ c.if-begins_at.false); placed = tt }
