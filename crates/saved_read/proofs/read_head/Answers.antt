use mathlib.Core.Path.{◌≡◌, sym, ◌∙◌}
use mathlib.Core.Bool.{◌&&◌}
use borrow.Author.Rules.{rules}
use borrow.Author.Tests.{le-leb, lt-leb}
use lib.Dec.{leb}
use Rattle.std.specs.Prelude.{Ok, Err}
use Rattle.table.specs.Answer.{test, ◌then◌}
use Rattle.table.specs.declared.Refusal.TheVariants.{OverLimit, BadSaved}
use Rattle.table.specs.Res.{or_fault}
use Rattle.saved.specs.Form.{Head}
use Rattle.saved_read.specs.Inner.{header_of}
use Rattle.saved_read.proofs.Found.{value_found, head_lost, head_other, head_is}
use Rattle.saved_read.proofs.read_head.Goals as goal
use Rattle.saved_read.proofs.read_head.Goals.{After-from-removals, then-variables-gt2000-via-then-variables-gt2000, then-variables-gt2000-via-else-variables-gt2000+then-clauses-gt4000, then-variables-gt2000-via-else-variables-gt2000+else-clauses-gt4000+then-literals-gt16000}

abbrev numbers : After-from-removals → Head
numbers c = record { variables = c.from-variables.result; clauses = c.from-clauses.result; literals = c.from-literals.result; removals = c.from-removals.result }

-- what is left to test once the four numbers are there
left : (c : After-from-removals) → header_of c.args.bytes.now
    ≡ or_fault
    (test (leb (numbers c).variables 2_000 && leb (numbers c).clauses 4_000 && leb (numbers c).literals 16_000) (OverLimit 0)
    then test (leb (numbers c).removals (numbers c).clauses) (BadSaved 0))
    (Ok (numbers c))
left c =
    head_is c.args.bytes.now _ (value_found c.args.bytes.now 0 1 _ c.in_ok-value.ensures) (numbers c) c.if-value-ne8.false
    (c.from-variables.ensures ∙ c.number_at.ensures) (c.from-clauses.ensures ∙ c.number_at-2.ensures)
    (c.from-literals.ensures ∙ c.number_at-3.ensures) (c.from-removals.ensures ∙ c.number_at-4.ensures)

pub returns-in_err-value : goal.returns-in_err-value
returns-in_err-value c =
    let r : c.from_residual.result ≡ Err c.in_err-value.field-0.0 = search rules in
    rw r (sym (head_lost c.args.bytes.now _ c.in_err-value.ensures))

pub returns-then-value-ne8 : goal.returns-then-value-ne8
returns-then-value-ne8 c =
    sym (head_other c.args.bytes.now _ (value_found c.args.bytes.now 0 1 _ c.in_ok-value.ensures) c.if-value-ne8.true)

pub returns-then-variables-gt2000 : goal.returns-then-variables-gt2000
returns-then-variables-gt2000 c =
    let e = left (goal.at.returns-then-variables-gt2000 c).After-from-removals in
    elim c.then-variables-gt2000.branch [
      | then-variables-gt2000-via-then-variables-gt2000 w ↦ sym (e ∙ rw (lt-leb _ 2_000 w.if-variables-gt2000.true))
      | then-variables-gt2000-via-else-variables-gt2000+then-clauses-gt4000 w ↦ sym (e ∙ rw (le-leb _ 2_000 w.if-variables-gt2000.false, lt-leb _ 4_000 w.if-clauses-gt4000.true))
      | then-variables-gt2000-via-else-variables-gt2000+else-clauses-gt4000+then-literals-gt16000 w ↦
          sym (e ∙ rw (le-leb _ 2_000 w.if-variables-gt2000.false, le-leb _ 4_000 w.if-clauses-gt4000.false, lt-leb _ 16_000 w.if-literals-gt16000.true))
    ]

pub returns-then-clauses-removals : goal.returns-then-clauses-removals
returns-then-clauses-removals c =
    let e = left (goal.at.returns-then-clauses-removals c).After-from-removals in
    sym (e ∙ rw (le-leb _ 2_000 c.if-variables-gt2000.false, le-leb _ 4_000 c.if-clauses-gt4000.false, le-leb _ 16_000 c.if-literals-gt16000.false, lt-leb _ _ c.if-clauses-removals.true))

pub returns : goal.returns
returns c =
    let e = left (goal.at.returns c).After-from-removals in
    sym (e ∙ rw (le-leb _ 2_000 c.if-variables-gt2000.false, le-leb _ 4_000 c.if-clauses-gt4000.false, le-leb _ 16_000 c.if-literals-gt16000.false, le-leb _ _ c.if-clauses-removals.false))
