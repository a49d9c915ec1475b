-- The piece is item i of the parts that `split` gives.
use Rattle.std.proofs.Common.{rules, tests, ◌==◌, List, [], ℕ, Bor, ap, ◌∙◌}
use Rattle.std.specs.List.{slice_split}
use Rattle.std.specs.Option.{unwrap_or}
use Rattle.std.proofs.lemmas.Option.{unwrap_or-slice_get}
use Rattle.std.proofs.lemmas.Iterator.Splits.{YieldsList-from_slice_split}
use Rattle.std.proofs.lemmas.Iterator.Consumers.{nth_from_yields_List}
use Rattle.lines.proofs.Items.{read-unwrap_or}
use Rattle.lines.proofs.piece.Goals as goal

pub returns-clause-piece : goal.returns-clause-piece
returns-clause-piece c =
    let e = nth_from_yields_List c.nth.result _ c.args.i c.nth.ensures.ran (YieldsList-from_slice_split _ (λ b. b == c.args.by) c.args.text.now c.split.ensures.rest c.split.ensures.done c.split.ensures.closure (λ x b q k. search (rules, tests))) in
    let now : Bor (List ℕ) → List ℕ = λ x. x.now in
    ap now c.unwrap_or.ensures ∙ (read-unwrap_or now c.nth.result _ ∙ (ap (λ o. unwrap_or o []) e ∙ unwrap_or-slice_get (slice_split (λ b. b == c.args.by) c.args.text.now) c.args.i []))
