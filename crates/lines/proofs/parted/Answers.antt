-- The first blank is where `position` finds it.
use Rattle.std.proofs.Common.{rules, tests, ◌==◌, sym, ◌∙◌, length}
use Rattle.std.proofs.lemmas.Iterator.{YieldsList-from_slice}
use Rattle.std.proofs.lemmas.Iterator.Search.{position_from_yields_List}
use Rattle.std.proofs.lemmas.List.{take_rest}
use Rattle.lines.proofs.Items.{items_of-one, items_of-first}
use Rattle.lines.proofs.parted.Goals as goal

pub returns-in-Some : goal.returns-in-Some
returns-in-Some c =
    let e = position_from_yields_List (λ b. b == 32) _ _ c.position.result c.position.ensures.ran (YieldsList-from_slice c.args.field.now cc) (λ x b q k. search (rules, tests)) in
    rw take_rest (items_of-first c.args.field.now c.in-Some.at (sym c.in-Some.is ∙ e))

pub returns-in-None : goal.returns-in-None
returns-in-None c =
    let e = position_from_yields_List (λ b. b == 32) _ _ c.position.result c.position.ensures.ran (YieldsList-from_slice c.args.field.now cc) (λ x b q k. search (rules, tests)) in
    items_of-one c.args.field.now (sym c.in-None.is ∙ e)
