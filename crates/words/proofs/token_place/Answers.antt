use mathlib.Core.Path.{◌≡◌}
use mathlib.Core.Bool.{true, false}
use lib.ListN.{get_or}
use Rattle.std.proofs.Common.{rules, tests}
use Rattle.std.proofs.lemmas.Iterator.{first_from_Range}
use Rattle.words.proofs.Scans as Scans
use Rattle.words.proofs.token_place.Goals as goal

pub returns : goal.returns
returns c =
    let a = c.args in
    let p = Scans.kept a.section in
    Scans.first_is p a.s.now a.from c.requires _
    (first_from_Range _ _ _ _ (λ i. p (get_or a.s.now i 0) ≡ true) (λ i. p (get_or a.s.now i 0) ≡ false) c.find.ensures.ran
    (λ x q k. search (rules, tests))
    (λ x q k. search (rules, tests)))
