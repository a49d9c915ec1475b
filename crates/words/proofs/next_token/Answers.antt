use mathlib.Core.Path.{sym, ◌∙◌}
use Rattle.words.proofs.Scans as Scans
use Rattle.words.proofs.next_token.Goals as goal

pub returns-in_err-place : goal.returns-in_err-place
returns-in_err-place c =
    let a = c.args in
    rw c.from_residual.ensures (Scans.next_none a.section a.s.now a.from c.requires (sym c.token_place.ensures ∙ c.in_err-place.was))

pub returns : goal.returns
returns c =
    let a = c.args in
    Scans.next_at a.section a.s.now a.from c.requires c.in_ok-place.place c.token_end-end.result (sym c.token_place.ensures ∙ c.in_ok-place.was) c.token_end-end.ensures
