use Rattle.std.proofs.Common.{sym, ◌∙◌, ap}
use Rattle.rules.specs.Blocking.{resists}
use Rattle.index.specs.Index.{live_of}
use Rattle.index.proofs.Plains.{row_plain}
use Rattle.index.proofs.Reasons.{bars_live, bars_gone}
use Rattle.index.proofs.Index.bars.Goals as goal

pub returns-then-not-live-j : goal.returns-then-not-live-j
unfolding live_of
returns-then-not-live-j c = sym (bars_gone _ _ _ _ _ c.if-not-live-j.true)

pub hinders_plain-requires-clause-d_plain : goal.hinders_plain-requires-clause-d_plain
hinders_plain-requires-clause-d_plain c = row_plain _ _ _ c.row-d.ensures.contents c.requires.named.1 c.requires.named.2 c.args.self.now.plains c.if-self-j.true

pub returns-then-self-j : goal.returns-then-self-j
unfolding live_of
returns-then-self-j c =
    c.hinders_plain.ensures
    ∙ ap (resists _ _) c.row-d.ensures.contents
    ∙ sym (bars_live _ _ _ _ _ c.if-not-live-j.false)

pub returns : goal.returns
unfolding live_of
returns c = c.hinders.ensures ∙ ap (resists _ _) c.row-d.ensures.contents ∙ sym (bars_live _ _ _ _ _ c.if-not-live-j.false)
