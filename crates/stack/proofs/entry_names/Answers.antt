use Rattle.std.proofs.Common.{sym, ◌∙◌}
use Rattle.index.specs.Index.{live_of}
use Rattle.stack.proofs.Entries.{names_beyond, names_gone, names_live}
use Rattle.stack.proofs.entry_names.Goals as goal
use Rattle.stack.proofs.entry_names.Goals.{else-k-live-via-then-k-live+else-live-k, else-k-live-via-else-k-live}

pub row-requires : goal.row-requires
unfolding live_of
row-requires c = c.requires _ c.if-live-k.true

pub returns-then-live-k : goal.returns-then-live-k
returns-then-live-k c = c.contains_word.ensures ∙ names_live _ c.args.live.now _ _ c.if-live-k.true _ c.row.ensures.contents

pub returns : goal.returns
returns c = elim c.else-k-live.branch [
  | else-k-live-via-then-k-live+else-live-k w ↦ sym (names_gone _ _ _ _ w.if-live-k.false)
  | else-k-live-via-else-k-live w ↦ sym (names_beyond _ _ _ _ w.if-k-live.false)
]
