use mathlib.Core.Path.{sym}
use native.Mathlib.Omega.{arith}
use Rattle.saved_write.proofs.Laying.{put_none, put_same}
use Rattle.saved_write.proofs.Sections.{line_gone, live_written, live_fits}
use Rattle.saved_write.proofs.put_if_live.Goals as goal

pub put_field-requires-clause-few : goal.put_field-requires-clause-few
put_field-requires-clause-few c =
    (omega arith, (live_fits _ c.args.t.now.sound _ c.requires.named.0 c.requires.named.1 c.row.ensures.contents _ c.if-live-k.true c.requires.room).0)

pub put_field-requires-clause-room : goal.put_field-requires-clause-room
put_field-requires-clause-room c =
    (live_fits _ c.args.t.now.sound _ c.requires.named.0 c.requires.named.1 c.row.ensures.contents _ c.if-live-k.true c.requires.room).1

pub returns-then-live-k : goal.returns-then-live-k
returns-then-live-k c =
    put_same (live_written _ c.args.t.now.sound _ c.requires.named.0 c.requires.named.1 c.row.ensures.contents _ c.if-live-k.true) c.put_field.ensures

pub returns : goal.returns
returns c = put_same (sym (line_gone _ _ _ c.if-live-k.false)) (put_none _)
