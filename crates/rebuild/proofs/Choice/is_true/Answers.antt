use Rattle.std.proofs.iter.Serving.{serving}
use Rattle.rebuild.proofs.Rows.{row_coded}
use Rattle.rebuild.proofs.Choice.is_true.Goals as goal

pub any-requires-clause-callable : goal.any-requires-clause-callable
any-requires-clause-callable c =
    let coded = row_coded _ c.args.self.now.opened.book.sound _ c.requires.0 c.requires.1 c.row.ensures.contents in
    grind (serving, coded)
