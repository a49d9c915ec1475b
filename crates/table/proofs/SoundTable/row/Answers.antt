use Rattle.table.proofs.Soundness.{sound_of}
use Rattle.table.proofs.SoundTable.row.Goals as goal

pub row-requires-clause-shape : goal.row-requires-clause-shape
row-requires-clause-shape c = (sound_of _ c.args.self.now.sound).shape
