use Rattle.std.proofs.Common.{refl, ◌∙◌, ap, arith}
use Rattle.std.specs.Option.{is_some}
use Rattle.table.specs.Lent.{lent}
use Rattle.table.proofs.Soundness.{sound_of}
use Rattle.table.proofs.Stamps.{zeros}
use Rattle.removal.proofs.Questions.{not_blocks}
use Rattle.removal.proofs.prevented.Goals as goal

pub build-index-requires-clause-unlinked : goal.build-index-requires-clause-unlinked
build-index-requires-clause-unlinked c = (refl, refl, zeros 4002)

pub build-index-requires-clause-room : goal.build-index-requires-clause-room
build-index-requires-clause-room c = omega (arith, (sound_of _ c.args.t.now.sound).clauses)

pub returns : goal.returns
returns c = c.is_some.ensures ∙ ap is_some (rw c.build-index.ensures at c.test_literal.ensures) ∙ not_blocks (lent c.args.t.now.table) _ _ _ c.requires.held
