use Rattle.std.proofs.Common.{refl, arith}
use Rattle.table.proofs.Soundness.{sound_of}
use Rattle.table.proofs.Stamps.{zeros}
use Rattle.table.proofs.Found.{found_none}
use Rattle.table.proofs.Answers.{test_found}
use Rattle.table.specs.declared.Refusal.TheVariants.{NotBlocking}
use Rattle.stack.proofs.Opened.check_entries.Goals as goal

pub build-index-requires-clause-unlinked : goal.build-index-requires-clause-unlinked
build-index-requires-clause-unlinked c = (refl, refl, zeros 4002)

pub build-index-requires-clause-room : goal.build-index-requires-clause-room
build-index-requires-clause-room c = omega (arith, (sound_of _ c.args.self.now.book.sound).clauses)

pub returns-in-Some : goal.returns-in-Some
returns-in-Some c = test_found _ NotBlocking c.in-Some.ensures.unblocked

pub returns-in-None : goal.returns-in-None
returns-in-None c = record { none_unblocked = found_none _ c.in-None.ensures.unblocked; live = c.in-None.ensures.live refl }
