use Rattle.std.proofs.Common.{◌≡◌, true, false, refl, sym, ◌∙◌}
use borrow.Author.Tests.{le-leb, lt-leb}
use Rattle.table.specs.Limits.{base}
use Rattle.table.specs.Lent.{lent}
use Rattle.table.specs.Table.{sound, names, handed_out, handed_from}
use Rattle.table.proofs.Soundness.{sound_of, names_clause}
use Rattle.table.proofs.Table.clause_literals.Goals as goal
use Rattle.table.proofs.Table.clause_literals.Goals.{else-is_sound-via-then-is_sound+then-k-ge1+else-k-self, else-is_sound-via-then-is_sound+else-k-ge1, else-is_sound-via-else-is_sound}

pub row-requires-clause-shape : goal.row-requires-clause-shape
row-requires-clause-shape c = (sound_of _ (sym c.is_sound.ensures ∙ c.if-is_sound.true)).shape

pub returns-then-k-self : goal.returns-then-k-self
unfolding handed_out handed_from
returns-then-k-self c =
    let named : names base (lent c.args.self.now) c.args.k ≡ true = names_clause base _ c.args.k (sym c.is_sound.ensures ∙ c.if-is_sound.true) c.if-k-ge1.true c.if-k-self.true in
    rw named c.row.ensures

pub returns : goal.returns
unfolding handed_out handed_from names
returns c =
    let e : c.is_sound.result ≡ sound base (lent c.args.self.now) = c.is_sound.ensures in
    let none : names base (lent c.args.self.now) c.args.k ≡ false =
    elim c.else-is_sound.branch [
      | else-is_sound-via-then-is_sound+then-k-ge1+else-k-self w ↦ rw (sym e ∙ w.if-is_sound.true, le-leb _ _ w.if-k-ge1.true, lt-leb _ _ w.if-k-self.false)
      | else-is_sound-via-then-is_sound+else-k-ge1 w ↦ rw (sym e ∙ w.if-is_sound.true, lt-leb _ _ w.if-k-ge1.false)
      | else-is_sound-via-else-is_sound w ↦ rw (sym e ∙ w.if-is_sound.false)
    ] in
    rw none (record { contents = refl; buffer = refl; start = refl })
