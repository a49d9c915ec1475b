use Rattle.std.proofs.Common.{◌≡◌, true, refl, arith, rules}
use Rattle.std.proofs.lemmas.Result.{err_from_is_err_and}
use Rattle.table.specs.Limits.{base}
use Rattle.table.specs.Lent.{lent}
use Rattle.table.specs.Table.{sound}
use Rattle.table.proofs.Soundness.{sound_of}
use Rattle.table.proofs.Stamps.{zeros}
use Rattle.removal.proofs.Desks.{desk_start}
use Rattle.removal.proofs.Outcomes.{elimination_unsound, elimination_narrow, elimination_made}
use Rattle.removal.proofs.eliminate.Goals as goal
use Rattle.removal.proofs.eliminate.Goals.{In_ok-book}

known : (c : In_ok-book) → sound base (lent c.args.t.now) ≡ true
known c = rw c.in_ok-book.ensures at c.in_ok-book.book.sound

pub returns-in_err-book : goal.returns-in_err-book
returns-in_err-book c =
    let p = err_from_is_err_and c.from_residual.result c.from_residual.ensures.1 in
    rw (p.1, p.2, c.in_err-book.ensures.0) (elimination_unsound _ _ c.in_err-book.ensures.1)

pub overflow_mul-t : goal.overflow_mul-t
overflow_mul-t c = omega (arith, (sound_of _ (known (goal.at.overflow_mul-t c).In_ok-book)).clauses)

pub returns-then-stack-t : goal.returns-then-stack-t
returns-then-stack-t c = elimination_narrow _ _ (known (goal.at.returns-then-stack-t c).In_ok-book) c.if-stack-t.true

pub mark_all-requires : goal.mark_all-requires
mark_all-requires c = omega (arith, (sound_of _ (known (goal.at.mark_all-requires c).In_ok-book)).clauses)

pub build-index-requires-clause-unlinked : goal.build-index-requires-clause-unlinked
build-index-requires-clause-unlinked c = (refl, refl, zeros 4002)

pub build-index-requires-clause-room : goal.build-index-requires-clause-room
build-index-requires-clause-room c = omega (arith, (sound_of _ c.in_ok-book.book.sound).clauses)

pub invariant_of-desk : goal.invariant_of-desk
invariant_of-desk c =
    let o = c in
    rw (c.build-index.ensures, c.in_ok-book.ensures)
    (record { room = desk_start _ (known (goal.at.invariant_of-desk o).In_ok-book) c.if-stack-t.false c.mark_all.auto.live c.mark_all.ensures })

pub returns : goal.returns
returns c =
    let o = c in
    let made = elimination_made _ _ (known (goal.at.returns o).In_ok-book) c.if-stack-t.false c.mark_all.ensures
    (rw (c.build-index.ensures, c.in_ok-book.ensures) at c.sweep_all.ensures.made) in
    search (rules, made)
