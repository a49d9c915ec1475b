use native.Mathlib.Omega.{arith}
use mathlib.Core.Path.{◌≡◌, refl, ◌∙◌}
use mathlib.Core.List.{[], ◌∷◌, ◌++◌}
use Prim.Native.Nat.{◌-◌, min}
use lib.ListN.{length, take, length-append}
use lib.Seq.{length-take-le}
use Rattle.std.specs.Prelude.{Err}
use Rattle.std.proofs.Common.{rules}
use Rattle.table.specs.Limits.{base}
use Rattle.words.specs.declared.Section.TheVariants.{Clauses}
use Rattle.words.specs.Tokens.{tokens_from}
use Rattle.text.proofs.Fills as Fills
use Rattle.text.proofs.check_clauses.Goals as goal

pub loop-k-init : goal.loop-k-init
loop-k-init c =
    let a = c.args in record {
      read = ([], (0 ∷ []));
      rest = Fills.start base a.counts.variables (length a.text.now) [] (0 ∷ []) a.counts.clauses (tokens_from Clauses a.text.now a.from);
      total = refl;
      few = omega arith;
      within = omega arith;
      room = refl;
    }

pub read_clause-requires : goal.read_clause-requires
read_clause-requires c =
    let i = c.loop-k.invariant in
    (i.within, c.requires.1, omega (arith, c.min-room.ensures, i.room))

pub returns-in_err-count : goal.returns-in_err-count
returns-in_err-count c =
    let a = c.args in
    let l = c.loop-k in
    let i = l.invariant in
    let x = c.in_err-count.field-0.0 in
    let r : c.from_residual.result ≡ Err x = search rules in
    let room : c.min-room.result ≡ min 1000 (16000 - length i.read.0) = omega (arith, c.min-room.ensures, i.total) in
    rw r (i.rest ∙ Fills.stops base a.counts.variables (length a.text.now) i.read.0 i.read.1 (tokens_from Clauses a.text.now l.at) a.counts.clauses l._k c.min-room.result x c.loop-k-test.true room c.in_err-count.ensures.same)

pub loop-k-preserved : goal.loop-k-preserved
loop-k-preserved c =
    let a = c.args in
    let l = c.loop-k in
    let i = l.invariant in
    let g = c.in_ok-count.ensures in
    let p = g.placed in
    let count = c.in_ok-count.count in
    let k = c.read_clause.new.kept in
    let room : c.min-room.result ≡ min 1000 (16000 - length i.read.0) = omega (arith, c.min-room.ensures, i.total) in
    let kept : length k ≡ 1000 = c.read_clause.auto.kept ∙ i.room in
    let long : length (take count k) ≡ count = length-take-le _ _ (omega (arith, p.0, c.min-room.ensures)) in
    record {
      read = (i.read.0 ++ take count k, i.read.1 ++ length (i.read.0 ++ take count k) ∷ []);
      rest = i.rest ∙ Fills.goes_on base a.counts.variables (length a.text.now) i.read.0 i.read.1 (tokens_from Clauses a.text.now l.at) a.counts.clauses l._k c.min-room.result _ _ c.loop-k-test.true room g.same;
      total = simp length-append (omega (arith, i.total));
      few = omega (arith, p.0, c.min-room.ensures, i.few);
      within = p.2;
      room = kept;
    }

pub returns : goal.returns
returns c =
    let a = c.args in
    let l = c.loop-k in
    let i = l.invariant in
    Fills.ended base a.counts.variables (length a.text.now) i.read.0 i.read.1 a.counts.clauses l._k l.at a.text.now _ c.loop-k-test.false i.rest c.no_more.result c.no_more.ensures
