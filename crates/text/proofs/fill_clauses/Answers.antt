use native.Mathlib.Omega.{arith}
use mathlib.Core.Path.{◌≡◌, refl, ap, sym, ◌∙◌}
use mathlib.Core.List.{List, [], ◌∷◌}
use Prim.Native.Nat.{ℕ, ◌+◌, ◌-◌, ◌<◌, min}
use lib.ListN.{length, take, set, length-set}
use lib.Seq.{length-take-le, drop-set-lt}
use Rattle.table.specs.Limits.{base}
use Rattle.table.specs.Res.{Res}
use Rattle.table.specs.Stack.{lay}
use Rattle.words.specs.declared.Section.TheVariants.{Clauses}
use Rattle.words.specs.Tokens.{tokens_from}
use Rattle.text.specs.Inner.{lits_of, offs_of}
use Rattle.text.proofs.Codes as Codes
use Rattle.text.proofs.Results as Results
use Rattle.text.proofs.Fills as Fills
use Rattle.text.proofs.fill_clauses.Goals as goal

pub loop-k-init : goal.loop-k-init
loop-k-init c =
    let a = c.args in record {
      rest = rw (Codes.grown a.offs.now 0 0 (omega arith)) (Fills.start base a.counts.variables (length a.text.now) [] (0 ∷ []) a.counts.clauses (tokens_from Clauses a.text.now a.from));
      few = omega arith;
      within = omega arith;
      long_lits = refl;
      lits_behind = refl;
      long_offs = refl;
      offs_behind = refl;
    }

-- the first pass found no fault
pub unreachable-requires : goal.unreachable-requires
unreachable-requires c =
    let a = c.args in
    let l = c.loop-k in
    let i = l.invariant in
    let t : length (take l.total l.lits) ≡ l.total = length-take-le _ _ (omega (arith, i.few, i.long_lits, c.requires.limits.2)) in
    let room : c.min-room.result ≡ min 1000 (16000 - length (take l.total l.lits)) = omega (arith, c.min-room.ensures) in
    let stops = Fills.stops base a.counts.variables (length a.text.now) (take l.total l.lits) (take (l.k + 1) l.offs) (tokens_from Clauses a.text.now l.at) a.counts.clauses l.k c.min-room.result c.in_default.field-0 c.loop-k-test.true room c.in_default.ensures.read.same in
    Results.never _ _ _ c.requires.good.1 (i.rest ∙ stops)

pub loop-k-preserved : goal.loop-k-preserved
loop-k-preserved c =
    let a = c.args in
    let l = c.loop-k in
    let i = l.invariant in
    let g = c.in-Ok.ensures in
    let p = g.read.placed in
    let n = c.in-Ok.count in
    let k = c.add_clause.new.lits in
    let room : c.min-room.result ≡ min 1000 (16000 - l.total) = omega (arith, c.min-room.ensures) in
    let o : l.k + 1 < length l.offs = omega (arith, i.long_offs, length-set a.offs.now 0 0, c.requires.limits.3) in
    record {
      rest = i.rest ∙ Fills.filled_on base a.counts.variables (length a.text.now) a.counts.clauses l.k l.total l.lits k l.offs (tokens_from Clauses a.text.now l.at) c.min-room.result n (tokens_from Clauses a.text.now c.in-Ok.end) c.loop-k-test.true room (omega (arith, i.few, i.long_lits, c.requires.limits.2)) g.read.same g.front (omega (arith, p.0, c.min-room.ensures, g.long, i.few, i.long_lits, c.requires.limits.2)) o;
      few = omega (arith, p.0, c.min-room.ensures, i.few);
      within = p.2;
      long_lits = g.long ∙ i.long_lits;
      lits_behind = Fills.behind l.total n k l.lits a.lits.now p.3 i.lits_behind;
      long_offs = length-set l.offs (l.k + 1) (l.total + n) ∙ i.long_offs;
      offs_behind = Codes.rest l.offs (l.k + 1) (l.total + n) (set a.offs.now 0 0) i.offs_behind;
    }

pub returns : goal.returns
returns c =
    let l = c.loop-k in
    let i = l.invariant in
    let a = c.args in
    let q = c.requires in
    let e = i.rest ∙ Fills.last_ok base a.counts.variables (length a.text.now) (take l.total l.lits) (take (l.k + 1) l.offs) a.counts.clauses l.k (tokens_from Clauses a.text.now l.at) q.good.0 c.loop-k-test.false (sym i.rest ∙ q.good.1) in record {
      lits_after = Fills.laid l.lits a.lits.now l.total (omega (arith, i.few, i.long_lits, q.limits.2)) i.lits_behind ∙ ap (λ (r : Res (List ℕ × List ℕ)). lay (lits_of r) a.lits.now) (sym e);
      offs_after = Fills.laid l.offs a.offs.now (l.k + 1) (omega (arith, i.long_offs, length-set a.offs.now 0 0, q.limits.3, l.auto.k-end)) (i.offs_behind ∙ drop-set-lt (l.k + 1) a.offs.now 0 0 (omega arith)) ∙ ap (λ (r : Res (List ℕ × List ℕ)). lay (offs_of r) a.offs.now) (sym e);
    }
