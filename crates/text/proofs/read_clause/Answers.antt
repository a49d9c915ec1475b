use native.Mathlib.Omega.{arith}
use mathlib.Core.Path.{◌≡◌, ap, sym, ◌∙◌}
use Prim.Native.Nat.{◌<◌}
use lib.ListN.{length, take, length-set}
use lib.Seq.{length-take-le}
use Rattle.std.specs.Prelude.{Err, unwrap_or}
use Rattle.std.proofs.Common.{rules}
use Rattle.table.specs.declared.Refusal.TheVariants.{BadText}
use Rattle.words.specs.declared.Section.TheVariants.{Clauses}
use Rattle.words.specs.Tokens.{tokens_from}
use Rattle.text.specs.Clauses.{clause, step_of}
use Rattle.text.proofs.Codes as Codes
use Rattle.text.proofs.read_clause.Goals as goal
use Rattle.text.proofs.read_clause.Goals.{After-step_of, In-Kept}

pub returns-in_err-t : goal.returns-in_err-t
returns-in_err-t c =
    let a = c.args in
    let l = c.loop-t in
    let r : c.from_residual.result ≡ Err (BadText (length a.text.now)) = search rules in
    let e = ap (clause a.n a.room (length a.text.now) (take l.count l.kept)) c.in_err-t.ensures.0.same in
    rw r (record { same = l.invariant.same ∙ e ∙ Codes.clause_none a.n a.room (length a.text.now) (take l.count l.kept); placed = tt })

-- the clause after that token
goes : (c : After-step_of) →
    let a = c.args in
    let l = c.loop-t in
    let t = c.in_ok-t.t in
    clause a.n a.room (length a.text.now) (take l.count l.kept) (tokens_from Clauses a.text.now l.at)
    ≡ Codes.after a.n a.room (length a.text.now) (take l.count l.kept) t.place (tokens_from Clauses a.text.now t.end) c.step_of.result
goes c =
    let a = c.args in
    let l = c.loop-t in
    ap (clause a.n a.room (length a.text.now) (take l.count l.kept)) c.in_ok-t.ensures.same
    ∙ Codes.clause_on _ _ _ _ _ _ _ (c.step_of.ensures ∙ ap (step_of a.room (take l.count l.kept)) c.code_of-code.ensures.code)

pub returns-in-Wrong : goal.returns-in-Wrong
returns-in-Wrong c =
    record { same = c.loop-t.invariant.same ∙ goes (goal.at.returns-in-Wrong c).After-step_of ∙ ap (Codes.after _ _ _ _ _ _) c.in-Wrong.is; placed = tt }

pub returns-in-Ends : goal.returns-in-Ends
returns-in-Ends c =
    let i = c.loop-t.invariant in
    let p = c.in_ok-t.ensures.placed in
    record {
      same = i.same ∙ goes (goal.at.returns-in-Ends c).After-step_of ∙ ap (Codes.after _ _ _ _ _ _) c.in-Ends.is;
      placed = (i.room, omega (arith, i.from, p.0, p.1), p.2, i.rest);
    }

pub returns-in-Full : goal.returns-in-Full
returns-in-Full c =
    record { same = c.loop-t.invariant.same ∙ goes (goal.at.returns-in-Full c).After-step_of ∙ ap (Codes.after _ _ _ _ _ _) c.in-Full.is; placed = tt }

pub loop-t-preserved-in-Repeated : goal.loop-t-preserved-in-Repeated
loop-t-preserved-in-Repeated c =
    let i = c.loop-t.invariant in
    let p = c.in_ok-t.ensures.placed in
    record {
      same = i.same ∙ goes (goal.at.loop-t-preserved-in-Repeated c).After-step_of ∙ ap (Codes.after _ _ _ _ _ _) c.in-Repeated.is;
      room = i.room;
      from = omega (arith, i.from, p.0, p.1);
      within = p.2;
      long = i.long;
      rest = i.rest;
    }

-- where a literal is kept there is room
fits : (c : In-Kept) → c.loop-t.count < c.args.room
fits c =
    let l = c.loop-t in
    let h : length (take l.count l.kept) ≡ l.count = length-take-le _ _ (omega arith) in
    omega (arith, (Codes.kept_fresh c.args.room (take l.count l.kept) (unwrap_or c.code_of-code.result 1) c.in-Kept.x (sym c.in-Kept.is ∙ c.step_of.ensures)).0.within)

pub loop-t-preserved : goal.loop-t-preserved
loop-t-preserved c =
    let a = c.args in
    let l = c.loop-t in
    let i = l.invariant in
    let p = c.in_ok-t.ensures.placed in
    let x = c.in-Kept.x in
    let f = fits (goal.at.loop-t-preserved c).In-Kept in
    let h : l.count < length l.kept = omega (arith, f, i.long) in
    let e = i.same ∙ goes (goal.at.loop-t-preserved c).After-step_of ∙ ap (Codes.after _ _ _ _ _ _) c.in-Kept.is in
    record {
      same = rw (Codes.grown l.kept l.count x h) e;
      room = omega (arith, f);
      from = omega (arith, i.from, p.0, p.1);
      within = p.2;
      long = simp length-set i.long;
      rest = Codes.rest l.kept l.count x a.kept.now i.rest;
    }
