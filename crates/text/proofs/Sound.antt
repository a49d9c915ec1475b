-- A text that is read gives a sound table, so that no later call refuses 4 on it. Assumes nothing.
use mathlib.Core.Path.{◌≡◌, refl, sym, ◌∙◌, ap}
use mathlib.Core.Bool.{true, false}
use mathlib.Core.List.{List, [], ◌∷◌}
use mathlib.Core.Option.{Option as Tests, none, some}
use Prim.Native.Nat.{ℕ, ◌≤◌}
use native.Mathlib.Omega.{arith}
use lib.Dec.{leb}
use lib.ListN.{length, drop, take}
use borrow.Author.Tests.{leb-true}
use Rattle.rules.proofs.Logic.{by_bool}
use Rattle.table.specs.declared.Refusal.{Refusal}
use Rattle.table.specs.Limits.{Limits, base}
use Rattle.table.specs.Table.{Table, table, offset, sound}
use Rattle.table.specs.Stack.{lay}
use Rattle.table.specs.Answer.{answered}
use Rattle.table.proofs.Answers.{not_answered}
use Rattle.words.specs.declared.Number.{Number}
use Rattle.words.specs.declared.Number.TheVariants.{Plain, Negative}
use Rattle.words.specs.Bytes.{begins}
use Rattle.words.specs.Tokens.{Token, tokens_from}
use Rattle.words.specs.Numbers.{number}
use Rattle.table.specs.Res.{Res, or_fault}
use Rattle.text.specs.Lines.{prologue, line_end}
use Rattle.text.specs.Problem.{keyword, bounded, count, no_more, from_c, from_v, from_cnf, from_p, problem}
use Rattle.text.specs.Clauses.{clauses}
use Rattle.text.specs.Text.{TableOutcome, table_outcome, as_table, table_of, reader_tests, left, reading}
use Rattle.text.proofs.Results.{never, ok_same, both}
use Rattle.text.proofs.Outcomes.{problem_yes, problem_no}
use Rattle.table.proofs.Longer.{longer_sound}
use Rattle.text.proofs.Laid.{Laid, laid_sound, clauses_laid}
use Rattle.std.specs.Prelude.{Err, Ok, Option, Some, None}
use Rattle.words.specs.declared.Section.TheVariants.{Clauses, ProblemLine}

-- a count that is read is within its limit
bounded_within : (limit place : ℕ) (x : Option Number) (v : ℕ) → bounded limit place x ≡ Ok v → v ≤ limit
bounded_within limit place None v e = absurd (never _ v _ e refl)
bounded_within limit place (Some (Negative u)) v e = absurd (never _ v _ e refl)
bounded_within limit place (Some (Plain u)) v e =
    by_bool (leb u limit)
    (λ t. let s : u ≡ v = ok_same u v (rw t at e) in rw (← s) (leb-true u limit t))
    (λ f. absurd (never _ v _ (rw f at e) refl))

count_within : (limit end : ℕ) (ts : List Token) (r : ℕ × List Token) → count limit end ts ≡ Ok r → r.0 ≤ limit
count_within limit end [] r e = absurd (never _ r _ e refl)
count_within limit end (t ∷ ts) r e =
    let b = both (bounded limit t.place (number t.bytes)) (λ v. Ok (v, ts)) r e in
    let s : b.0 ≡ r.0 = ap (λ (p : ℕ × List Token). p.0) (ok_same _ _ b.2) in
    rw (← s) (bounded_within limit t.place (number t.bytes) b.0 b.1)

no_more_same : (n m : ℕ) (ts : List Token) (c : ℕ × ℕ) → no_more n m ts ≡ Ok c → ◌≡◌ {A = ℕ × ℕ} (n, m) c
no_more_same n m [] c e = ok_same _ _ e
no_more_same n m (t ∷ ts) c e = absurd (never _ c _ e refl)

-- the counts of a problem line that is read are within the limits
abbrev Allowed : Limits → ℕ × ℕ → Type 0
Allowed lim c = (c.0 ≤ lim.variables) × (c.1 ≤ lim.clauses)

module _ (lim : Limits) (end : ℕ) where
  from_c_within : (n : ℕ) → n ≤ lim.variables → (ts : List Token) (c : ℕ × ℕ) → from_c lim end n ts ≡ Ok c → Allowed lim c
  from_c_within n l ts c e =
      let b = both (count lim.clauses end ts) (λ r. no_more n r.0 r.1) c e in
      rw (← no_more_same n b.0.0 b.0.1 c b.2) (l, count_within lim.clauses end ts b.0 b.1)

  from_v_within : (ts : List Token) (c : ℕ × ℕ) → from_v lim end ts ≡ Ok c → Allowed lim c
  from_v_within ts c e =
      let b = both (count lim.variables end ts) (λ r. from_c lim end r.0 r.1) c e in
      from_c_within b.0.0 (count_within lim.variables end ts b.0 b.1) b.0.1 c b.2

  from_p_within : (ts : List Token) (c : ℕ × ℕ) → from_p lim end ts ≡ Ok c → Allowed lim c
  from_p_within ts c e =
      let p = both (keyword (112 ∷ []) end ts) (from_cnf lim end) c e in
      let f = both (keyword (99 ∷ 110 ∷ 102 ∷ []) end p.0) (from_v lim end) c p.2 in
      from_v_within f.0 c f.2

problem_within : (lim : Limits) (s : List ℕ) (start end : ℕ) (c : ℕ × ℕ) → problem lim s start end ≡ Ok c → Allowed lim c
problem_within lim s start end c e =
    by_bool (begins 112 (drop start s))
    (λ t. from_p_within lim end (tokens_from ProblemLine (take end s) start) c (sym (problem_yes lim s start end t) ∙ e))
    (λ f. absurd (never _ c _ e (problem_no lim s start end f)))

-- no clause yet
laid_none : (lim : Limits) (n : ℕ) → Laid lim (table n 0 [] (0 ∷ []))
unfolding offset
laid_none lim n = record {
  many = refl;
  first = refl;
  last = refl;
  total = omega arith;
  shape = record { there = omega arith; rising = λ k l u. absurd (omega arith); inside = λ k u. let q : k ≡ 0 = omega arith in rw q (omega arith) };
  clean = λ k l u. absurd (omega arith);
}

-- the table that a text says is filled exactly, and its counts are within the limits
record Says (lim : Limits) (t : Table) : Type 0 where
  pub variables : t.variables ≤ lim.variables
  pub clauses : t.clauses ≤ lim.clauses
  pub laid : Laid lim t

clauses_say : (lim : Limits) (n m end : ℕ) (ts : List Token) (t : Table) → n ≤ lim.variables → m ≤ lim.clauses
    → as_table n m (clauses lim n end [] (0 ∷ []) m ts) ≡ Ok t → Says lim t
clauses_say lim n m end ts t v c e =
    let b = both (clauses lim n end [] (0 ∷ []) m ts) (λ b. Ok (table n m b.0 b.1)) t e in
    rw (← ok_same (table n m b.0.0 b.0.1) t b.2)
    (record { variables = v; clauses = c; laid = clauses_laid lim n end m 0 m ts [] (0 ∷ []) b.0 (omega arith) (laid_none lim n) b.1 })

text_says : (lim : Limits) (s : List ℕ) (t : Table) → table_of lim s ≡ Ok t → Says lim t
unfolding table_of
text_says lim s t e =
    let start = prologue false 0 s in
    let end = line_end start (drop start s) in
    let c = both (problem lim s start end) (λ c. as_table c.0 c.1 (clauses lim c.0 (length s) [] (0 ∷ []) c.1 (tokens_from Clauses s end))) t e in
    let w = problem_within lim s start end c.0 c.1 in
    clauses_say lim c.0.0 c.0.1 (length s) (tokens_from Clauses s end) t w.0 w.1 c.2

-- what a success leaves in the buffers is the table with more cells behind it
left_sound : (lim : Limits) (r : Res Table) (lits offs : List ℕ) → ((t : Table) → r ≡ Ok t → Says lim t) → (n m : ℕ) (l o : List ℕ)
    → left r lits offs ≡ table_outcome (answered (n ∷ m ∷ [])) l o → sound lim (table n m l o) ≡ true
unfolding lay
left_sound lim (Err x) lits offs h n m l o e = absurd (not_answered x (n ∷ m ∷ []) (sym (ap (λ (t : TableOutcome). t.reply) e)))
left_sound lim (Ok t) lits offs h n m l o e =
    let says = h t refl in
    let a : answered (t.variables ∷ t.clauses ∷ []) ≡ answered (n ∷ m ∷ []) = ap (λ (x : TableOutcome). x.reply) e in
    let v : t.variables ≡ n = cc in
    let c : t.clauses ≡ m = cc in
    rw (← v, ← c, ← ap (λ (x : TableOutcome). x.lits) e, ← ap (λ (x : TableOutcome). x.offs) e)
    (longer_sound lim t _ _ (laid_sound lim t says.variables says.clauses says.laid))

tested_says : (lim : Limits) (s : List ℕ) (o : Tests Refusal) (t : Table) → or_fault o (table_of lim s) ≡ Ok t → Says lim t
tested_says lim s none t e = text_says lim s t e
tested_says lim s (some r) t e = absurd (never _ t r e refl)

-- at every limits, those of document 01 among them
pub reading_sound : (lim : Limits) (s lits offs : List ℕ) (n m : ℕ) (l o : List ℕ)
    → reading lim s lits offs ≡ table_outcome (answered (n ∷ m ∷ [])) l o → sound lim (table n m l o) ≡ true
unfolding reading
reading_sound lim s lits offs n m l o e =
    left_sound lim (or_fault (reader_tests lim s lits offs) (table_of lim s)) lits offs (tested_says lim s (reader_tests lim s lits offs)) n m l o e

pub read_text_sound : (s lits offs : List ℕ) (n m : ℕ) (l o : List ℕ)
    → reading base s lits offs ≡ table_outcome (answered (n ∷ m ∷ [])) l o → sound base (table n m l o) ≡ true
read_text_sound = reading_sound base
