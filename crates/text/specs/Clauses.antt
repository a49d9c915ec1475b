-- The clauses (document 01, 'The text'): after the problem line every token is a number, so that '`c` lines stand nowhere else'. Assumes nothing.
use Rattle.std.specs.Prelude.{cond, List, [], ◌∷◌, ◌++◌, ℕ, zero, suc, ◌+◌, ◌-◌, ◌*◌, min, eqb, leb, ltb, length, Option, Some, None}
use Rattle.rules.specs.Clause.{Clause, mem}
use Rattle.table.specs.declared.Refusal.TheVariants.{BadText, OverLimit}
use Rattle.table.specs.Limits.{Limits}
use Rattle.words.specs.declared.Number.{Number}
use Rattle.words.specs.declared.Number.TheVariants.{Plain, Negative}
use Rattle.words.specs.Tokens.{Token}
use Rattle.words.specs.Numbers.{number}
use Rattle.text.specs.declared.Step.{Step}
use Rattle.text.specs.declared.Step.TheVariants.{Wrong, Ends, Repeated, Kept, Full}
use Rattle.table.specs.Res.{Res, ◌>>=◌}
use Rattle.std.specs.Prelude.{Err, Ok}

-- The code of a literal ('Variable v is coded 2v, its negation 2v+1'), 0 for the 0 that ends a clause, and 1 where 'the text breaks the rules above, or a
-- literal's variable is above V', which is n.
abbrev pub code_of : ℕ → Option Number → ℕ
code_of n None = 1
code_of n (Some (Plain v)) = cond (leb v n) (2 * v) 1
code_of n (Some (Negative v)) = cond (leb v n) (2 * v + 1) 1

-- What a token with the code x is to a clause with the literals `kept` so far, of at most `room`. 'A 0 ends a clause. A repeated literal is dropped and
-- the first one kept.' 'a clause's 1,001st or the table's 16,001st kept literal'; 'at one token 1 comes before 2'.
abbrev pub step_of : ℕ → Clause → ℕ → Step
step_of room kept x =
    cond (eqb x 1) Wrong
    (cond (eqb x 0) Ends
    (cond (mem x kept) Repeated
    (cond (ltb (length kept) room) (Kept x)
    Full)))

-- One clause: its literals, of at most `room`, and the tokens after its 0. A missing token's point is `end`, the text's end.
unfoldable pub clause : ℕ → ℕ → ℕ → Clause → List Token → Res (Clause × List Token)
clause n room end kept [] = Err (BadText end)
clause n room end kept (t ∷ ts) =
    let x = code_of n (number t.bytes) in
    elim (step_of room kept x) [
      | Wrong ↦ Err (BadText t.place)
      | Ends ↦ Ok (kept, ts)
      | Repeated ↦ clause n room end kept ts
      | Kept y ↦ clause n room end (kept ++ y ∷ []) ts
      | Full ↦ Err (OverLimit t.place)
    ]

-- The literals and the offsets of a table after c more clauses. 'Exactly C clauses are read; only those four bytes may follow.'
unfoldable pub clauses : Limits → ℕ → ℕ → List ℕ → List ℕ → ℕ → List Token → Res (List ℕ × List ℕ)
clauses lim n end lits offs zero [] = Ok (lits, offs)
clauses lim n end lits offs zero (t ∷ ts) = Err (BadText t.place)
clauses lim n end lits offs (suc c) ts =
    clause n (min lim.clause_literals (lim.literals - length lits)) end [] ts >>= λ r.
    clauses lim n end (lits ++ r.0) (offs ++ length (lits ++ r.0) ∷ []) c r.1
