-- What the inner functions say of each other: the definition's value from here is what the answer says. A reader of the contracts of public functions
-- needs none of it. Assumes nothing.
use Rattle.std.specs.Prelude.{◌≡◌, true, false, List, [], ◌∷◌, ℕ, ◌<◌, ◌≤◌, length, drop, take, Result, Ok, Err, IfOk, MatchResult}
use Rattle.rules.specs.Clause.{Clause}
use Rattle.table.specs.Limits.{base}
use Rattle.words.specs.Tokens.{Token, tokens_from}
use Rattle.text.specs.declared.Counts.{Counts}
use Rattle.table.specs.declared.Refusal.{Refusal}
use Rattle.table.specs.Res.{Res, on_ok}
use Rattle.text.specs.Lines.{prologue}
use Rattle.text.specs.Problem.{keyword, count}
use Rattle.text.specs.Clauses.{clause, clauses}
use Rattle.words.specs.declared.Section.TheVariants.{Clauses, ProblemLine}

-- the line that is being passed at `start` is passed at r
pub record LinePassed (s : List ℕ) (start r : ℕ) : Type 0 where
  pub same : prologue true start (drop start s) ≡ prologue false r (drop r s)
  pub from : start ≤ r
  pub within : r ≤ length s

-- what an answer of `read_clause` says, with the list k that `kept` holds at exit: how many of its cells are the clause, and where its 0 ends
abbrev pub clause_read : List ℕ → List ℕ → Result (ℕ × ℕ) Refusal → Res (Clause × List Token)
clause_read s k r = on_ok (λ (c : ℕ × ℕ). (take c.0 k, tokens_from Clauses s c.1)) r

pub record ReadClause (s : List ℕ) (start n room : ℕ) (k₀ k : List ℕ) (r : Result (ℕ × ℕ) Refusal) : Type 0 where
  pub same : clause n room (length s) [] (tokens_from Clauses s start) ≡ clause_read s k r
  -- where the clause ends, and that what is behind its literals is as it came
  pub placed : IfOk r (λ c. (c.0 ≤ room) × (start < c.1) × (c.1 ≤ length s) × (drop c.0 k ≡ drop c.0 k₀))

-- the same behind the first `total` cells, which are as they came
pub record AddedClause (s : List ℕ) (start n room total : ℕ) (k₀ k : List ℕ) (r : Result (ℕ × ℕ) Refusal) : Type 0 where
  pub read : ReadClause s start n room (drop total k₀) (drop total k) r
  pub front : take total k ≡ take total k₀
  pub long : length k ≡ length k₀

-- the clauses of s from the offset `start` on
abbrev pub clauses_from : List ℕ → ℕ → ℕ → ℕ → Res (List ℕ × List ℕ)
clauses_from s start n m = clauses base n (length s) [] (0 ∷ []) m (tokens_from Clauses s start)

-- they are read
abbrev pub Good : List ℕ → ℕ → Counts → Type 0
Good s start c = (t : List ℕ × List ℕ) × (clauses_from s start c.variables c.clauses ≡ Ok t)

abbrev pub Checked : List ℕ → ℕ → Counts → Result (Unit {0}) Refusal → Type 0
Checked s start c r = MatchResult r (λ _. Good s start c) (λ x. clauses_from s start c.variables c.clauses ≡ Err x)

abbrev pub lits_of : Res (List ℕ × List ℕ) → List ℕ
lits_of (Err r) = []
lits_of (Ok t) = t.0

abbrev pub offs_of : Res (List ℕ × List ℕ) → List ℕ
offs_of (Err r) = []
offs_of (Ok t) = t.1

-- what an answer of `keyword_at` says: where the keyword ends
pub record KeywordFound (t : List ℕ) (start : ℕ) (k : List ℕ) (r : Result ℕ Refusal) : Type 0 where
  pub same : keyword k (length t) (tokens_from ProblemLine t start) ≡ on_ok (tokens_from ProblemLine t) r
  pub placed : IfOk r (λ e. e ≤ length t)

-- what an answer of `count_at` says: the count, and where it ends
pub record CountFound (t : List ℕ) (start limit : ℕ) (r : Result (ℕ × ℕ) Refusal) : Type 0 where
  pub same : count limit (length t) (tokens_from ProblemLine t start) ≡ on_ok (λ (v : ℕ × ℕ). (v.0, tokens_from ProblemLine t v.1)) r
  pub placed : IfOk r (λ v. (v.0 ≤ limit) × (v.1 ≤ length t))

-- what an answer of the problem line's functions says
pub record Counted (h : Res (ℕ × ℕ)) (r : Result Counts Refusal) : Type 0 where
  pub same : h ≡ on_ok (λ (c : Counts). (c.variables, c.clauses)) r
  pub placed : IfOk r (λ c. (c.variables ≤ 2000) × (c.clauses ≤ 4000))
