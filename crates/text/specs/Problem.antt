-- The problem line (document 01, 'The text'): '`p cnf V C` from its first byte, tokens apart by blanks, which may also follow C'. Assumes nothing.
use Rattle.std.specs.Prelude.{true, false, cond, List, [], ◌∷◌, ℕ, leb, take, drop, Option, Some, None}
use Rattle.table.specs.declared.Refusal.TheVariants.{BadText, OverLimit}
use Rattle.table.specs.Limits.{Limits}
use Rattle.words.specs.declared.Number.{Number}
use Rattle.words.specs.declared.Number.TheVariants.{Plain, Negative}
use Rattle.rules.specs.Walk.{same}
use Rattle.words.specs.Bytes.{begins}
use Rattle.words.specs.Tokens.{Token, tokens_from}
use Rattle.words.specs.Numbers.{number}
use Rattle.table.specs.Res.{Res, ◌>>=◌}
use Rattle.std.specs.Prelude.{Err, Ok}
use Rattle.words.specs.declared.Section.TheVariants.{ProblemLine}

-- A keyword, and then the other tokens. 'A missing token's point is after the bytes that may precede it': in a line the blanks, so that it is its end.
abbrev pub keyword : List ℕ → ℕ → List Token → Res (List Token)
keyword k end [] = Err (BadText end)
keyword k end (t ∷ ts) = cond (same k t.bytes) (Ok ts) (Err (BadText t.place))

-- 'V and C take no minus'; 'V over 2,000; C over 4,000'; 'at one token 1 comes before 2'
abbrev pub bounded : ℕ → ℕ → Option Number → Res ℕ
bounded limit place None = Err (BadText place)
bounded limit place (Some (Negative v)) = Err (BadText place)
bounded limit place (Some (Plain v)) = cond (leb v limit) (Ok v) (Err (OverLimit place))

-- V or C, and then the other tokens
abbrev pub count : ℕ → ℕ → List Token → Res (ℕ × List Token)
count limit end [] = Err (BadText end)
count limit end (t ∷ ts) = bounded limit t.place (number t.bytes) >>= λ v. Ok (v, ts)

-- after C no token stands in the line: the counts are n and m
abbrev pub no_more : ℕ → ℕ → List Token → Res (ℕ × ℕ)
no_more n m [] = Ok (n, m)
no_more n m (t ∷ ts) = Err (BadText t.place)

-- the tokens from C on, from V on, from `cnf` on, from `p` on, of a line that ends at `end`
abbrev pub from_c : Limits → ℕ → ℕ → List Token → Res (ℕ × ℕ)
from_c lim end n ts = count lim.clauses end ts >>= λ c. no_more n c.0 c.1

abbrev pub from_v : Limits → ℕ → List Token → Res (ℕ × ℕ)
from_v lim end ts = count lim.variables end ts >>= λ v. from_c lim end v.0 v.1

abbrev pub from_cnf : Limits → ℕ → List Token → Res (ℕ × ℕ)
from_cnf lim end ts = keyword (99 ∷ 110 ∷ 102 ∷ []) end ts >>= from_v lim end

abbrev pub from_p : Limits → ℕ → List Token → Res (ℕ × ℕ)
from_p lim end ts = keyword (112 ∷ []) end ts >>= from_cnf lim end

-- The line of the text s from `start` to `end` as the problem line. 'Before the problem line, a line that begins with neither `p` nor a right comment is a
-- fault at its first byte.' Where the text ends before the problem line, its end is that point.
unfoldable pub problem : Limits → List ℕ → ℕ → ℕ → Res (ℕ × ℕ)
problem lim s start end = elim (begins 112 (drop start s)) [
  | false ↦ Err (BadText start)
  | true ↦ from_p lim end (tokens_from ProblemLine (take end s) start)
]
