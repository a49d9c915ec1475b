-- Examples of document 01's text, one or more for each of its rules and for each refusal: a text, and what it must come to. Assumes nothing.
use Rattle.std.specs.Prelude.{Bool, true, ◌&&◌, List, [], ◌∷◌, ℕ}
use Rattle.rules.specs.Walk.{same}
use Rattle.table.specs.Limits.{Limits, base}
use Rattle.table.specs.Answer.{answered, refused, same_reply}
use Rattle.text.specs.Text.{TableOutcome, table_outcome, table_of, left, reading}

unfoldable pub same_outcome : TableOutcome → TableOutcome → Bool
same_outcome o e = same_reply o.reply e.reply && same o.lits e.lits && same o.offs e.offs

-- limits that a few bytes reach: 9 variables, 3 clauses, 4 literals in all, 3 literals in a clause, 60 bytes of text
unfoldable pub small : Limits
small = record { variables = 9; clauses = 3; literals = 4; clause_literals = 3; text_bytes = 60 }

-- what a text says at document 01's limits (with nothing behind the answer), or what a call at small limits does to the buffers that it is lent
pub data Example : Type 0 where
  says : List ℕ → TableOutcome → Example
  reads : List ℕ → List ℕ → List ℕ → TableOutcome → Example

unfoldable pub passes : Example → Bool
passes (says s o) = same_outcome (left (table_of base s) [] []) o
passes (reads s lits offs o) = same_outcome (reading small s lits offs) o

unfoldable pub all_pass : List Example → Bool
all_pass [] = true
all_pass (e ∷ es) = passes e && all_pass es

unfoldable pub examples : List Example
examples =
    -- K1: 'p cnf 5 5\n1 4 0\n-4 5 0\n-1 2 0\n-2 3 0\n-3 1 0\n'
    says (112 ∷ 32 ∷ 99 ∷ 110 ∷ 102 ∷ 32 ∷ 53 ∷ 32 ∷ 53 ∷ 10 ∷ 49 ∷ 32 ∷ 52 ∷ 32 ∷ 48 ∷ 10 ∷ 45 ∷ 52 ∷ 32 ∷ 53 ∷ 32 ∷ 48 ∷ 10 ∷ 45 ∷ 49 ∷ 32 ∷ 50 ∷ 32
    ∷ 48 ∷ 10 ∷ 45 ∷ 50 ∷ 32 ∷ 51 ∷ 32 ∷ 48 ∷ 10 ∷ 45 ∷ 51 ∷ 32 ∷ 49 ∷ 32 ∷ 48 ∷ 10 ∷ []) (table_outcome (answered (5 ∷ 5 ∷ [])) (2 ∷ 8 ∷ 9 ∷ 10 ∷ 3
    ∷ 4 ∷ 5 ∷ 6 ∷ 7 ∷ 2 ∷ []) (0 ∷ 2 ∷ 4 ∷ 6 ∷ 8 ∷ 10 ∷ []))
    -- comment lines, CR LF, tabs, blanks after C, gaps to the end: 'c\r\nc x\nc\ty\np\tcnf  0 0 \t\r\n \r\t'
    ∷ says (99 ∷ 13 ∷ 10 ∷ 99 ∷ 32 ∷ 120 ∷ 10 ∷ 99 ∷ 9 ∷ 121 ∷ 10 ∷ 112 ∷ 9 ∷ 99 ∷ 110 ∷ 102 ∷ 32 ∷ 32 ∷ 48 ∷ 32 ∷ 48 ∷ 32 ∷ 9 ∷ 13 ∷ 10 ∷ 32 ∷ 13 ∷ 9
    ∷ []) (table_outcome (answered (0 ∷ 0 ∷ [])) [] (0 ∷ []))
    -- a CR within a comment line is passed: 'c a\rb\r\np cnf 0 0'
    ∷ says (99 ∷ 32 ∷ 97 ∷ 13 ∷ 98 ∷ 13 ∷ 10 ∷ 112 ∷ 32 ∷ 99 ∷ 110 ∷ 102 ∷ 32 ∷ 48 ∷ 32 ∷ 48 ∷ []) (table_outcome (answered (0 ∷ 0 ∷ [])) [] (0 ∷ []))
    -- a repeated literal is dropped; clauses over lines, several on a line, CR as a gap: 'p cnf 2 3\n1 -2\r1\n -2 1 0 0\t2 0'
    ∷ says (112 ∷ 32 ∷ 99 ∷ 110 ∷ 102 ∷ 32 ∷ 50 ∷ 32 ∷ 51 ∷ 10 ∷ 49 ∷ 32 ∷ 45 ∷ 50 ∷ 13 ∷ 49 ∷ 10 ∷ 32 ∷ 45 ∷ 50 ∷ 32 ∷ 49 ∷ 32 ∷ 48 ∷ 32 ∷ 48 ∷ 9
    ∷ 50 ∷ 32 ∷ 48 ∷ []) (table_outcome (answered (2 ∷ 3 ∷ [])) (2 ∷ 5 ∷ 4 ∷ []) (0 ∷ 2 ∷ 2 ∷ 3 ∷ []))
    -- an empty clause over 0 variables (K8): 'p cnf 0 1\n0\n'
    ∷ says (112 ∷ 32 ∷ 99 ∷ 110 ∷ 102 ∷ 32 ∷ 48 ∷ 32 ∷ 49 ∷ 10 ∷ 48 ∷ 10 ∷ []) (table_outcome (answered (0 ∷ 1 ∷ [])) [] (0 ∷ 0 ∷ []))
    -- two equal clauses count separately (K9): 'p cnf 1 2\n1 0 1 0\n'
    ∷ says (112 ∷ 32 ∷ 99 ∷ 110 ∷ 102 ∷ 32 ∷ 49 ∷ 32 ∷ 50 ∷ 10 ∷ 49 ∷ 32 ∷ 48 ∷ 32 ∷ 49 ∷ 32 ∷ 48 ∷ 10 ∷ []) (table_outcome (answered (1 ∷ 2 ∷ [])) (2
    ∷ 2 ∷ []) (0 ∷ 1 ∷ 2 ∷ []))
    -- a variable and its negation (K6): 'p cnf 1 3\n1 -1 0 1 0 -1 0'
    ∷ says (112 ∷ 32 ∷ 99 ∷ 110 ∷ 102 ∷ 32 ∷ 49 ∷ 32 ∷ 51 ∷ 10 ∷ 49 ∷ 32 ∷ 45 ∷ 49 ∷ 32 ∷ 48 ∷ 32 ∷ 49 ∷ 32 ∷ 48 ∷ 32 ∷ 45 ∷ 49 ∷ 32 ∷ 48
    ∷ []) (table_outcome (answered (1 ∷ 3 ∷ [])) (2 ∷ 3 ∷ 2 ∷ 3 ∷ []) (0 ∷ 2 ∷ 3 ∷ 4 ∷ []))
    -- an empty text: ''
    ∷ says [] (table_outcome (refused 1 0) [] [])
    -- the text ends before the problem line: 'c hi'
    ∷ says (99 ∷ 32 ∷ 104 ∷ 105 ∷ []) (table_outcome (refused 1 4) [] [])
    -- the same after a line's end: 'c hi\n'
    ∷ says (99 ∷ 32 ∷ 104 ∷ 105 ∷ 10 ∷ []) (table_outcome (refused 1 5) [] [])
    -- `c` without a blank: 'c\ncx\n'
    ∷ says (99 ∷ 10 ∷ 99 ∷ 120 ∷ 10 ∷ []) (table_outcome (refused 1 2) [] [])
    -- `c` and a CR that is no line end: 'c\rx\n'
    ∷ says (99 ∷ 13 ∷ 120 ∷ 10 ∷ []) (table_outcome (refused 1 0) [] [])
    -- `c` and a CR at the end of the text: 'c\r'
    ∷ says (99 ∷ 13 ∷ []) (table_outcome (refused 1 0) [] [])
    -- `c` and CR CR LF: 'c\r\r\np cnf 0 0'
    ∷ says (99 ∷ 13 ∷ 13 ∷ 10 ∷ 112 ∷ 32 ∷ 99 ∷ 110 ∷ 102 ∷ 32 ∷ 48 ∷ 32 ∷ 48 ∷ []) (table_outcome (refused 1 0) [] [])
    -- an empty line before the problem line: 'c\n\np cnf 0 0'
    ∷ says (99 ∷ 10 ∷ 10 ∷ 112 ∷ 32 ∷ 99 ∷ 110 ∷ 102 ∷ 32 ∷ 48 ∷ 32 ∷ 48 ∷ []) (table_outcome (refused 1 2) [] [])
    -- an empty line, CR LF: '\r\np cnf 0 0'
    ∷ says (13 ∷ 10 ∷ 112 ∷ 32 ∷ 99 ∷ 110 ∷ 102 ∷ 32 ∷ 48 ∷ 32 ∷ 48 ∷ []) (table_outcome (refused 1 0) [] [])
    -- a blank before `p`: ' p cnf 1 1\n1 0'
    ∷ says (32 ∷ 112 ∷ 32 ∷ 99 ∷ 110 ∷ 102 ∷ 32 ∷ 49 ∷ 32 ∷ 49 ∷ 10 ∷ 49 ∷ 32 ∷ 48 ∷ []) (table_outcome (refused 1 0) [] [])
    -- another first byte: 'x\np cnf 0 0'
    ∷ says (120 ∷ 10 ∷ 112 ∷ 32 ∷ 99 ∷ 110 ∷ 102 ∷ 32 ∷ 48 ∷ 32 ∷ 48 ∷ []) (table_outcome (refused 1 0) [] [])
    -- `px`: 'px cnf 1 1'
    ∷ says (112 ∷ 120 ∷ 32 ∷ 99 ∷ 110 ∷ 102 ∷ 32 ∷ 49 ∷ 32 ∷ 49 ∷ []) (table_outcome (refused 1 0) [] [])
    -- `p` and a CR: 'p\rcnf 1 1'
    ∷ says (112 ∷ 13 ∷ 99 ∷ 110 ∷ 102 ∷ 32 ∷ 49 ∷ 32 ∷ 49 ∷ []) (table_outcome (refused 1 0) [] [])
    -- `cnf` missing: the line's end: 'p  \r\ncnf 1 1'
    ∷ says (112 ∷ 32 ∷ 32 ∷ 13 ∷ 10 ∷ 99 ∷ 110 ∷ 102 ∷ 32 ∷ 49 ∷ 32 ∷ 49 ∷ []) (table_outcome (refused 1 3) [] [])
    -- another format: 'p dnf 1 1'
    ∷ says (112 ∷ 32 ∷ 100 ∷ 110 ∷ 102 ∷ 32 ∷ 49 ∷ 32 ∷ 49 ∷ []) (table_outcome (refused 1 2) [] [])
    -- `cnf` goes on: 'p cnf1 1 1'
    ∷ says (112 ∷ 32 ∷ 99 ∷ 110 ∷ 102 ∷ 49 ∷ 32 ∷ 49 ∷ 32 ∷ 49 ∷ []) (table_outcome (refused 1 2) [] [])
    -- V missing: the line's end: 'p cnf \n1 1'
    ∷ says (112 ∷ 32 ∷ 99 ∷ 110 ∷ 102 ∷ 32 ∷ 10 ∷ 49 ∷ 32 ∷ 49 ∷ []) (table_outcome (refused 1 6) [] [])
    -- V missing: the text's end: 'p cnf'
    ∷ says (112 ∷ 32 ∷ 99 ∷ 110 ∷ 102 ∷ []) (table_outcome (refused 1 5) [] [])
    -- C missing: the line's end, after the blanks: 'p cnf 1 \t\n1'
    ∷ says (112 ∷ 32 ∷ 99 ∷ 110 ∷ 102 ∷ 32 ∷ 49 ∷ 32 ∷ 9 ∷ 10 ∷ 49 ∷ []) (table_outcome (refused 1 9) [] [])
    -- C missing: the text's end: 'p cnf 1'
    ∷ says (112 ∷ 32 ∷ 99 ∷ 110 ∷ 102 ∷ 32 ∷ 49 ∷ []) (table_outcome (refused 1 7) [] [])
    -- V with a minus: 'p cnf -1 1'
    ∷ says (112 ∷ 32 ∷ 99 ∷ 110 ∷ 102 ∷ 32 ∷ 45 ∷ 49 ∷ 32 ∷ 49 ∷ []) (table_outcome (refused 1 6) [] [])
    -- C with a minus: 'p cnf 1 -1'
    ∷ says (112 ∷ 32 ∷ 99 ∷ 110 ∷ 102 ∷ 32 ∷ 49 ∷ 32 ∷ 45 ∷ 49 ∷ []) (table_outcome (refused 1 8) [] [])
    -- V with a plus: 'p cnf +1 1'
    ∷ says (112 ∷ 32 ∷ 99 ∷ 110 ∷ 102 ∷ 32 ∷ 43 ∷ 49 ∷ 32 ∷ 49 ∷ []) (table_outcome (refused 1 6) [] [])
    -- V begins with 0, and C is malformed: 'p cnf 01 x'
    ∷ says (112 ∷ 32 ∷ 99 ∷ 110 ∷ 102 ∷ 32 ∷ 48 ∷ 49 ∷ 32 ∷ 120 ∷ []) (table_outcome (refused 1 6) [] [])
    -- 2,000 variables: 'p cnf 2000 0'
    ∷ says (112 ∷ 32 ∷ 99 ∷ 110 ∷ 102 ∷ 32 ∷ 50 ∷ 48 ∷ 48 ∷ 48 ∷ 32 ∷ 48 ∷ []) (table_outcome (answered (2000 ∷ 0 ∷ [])) [] (0 ∷ []))
    -- 2,001 variables: 'p cnf 2001 0'
    ∷ says (112 ∷ 32 ∷ 99 ∷ 110 ∷ 102 ∷ 32 ∷ 50 ∷ 48 ∷ 48 ∷ 49 ∷ 32 ∷ 48 ∷ []) (table_outcome (refused 2 6) [] [])
    -- 4,000 clauses, of which the first is missing: 'p cnf 0 4000'
    ∷ says (112 ∷ 32 ∷ 99 ∷ 110 ∷ 102 ∷ 32 ∷ 48 ∷ 32 ∷ 52 ∷ 48 ∷ 48 ∷ 48 ∷ []) (table_outcome (refused 1 12) [] [])
    -- 4,001 clauses: 'p cnf 2000 4001'
    ∷ says (112 ∷ 32 ∷ 99 ∷ 110 ∷ 102 ∷ 32 ∷ 50 ∷ 48 ∷ 48 ∷ 48 ∷ 32 ∷ 52 ∷ 48 ∷ 48 ∷ 49 ∷ []) (table_outcome (refused 2 11) [] [])
    -- V over its limit, and C is malformed: 'p cnf 2001 x'
    ∷ says (112 ∷ 32 ∷ 99 ∷ 110 ∷ 102 ∷ 32 ∷ 50 ∷ 48 ∷ 48 ∷ 49 ∷ 32 ∷ 120 ∷ []) (table_outcome (refused 2 6) [] [])
    -- V of any length: 'p cnf 99999999999999999999999999 x'
    ∷ says (112 ∷ 32 ∷ 99 ∷ 110 ∷ 102 ∷ 32 ∷ 57 ∷ 57 ∷ 57 ∷ 57 ∷ 57 ∷ 57 ∷ 57 ∷ 57 ∷ 57 ∷ 57 ∷ 57 ∷ 57 ∷ 57 ∷ 57 ∷ 57 ∷ 57 ∷ 57 ∷ 57 ∷ 57 ∷ 57 ∷ 57
    ∷ 57 ∷ 57 ∷ 57 ∷ 57 ∷ 57 ∷ 32 ∷ 120 ∷ []) (table_outcome (refused 2 6) [] [])
    -- V of any length, malformed: 'p cnf 99999999999999999999999999x x'
    ∷ says (112 ∷ 32 ∷ 99 ∷ 110 ∷ 102 ∷ 32 ∷ 57 ∷ 57 ∷ 57 ∷ 57 ∷ 57 ∷ 57 ∷ 57 ∷ 57 ∷ 57 ∷ 57 ∷ 57 ∷ 57 ∷ 57 ∷ 57 ∷ 57 ∷ 57 ∷ 57 ∷ 57 ∷ 57 ∷ 57 ∷ 57
    ∷ 57 ∷ 57 ∷ 57 ∷ 57 ∷ 57 ∷ 120 ∷ 32 ∷ 120 ∷ []) (table_outcome (refused 1 6) [] [])
    -- C over its limit, and a token after it: 'p cnf 0 4001 x'
    ∷ says (112 ∷ 32 ∷ 99 ∷ 110 ∷ 102 ∷ 32 ∷ 48 ∷ 32 ∷ 52 ∷ 48 ∷ 48 ∷ 49 ∷ 32 ∷ 120 ∷ []) (table_outcome (refused 2 8) [] [])
    -- a token after C: 'p cnf 1 1 1\n1 0'
    ∷ says (112 ∷ 32 ∷ 99 ∷ 110 ∷ 102 ∷ 32 ∷ 49 ∷ 32 ∷ 49 ∷ 32 ∷ 49 ∷ 10 ∷ 49 ∷ 32 ∷ 48 ∷ []) (table_outcome (refused 1 10) [] [])
    -- CR CR LF after C: the first CR is part of its token: 'p cnf 1 1\r\r\n1 0'
    ∷ says (112 ∷ 32 ∷ 99 ∷ 110 ∷ 102 ∷ 32 ∷ 49 ∷ 32 ∷ 49 ∷ 13 ∷ 13 ∷ 10 ∷ 49 ∷ 32 ∷ 48 ∷ []) (table_outcome (refused 1 8) [] [])
    -- a CR after C at the end of the text: 'p cnf 0 0\r'
    ∷ says (112 ∷ 32 ∷ 99 ∷ 110 ∷ 102 ∷ 32 ∷ 48 ∷ 32 ∷ 48 ∷ 13 ∷ []) (table_outcome (refused 1 8) [] [])
    -- a CR after a blank at the end of the text is a token: 'p cnf 0 0 \r'
    ∷ says (112 ∷ 32 ∷ 99 ∷ 110 ∷ 102 ∷ 32 ∷ 48 ∷ 32 ∷ 48 ∷ 32 ∷ 13 ∷ []) (table_outcome (refused 1 10) [] [])
    -- a literal above V: 'p cnf 2 1\n1 3 0'
    ∷ says (112 ∷ 32 ∷ 99 ∷ 110 ∷ 102 ∷ 32 ∷ 50 ∷ 32 ∷ 49 ∷ 10 ∷ 49 ∷ 32 ∷ 51 ∷ 32 ∷ 48 ∷ []) (table_outcome (refused 1 12) [] [])
    -- a negation above V: 'p cnf 2 1\n1 -3 0'
    ∷ says (112 ∷ 32 ∷ 99 ∷ 110 ∷ 102 ∷ 32 ∷ 50 ∷ 32 ∷ 49 ∷ 10 ∷ 49 ∷ 32 ∷ 45 ∷ 51 ∷ 32 ∷ 48 ∷ []) (table_outcome (refused 1 12) [] [])
    -- a literal of any length: 'p cnf 2 1\n18446744073709551618 0'
    ∷ says (112 ∷ 32 ∷ 99 ∷ 110 ∷ 102 ∷ 32 ∷ 50 ∷ 32 ∷ 49 ∷ 10 ∷ 49 ∷ 56 ∷ 52 ∷ 52 ∷ 54 ∷ 55 ∷ 52 ∷ 52 ∷ 48 ∷ 55 ∷ 51 ∷ 55 ∷ 48 ∷ 57 ∷ 53 ∷ 53 ∷ 49
    ∷ 54 ∷ 49 ∷ 56 ∷ 32 ∷ 48 ∷ []) (table_outcome (refused 1 10) [] [])
    -- `-0`: 'p cnf 2 1\n1 -0 0'
    ∷ says (112 ∷ 32 ∷ 99 ∷ 110 ∷ 102 ∷ 32 ∷ 50 ∷ 32 ∷ 49 ∷ 10 ∷ 49 ∷ 32 ∷ 45 ∷ 48 ∷ 32 ∷ 48 ∷ []) (table_outcome (refused 1 12) [] [])
    -- `00`: 'p cnf 2 1\n1 00'
    ∷ says (112 ∷ 32 ∷ 99 ∷ 110 ∷ 102 ∷ 32 ∷ 50 ∷ 32 ∷ 49 ∷ 10 ∷ 49 ∷ 32 ∷ 48 ∷ 48 ∷ []) (table_outcome (refused 1 12) [] [])
    -- a literal begins with 0: 'p cnf 2 1\n01 0'
    ∷ says (112 ∷ 32 ∷ 99 ∷ 110 ∷ 102 ∷ 32 ∷ 50 ∷ 32 ∷ 49 ∷ 10 ∷ 48 ∷ 49 ∷ 32 ∷ 48 ∷ []) (table_outcome (refused 1 10) [] [])
    -- a minus alone: 'p cnf 2 1\n- 1 0'
    ∷ says (112 ∷ 32 ∷ 99 ∷ 110 ∷ 102 ∷ 32 ∷ 50 ∷ 32 ∷ 49 ∷ 10 ∷ 45 ∷ 32 ∷ 49 ∷ 32 ∷ 48 ∷ []) (table_outcome (refused 1 10) [] [])
    -- two minuses: 'p cnf 2 1\n--1 0'
    ∷ says (112 ∷ 32 ∷ 99 ∷ 110 ∷ 102 ∷ 32 ∷ 50 ∷ 32 ∷ 49 ∷ 10 ∷ 45 ∷ 45 ∷ 49 ∷ 32 ∷ 48 ∷ []) (table_outcome (refused 1 10) [] [])
    -- a literal with a plus: 'p cnf 2 1\n+1 0'
    ∷ says (112 ∷ 32 ∷ 99 ∷ 110 ∷ 102 ∷ 32 ∷ 50 ∷ 32 ∷ 49 ∷ 10 ∷ 43 ∷ 49 ∷ 32 ∷ 48 ∷ []) (table_outcome (refused 1 10) [] [])
    -- a minus behind: 'p cnf 2 1\n1- 0'
    ∷ says (112 ∷ 32 ∷ 99 ∷ 110 ∷ 102 ∷ 32 ∷ 50 ∷ 32 ∷ 49 ∷ 10 ∷ 49 ∷ 45 ∷ 32 ∷ 48 ∷ []) (table_outcome (refused 1 10) [] [])
    -- a form feed is no gap: 'p cnf 2 1\n1\x0c0'
    ∷ says (112 ∷ 32 ∷ 99 ∷ 110 ∷ 102 ∷ 32 ∷ 50 ∷ 32 ∷ 49 ∷ 10 ∷ 49 ∷ 12 ∷ 48 ∷ []) (table_outcome (refused 1 10) [] [])
    -- a byte above 127: 'p cnf 2 1\n1 \xa0 0'
    ∷ says (112 ∷ 32 ∷ 99 ∷ 110 ∷ 102 ∷ 32 ∷ 50 ∷ 32 ∷ 49 ∷ 10 ∷ 49 ∷ 32 ∷ 160 ∷ 32 ∷ 48 ∷ []) (table_outcome (refused 1 12) [] [])
    -- a `c` line among the clauses: 'p cnf 2 1\nc x\n1 0'
    ∷ says (112 ∷ 32 ∷ 99 ∷ 110 ∷ 102 ∷ 32 ∷ 50 ∷ 32 ∷ 49 ∷ 10 ∷ 99 ∷ 32 ∷ 120 ∷ 10 ∷ 49 ∷ 32 ∷ 48 ∷ []) (table_outcome (refused 1 10) [] [])
    -- a `c` line after the last clause: 'p cnf 2 1\n1 0\nc x\n'
    ∷ says (112 ∷ 32 ∷ 99 ∷ 110 ∷ 102 ∷ 32 ∷ 50 ∷ 32 ∷ 49 ∷ 10 ∷ 49 ∷ 32 ∷ 48 ∷ 10 ∷ 99 ∷ 32 ∷ 120 ∷ 10 ∷ []) (table_outcome (refused 1 14) [] [])
    -- a clause without its 0: the text's end: 'p cnf 2 1\n1 2 \n'
    ∷ says (112 ∷ 32 ∷ 99 ∷ 110 ∷ 102 ∷ 32 ∷ 50 ∷ 32 ∷ 49 ∷ 10 ∷ 49 ∷ 32 ∷ 50 ∷ 32 ∷ 10 ∷ []) (table_outcome (refused 1 15) [] [])
    -- a clause too few: the text's end: 'p cnf 2 2\n1 2 0'
    ∷ says (112 ∷ 32 ∷ 99 ∷ 110 ∷ 102 ∷ 32 ∷ 50 ∷ 32 ∷ 50 ∷ 10 ∷ 49 ∷ 32 ∷ 50 ∷ 32 ∷ 48 ∷ []) (table_outcome (refused 1 15) [] [])
    -- a number after the last clause: 'p cnf 2 1\n1 0 \n 2 0'
    ∷ says (112 ∷ 32 ∷ 99 ∷ 110 ∷ 102 ∷ 32 ∷ 50 ∷ 32 ∷ 49 ∷ 10 ∷ 49 ∷ 32 ∷ 48 ∷ 32 ∷ 10 ∷ 32 ∷ 50 ∷ 32 ∷ 48 ∷ []) (table_outcome (refused 1 16) [] [])
    -- a 0 where there are no clauses: 'p cnf 2 0\n0'
    ∷ says (112 ∷ 32 ∷ 99 ∷ 110 ∷ 102 ∷ 32 ∷ 50 ∷ 32 ∷ 48 ∷ 10 ∷ 48 ∷ []) (table_outcome (refused 1 10) [] [])
    -- a success lays its answer down, and what is behind it stays: 'p cnf 4 2\n1 2 0 -3 0'
    ∷ reads (112 ∷ 32 ∷ 99 ∷ 110 ∷ 102 ∷ 32 ∷ 52 ∷ 32 ∷ 50 ∷ 10 ∷ 49 ∷ 32 ∷ 50 ∷ 32 ∷ 48 ∷ 32 ∷ 45 ∷ 51 ∷ 32 ∷ 48 ∷ []) (7 ∷ 7 ∷ 7 ∷ 7 ∷ 7 ∷ []) (8
    ∷ 8 ∷ 8 ∷ 8 ∷ 8 ∷ []) (table_outcome (answered (4 ∷ 2 ∷ [])) (2 ∷ 4 ∷ 7 ∷ 7 ∷ 7 ∷ []) (0 ∷ 2 ∷ 3 ∷ 8 ∷ 8 ∷ []))
    -- as many literals and clauses as there are cells: 'p cnf 4 3\n1 2 3 0 0 4 0'
    ∷ reads (112 ∷ 32 ∷ 99 ∷ 110 ∷ 102 ∷ 32 ∷ 52 ∷ 32 ∷ 51 ∷ 10 ∷ 49 ∷ 32 ∷ 50 ∷ 32 ∷ 51 ∷ 32 ∷ 48 ∷ 32 ∷ 48 ∷ 32 ∷ 52 ∷ 32 ∷ 48 ∷ []) (7 ∷ 7 ∷ 7 ∷ 7
    ∷ []) (8 ∷ 8 ∷ 8 ∷ 8 ∷ []) (table_outcome (answered (4 ∷ 3 ∷ [])) (2 ∷ 4 ∷ 6 ∷ 8 ∷ []) (0 ∷ 3 ∷ 3 ∷ 4 ∷ []))
    -- a refusal leaves the buffers as they came: 'p cnf 4 2\n1 2 0 -3 x'
    ∷ reads (112 ∷ 32 ∷ 99 ∷ 110 ∷ 102 ∷ 32 ∷ 52 ∷ 32 ∷ 50 ∷ 10 ∷ 49 ∷ 32 ∷ 50 ∷ 32 ∷ 48 ∷ 32 ∷ 45 ∷ 51 ∷ 32 ∷ 120 ∷ []) (7 ∷ 7 ∷ 7 ∷ 7 ∷ 7 ∷ []) (8
    ∷ 8 ∷ 8 ∷ 8 ∷ 8 ∷ []) (table_outcome (refused 1 19) (7 ∷ 7 ∷ 7 ∷ 7 ∷ 7 ∷ []) (8 ∷ 8 ∷ 8 ∷ 8 ∷ 8 ∷ []))
    -- a literal cell too few, before a fault: 'x'
    ∷ reads (120 ∷ []) (7 ∷ 7 ∷ 7 ∷ []) (8 ∷ 8 ∷ 8 ∷ 8 ∷ 8 ∷ []) (table_outcome (refused 3 0) (7 ∷ 7 ∷ 7 ∷ []) (8 ∷ 8 ∷ 8 ∷ 8 ∷ 8 ∷ []))
    -- an offset cell too few, before a long text: 'ccccccccccccccccccccccccccccccccccccccccccccccccccccccccccccc'
    ∷ reads (99 ∷ 99 ∷ 99 ∷ 99 ∷ 99 ∷ 99 ∷ 99 ∷ 99 ∷ 99 ∷ 99 ∷ 99 ∷ 99 ∷ 99 ∷ 99 ∷ 99 ∷ 99 ∷ 99 ∷ 99 ∷ 99 ∷ 99 ∷ 99 ∷ 99 ∷ 99 ∷ 99 ∷ 99 ∷ 99 ∷ 99 ∷ 99
    ∷ 99 ∷ 99 ∷ 99 ∷ 99 ∷ 99 ∷ 99 ∷ 99 ∷ 99 ∷ 99 ∷ 99 ∷ 99 ∷ 99 ∷ 99 ∷ 99 ∷ 99 ∷ 99 ∷ 99 ∷ 99 ∷ 99 ∷ 99 ∷ 99 ∷ 99 ∷ 99 ∷ 99 ∷ 99 ∷ 99 ∷ 99 ∷ 99 ∷ 99
    ∷ 99 ∷ 99 ∷ 99 ∷ 99 ∷ []) (7 ∷ 7 ∷ 7 ∷ 7 ∷ 7 ∷ []) (8 ∷ 8 ∷ 8 ∷ []) (table_outcome (refused 3 0) (7 ∷ 7 ∷ 7 ∷ 7 ∷ 7 ∷ []) (8 ∷ 8 ∷ 8 ∷ []))
    -- a text of the longest length: 'c yyyyyyyyyyyyyyyyyyyyyyyyyyyyyyyyyyyyyyyyyyyyyyyy\np cnf 0 0'
    ∷ reads (99 ∷ 32 ∷ 121 ∷ 121 ∷ 121 ∷ 121 ∷ 121 ∷ 121 ∷ 121 ∷ 121 ∷ 121 ∷ 121 ∷ 121 ∷ 121 ∷ 121 ∷ 121 ∷ 121 ∷ 121 ∷ 121 ∷ 121 ∷ 121 ∷ 121 ∷ 121
    ∷ 121 ∷ 121 ∷ 121 ∷ 121 ∷ 121 ∷ 121 ∷ 121 ∷ 121 ∷ 121 ∷ 121 ∷ 121 ∷ 121 ∷ 121 ∷ 121 ∷ 121 ∷ 121 ∷ 121 ∷ 121 ∷ 121 ∷ 121 ∷ 121 ∷ 121 ∷ 121 ∷ 121
    ∷ 121 ∷ 121 ∷ 121 ∷ 10 ∷ 112 ∷ 32 ∷ 99 ∷ 110 ∷ 102 ∷ 32 ∷ 48 ∷ 32 ∷ 48 ∷ []) (7 ∷ 7 ∷ 7 ∷ 7 ∷ 7 ∷ []) (8 ∷ 8 ∷ 8 ∷ 8 ∷ 8
    ∷ []) (table_outcome (answered (0 ∷ 0 ∷ [])) (7 ∷ 7 ∷ 7 ∷ 7 ∷ 7 ∷ []) (0 ∷ 8 ∷ 8 ∷ 8 ∷ 8 ∷ []))
    -- a byte more, with a fault in it: 'c yyyyyyyyyyyyyyyyyyyyyyyyyyyyyyyyyyyyyyyyyyyyyyyyy\nx cnf 0 0'
    ∷ reads (99 ∷ 32 ∷ 121 ∷ 121 ∷ 121 ∷ 121 ∷ 121 ∷ 121 ∷ 121 ∷ 121 ∷ 121 ∷ 121 ∷ 121 ∷ 121 ∷ 121 ∷ 121 ∷ 121 ∷ 121 ∷ 121 ∷ 121 ∷ 121 ∷ 121 ∷ 121
    ∷ 121 ∷ 121 ∷ 121 ∷ 121 ∷ 121 ∷ 121 ∷ 121 ∷ 121 ∷ 121 ∷ 121 ∷ 121 ∷ 121 ∷ 121 ∷ 121 ∷ 121 ∷ 121 ∷ 121 ∷ 121 ∷ 121 ∷ 121 ∷ 121 ∷ 121 ∷ 121 ∷ 121
    ∷ 121 ∷ 121 ∷ 121 ∷ 121 ∷ 10 ∷ 120 ∷ 32 ∷ 99 ∷ 110 ∷ 102 ∷ 32 ∷ 48 ∷ 32 ∷ 48 ∷ []) (7 ∷ 7 ∷ 7 ∷ 7 ∷ 7 ∷ []) (8 ∷ 8 ∷ 8 ∷ 8 ∷ 8
    ∷ []) (table_outcome (refused 2 0) (7 ∷ 7 ∷ 7 ∷ 7 ∷ 7 ∷ []) (8 ∷ 8 ∷ 8 ∷ 8 ∷ 8 ∷ []))
    -- a clause's third literal: 'p cnf 9 1\n1 2 3 0'
    ∷ reads (112 ∷ 32 ∷ 99 ∷ 110 ∷ 102 ∷ 32 ∷ 57 ∷ 32 ∷ 49 ∷ 10 ∷ 49 ∷ 32 ∷ 50 ∷ 32 ∷ 51 ∷ 32 ∷ 48 ∷ []) (7 ∷ 7 ∷ 7 ∷ 7 ∷ 7 ∷ []) (8 ∷ 8 ∷ 8 ∷ 8 ∷ 8
    ∷ []) (table_outcome (answered (9 ∷ 1 ∷ [])) (2 ∷ 4 ∷ 6 ∷ 7 ∷ 7 ∷ []) (0 ∷ 3 ∷ 8 ∷ 8 ∷ 8 ∷ []))
    -- a clause's fourth literal: 'p cnf 9 1\n1 2 3 4 0'
    ∷ reads (112 ∷ 32 ∷ 99 ∷ 110 ∷ 102 ∷ 32 ∷ 57 ∷ 32 ∷ 49 ∷ 10 ∷ 49 ∷ 32 ∷ 50 ∷ 32 ∷ 51 ∷ 32 ∷ 52 ∷ 32 ∷ 48 ∷ []) (7 ∷ 7 ∷ 7 ∷ 7 ∷ 7 ∷ []) (8 ∷ 8 ∷ 8
    ∷ 8 ∷ 8 ∷ []) (table_outcome (refused 2 16) (7 ∷ 7 ∷ 7 ∷ 7 ∷ 7 ∷ []) (8 ∷ 8 ∷ 8 ∷ 8 ∷ 8 ∷ []))
    -- a repeated literal at a full clause is dropped: 'p cnf 9 1\n1 2 3 2 0'
    ∷ reads (112 ∷ 32 ∷ 99 ∷ 110 ∷ 102 ∷ 32 ∷ 57 ∷ 32 ∷ 49 ∷ 10 ∷ 49 ∷ 32 ∷ 50 ∷ 32 ∷ 51 ∷ 32 ∷ 50 ∷ 32 ∷ 48 ∷ []) (7 ∷ 7 ∷ 7 ∷ 7 ∷ 7 ∷ []) (8 ∷ 8 ∷ 8
    ∷ 8 ∷ 8 ∷ []) (table_outcome (answered (9 ∷ 1 ∷ [])) (2 ∷ 4 ∷ 6 ∷ 7 ∷ 7 ∷ []) (0 ∷ 3 ∷ 8 ∷ 8 ∷ 8 ∷ []))
    -- a literal above V at a full clause: 1 before 2: 'p cnf 9 1\n1 2 3 10 0'
    ∷ reads (112 ∷ 32 ∷ 99 ∷ 110 ∷ 102 ∷ 32 ∷ 57 ∷ 32 ∷ 49 ∷ 10 ∷ 49 ∷ 32 ∷ 50 ∷ 32 ∷ 51 ∷ 32 ∷ 49 ∷ 48 ∷ 32 ∷ 48 ∷ []) (7 ∷ 7 ∷ 7 ∷ 7 ∷ 7 ∷ []) (8
    ∷ 8 ∷ 8 ∷ 8 ∷ 8 ∷ []) (table_outcome (refused 1 16) (7 ∷ 7 ∷ 7 ∷ 7 ∷ 7 ∷ []) (8 ∷ 8 ∷ 8 ∷ 8 ∷ 8 ∷ []))
    -- a token that is no number at a full clause: 1 before 2: 'p cnf 9 1\n1 2 3 x 0'
    ∷ reads (112 ∷ 32 ∷ 99 ∷ 110 ∷ 102 ∷ 32 ∷ 57 ∷ 32 ∷ 49 ∷ 10 ∷ 49 ∷ 32 ∷ 50 ∷ 32 ∷ 51 ∷ 32 ∷ 120 ∷ 32 ∷ 48 ∷ []) (7 ∷ 7 ∷ 7 ∷ 7 ∷ 7 ∷ []) (8 ∷ 8
    ∷ 8 ∷ 8 ∷ 8 ∷ []) (table_outcome (refused 1 16) (7 ∷ 7 ∷ 7 ∷ 7 ∷ 7 ∷ []) (8 ∷ 8 ∷ 8 ∷ 8 ∷ 8 ∷ []))
    -- the table's fourth literal: 'p cnf 9 2\n1 2 0 1 2 0'
    ∷ reads (112 ∷ 32 ∷ 99 ∷ 110 ∷ 102 ∷ 32 ∷ 57 ∷ 32 ∷ 50 ∷ 10 ∷ 49 ∷ 32 ∷ 50 ∷ 32 ∷ 48 ∷ 32 ∷ 49 ∷ 32 ∷ 50 ∷ 32 ∷ 48 ∷ []) (7 ∷ 7 ∷ 7 ∷ 7 ∷ 7
    ∷ []) (8 ∷ 8 ∷ 8 ∷ 8 ∷ 8 ∷ []) (table_outcome (answered (9 ∷ 2 ∷ [])) (2 ∷ 4 ∷ 2 ∷ 4 ∷ 7 ∷ []) (0 ∷ 2 ∷ 4 ∷ 8 ∷ 8 ∷ []))
    -- the table's fifth literal: 'p cnf 9 2\n1 2 0 1 2 3 0'
    ∷ reads (112 ∷ 32 ∷ 99 ∷ 110 ∷ 102 ∷ 32 ∷ 57 ∷ 32 ∷ 50 ∷ 10 ∷ 49 ∷ 32 ∷ 50 ∷ 32 ∷ 48 ∷ 32 ∷ 49 ∷ 32 ∷ 50 ∷ 32 ∷ 51 ∷ 32 ∷ 48 ∷ []) (7 ∷ 7 ∷ 7 ∷ 7
    ∷ 7 ∷ []) (8 ∷ 8 ∷ 8 ∷ 8 ∷ 8 ∷ []) (table_outcome (refused 2 20) (7 ∷ 7 ∷ 7 ∷ 7 ∷ 7 ∷ []) (8 ∷ 8 ∷ 8 ∷ 8 ∷ 8 ∷ []))
    -- a repeated literal at a full table is dropped: 'p cnf 9 2\n1 2 0 1 2 1 0'
    ∷ reads (112 ∷ 32 ∷ 99 ∷ 110 ∷ 102 ∷ 32 ∷ 57 ∷ 32 ∷ 50 ∷ 10 ∷ 49 ∷ 32 ∷ 50 ∷ 32 ∷ 48 ∷ 32 ∷ 49 ∷ 32 ∷ 50 ∷ 32 ∷ 49 ∷ 32 ∷ 48 ∷ []) (7 ∷ 7 ∷ 7 ∷ 7
    ∷ 7 ∷ []) (8 ∷ 8 ∷ 8 ∷ 8 ∷ 8 ∷ []) (table_outcome (answered (9 ∷ 2 ∷ [])) (2 ∷ 4 ∷ 2 ∷ 4 ∷ 7 ∷ []) (0 ∷ 2 ∷ 4 ∷ 8 ∷ 8 ∷ []))
    -- a literal above V at a full table: 1 before 2: 'p cnf 9 2\n1 2 0 1 2 -10 0'
    ∷ reads (112 ∷ 32 ∷ 99 ∷ 110 ∷ 102 ∷ 32 ∷ 57 ∷ 32 ∷ 50 ∷ 10 ∷ 49 ∷ 32 ∷ 50 ∷ 32 ∷ 48 ∷ 32 ∷ 49 ∷ 32 ∷ 50 ∷ 32 ∷ 45 ∷ 49 ∷ 48 ∷ 32 ∷ 48 ∷ []) (7
    ∷ 7 ∷ 7 ∷ 7 ∷ 7 ∷ []) (8 ∷ 8 ∷ 8 ∷ 8 ∷ 8 ∷ []) (table_outcome (refused 1 20) (7 ∷ 7 ∷ 7 ∷ 7 ∷ 7 ∷ []) (8 ∷ 8 ∷ 8 ∷ 8 ∷ 8 ∷ []))
    ∷ []
