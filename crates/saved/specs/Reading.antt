-- Reading a saved form: every fault with its place, and the table and stack that an accepted form gives (document 01, 'The saved form'). Assumes nothing.
use Rattle.std.specs.Prelude.{ℕ, zero, suc, ◌+◌, ◌-◌, ◌*◌, ◌%◌, Bool, not, ◌&&◌, ◌||◌, cond, List, [], ◌∷◌, ◌++◌, eqb, leb, ltb, length, get_or, drop, Ok}
use Rattle.std.proofs.Math.Option.{Option}
use Rattle.rules.specs.Walk.{every, upto}
use Rattle.rules.specs.Clause.{Clause, mem}
use Rattle.rules.specs.Blocking.{literal}
use Rattle.rules.specs.Book.{Entry}
use Rattle.table.specs.Limits.{Limits}
use Rattle.table.specs.Table.{Table, table, distinct, coded}
use Rattle.table.specs.Answer.{test, ◌then◌}
use Rattle.table.specs.Res.{Res, on_ok, or_fault}
use Rattle.table.specs.declared.Refusal.{Refusal}
use Rattle.table.specs.declared.Refusal.TheVariants.{OverLimit, BadSaved}
use Rattle.saved.specs.Bytes.{numbers_of}
use Rattle.saved.specs.Field.{Layout, end_tag, tag_of, length_of, value_of, whole_field}
use Rattle.saved.specs.Form.{Head, Line, Form, number_of, blocking_of, heads_at, literals_at, tag_at}

-- "In one field the order is: whole field present, tag, length, limits (2), the rest." The first three of the field at the front of the bytes b, which
-- has the offset `at`.
abbrev pub field_tests : ℕ → List ℕ → ℕ → Bool → Option Refusal
field_tests tag b at right_length =
    test (whole_field b) (BadSaved at) then test (eqb (tag_of b) tag) (BadSaved at) then test right_length (BadSaved at)

module _ (lim : Limits) (lay : Layout) where
  -- the header -----------------------------------------------------------------
  unfoldable pub head_of : List ℕ → Head
  head_of x = record { variables = get_or x 0 0; clauses = get_or x 1 0; literals = get_or x 2 0; removals = get_or x 3 0 }

  -- the header at the front of the bytes
  unfoldable pub head_at : List ℕ → Head
  head_at b = head_of (numbers_of lay.width (value_of b))

  unfoldable pub head_limits : Head → Bool
  head_limits h = leb h.variables lim.variables && leb h.clauses lim.clauses && leb h.literals lim.literals

  -- "More removals than clauses is a fault of the header."
  abbrev pub head_tests : List ℕ → Option Refusal
  head_tests b =
      field_tests lay.header b 0 (eqb (length_of b) (4 * lay.width))
      then test (head_limits (head_at b)) (OverLimit 0)
      then test (leb (head_at b).removals (head_at b).clauses) (BadSaved 0)

  -- a clause -------------------------------------------------------------------
  -- the value is whole numbers, at least those before the literals
  unfoldable pub line_length : ℕ → ℕ → Bool
  line_length heads len = eqb (len % lay.width) 0 && leb (lay.width * heads) len

  -- with this line's literals, after `total` before it
  unfoldable pub line_limits : ℕ → ℕ → Line → Bool
  line_limits heads total x = leb (length x - heads) lim.clause_literals && leb (total + (length x - heads)) lim.literals

  -- "met before or, in `02`, not rising": beside the numbers met, newest first
  unfoldable pub new_number : ℕ → List ℕ → ℕ → Bool
  new_number heads met k = cond (eqb heads 1) (ltb (get_or met 0 0) k) (not (mem k met))

  -- "A clause number outside 1 to m, met before or, in `02`, not rising, a code outside 2 to 2n+1, a repeated literal, and a blocking literal not in its
  -- clause are faults of their field"
  unfoldable pub line_sound : ℕ → Head → List ℕ → Line → Bool
  line_sound heads h met x =
      leb 1 (number_of x)
      && leb (number_of x) h.clauses
      && every (coded h.variables) (drop heads x)
      && distinct (drop heads x)
      && (eqb heads 1 || mem (blocking_of x) (drop heads x))
      && new_number heads met (number_of x)

  -- the numbers of the field at the front of the bytes
  unfoldable pub line_at : List ℕ → Line
  line_at b = numbers_of lay.width (value_of b)

  abbrev pub line_tests : Head → ℕ → ℕ → List ℕ → List ℕ → ℕ → Option Refusal
  line_tests h c total met b at =
      field_tests (tag_at lay c h.removals) b at (line_length (heads_at c h.removals) (length_of b))
      then test (line_limits (heads_at c h.removals) total (line_at b)) (OverLimit at)
      then test (line_sound (heads_at c h.removals) h met (line_at b)) (BadSaved at)

  -- the end --------------------------------------------------------------------
  -- "A total of literals that disagrees with the header is a fault of the end field; bytes after it are a fault at the first of them."
  abbrev pub end_tests : Head → ℕ → List ℕ → ℕ → Option Refusal
  end_tests h total b at =
      field_tests end_tag b at (eqb (length_of b) 0)
      then test (eqb total h.literals) (BadSaved at)
      then test (eqb (length b) 3) (BadSaved (at + 3))

  -- the whole form ---------------------------------------------------------------
  -- c lines are still to come, after the numbers met and `total` literals; the bytes b have the offset `at`
  unfoldable pub read_lines : Head → ℕ → List ℕ → ℕ → ℕ → List ℕ → Res (List Line)
  read_lines h zero met total at b = or_fault (end_tests h total b at) (Ok [])
  read_lines h (suc c) met total at b =
      let x : Line = line_at b in
      or_fault (line_tests h c total met b at)
      (on_ok (λ xs. x ∷ xs)
      (read_lines h c (number_of x ∷ met) (total + (length x - heads_at c h.removals)) (at + (3 + length_of b)) (drop (3 + length_of b) b)))

  unfoldable pub read_form : List ℕ → Res Form
  read_form b =
      let h : Head = head_at b in
      or_fault (head_tests b)
      (on_ok (λ xs. record { head = h; lines = xs }) (read_lines h h.clauses [] 0 (3 + length_of b) (drop (3 + length_of b) b)))

-- the table and the stack of a form ---------------------------------------------

-- the literals of clause k, wherever its line stands
unfoldable pub literals_of : ℕ → List Line → ℕ → Clause
literals_of r [] k = []
literals_of r (x ∷ xs) k = cond (eqb (number_of x) k) (literals_at (length xs) r x) (literals_of r xs k)

-- the literals of the clauses 1 to m, one clause behind the other
unfoldable pub all_literals : (ℕ → Clause) → ℕ → List ℕ
all_literals f zero = []
all_literals f (suc m) = all_literals f m ++ f (suc m)

-- the offsets 0 to m
unfoldable pub all_offsets : (ℕ → Clause) → ℕ → List ℕ
all_offsets f m = upto (λ k. length (all_literals f k)) (suc m)

-- the entries of the last r lines, oldest first
unfoldable pub entries_of : ℕ → List Line → List (Entry literal)
entries_of r [] = []
entries_of r (x ∷ xs) = cond (ltb (length xs) r) ((number_of x, blocking_of x) ∷ entries_of r xs) (entries_of r xs)

unfoldable pub table_of : Form → Table
table_of f =
    let row : ℕ → Clause = literals_of f.head.removals f.lines in
    table f.head.variables f.head.clauses (all_literals row f.head.clauses) (all_offsets row f.head.clauses)

unfoldable pub stack_of : Form → List (Entry literal)
stack_of f = entries_of f.head.removals f.lines
