-- What the reader's inner functions answer: fields, lines beside the parts of the bytes remembered, the scan and the table it leads to. Assumes nothing.
use Rattle.std.specs.Prelude.{◌≡◌, Bool, true, not, ◌&&◌, cond, List, [], ◌∷◌, ℕ, suc, ◌-◌, ◌*◌, ◌≤◌, ◌<◌, eqb, leb, ltb, length, get_or, take, drop, Option, Some, None, is_some, Result, Ok, Err}
use Rattle.std.proofs.Math.Option.{Option as Tests}
use denote.Ref.{Bor}
use Rattle.rules.specs.Walk.{every}
use Rattle.rules.specs.Clause.{Clause, mem}
use Rattle.table.specs.Limits.{base}
use Rattle.table.specs.Table.{Table, distinct, coded}
use Rattle.table.specs.Stack.{entries, push, lay}
use Rattle.table.specs.Answer.{answered, test, test_at, ◌then◌}
use Rattle.table.specs.declared.Refusal.{Refusal}
use Rattle.table.specs.declared.Refusal.TheVariants.{OverLimit, NotBlocking, BadSaved}
use Rattle.stack.specs.Tests.{unblocked_entry}
use Rattle.saved.specs.Bytes.{numbers_of}
use Rattle.saved.specs.Field.{narrow, tag_of, value_of, whole_field}
use Rattle.saved.specs.Form.{Head, Line, number_of, blocking_of}
use Rattle.table.specs.Res.{on_ok, or_fault}
use Rattle.saved.specs.Reading.{head_at, head_tests, line_length, line_limits, read_lines, literals_of, entries_of}
use Rattle.saved.specs.Saved.{Loaded, loaded, or_kept}
use Rattle.saved_read.specs.declared.known.Head.{Head as HeadRead}
use Rattle.saved_read.specs.declared.known.Part.{Part}
use Rattle.saved_read.specs.declared.Kind.{Kind}
use Rattle.saved_read.specs.declared.Kind.TheVariants.{Live, Removed}
use Rattle.saved_read.specs.declared.Front.{Front}

-- what the value that is handed out holds
abbrev pub value_read : Result (Bor (List ℕ)) Refusal → Result (List ℕ) Refusal
value_read r = on_ok (λ v. v.now) r

-- the value of the field at a place, if all of it is there and it has the tag
unfoldable pub value_at : List ℕ → ℕ → ℕ → Result (List ℕ) Refusal
value_at b at tag =
    or_fault (test (whole_field (drop at b)) (BadSaved at) then test (eqb (tag_of (drop at b)) tag) (BadSaved at)) (Ok (value_of (drop at b)))

-- the header ------------------------------------------------------------------
-- the header's four numbers, as the definitions have them
abbrev pub head_as : HeadRead → Head
head_as h = record { variables = h.variables; clauses = h.clauses; literals = h.literals; removals = h.removals }

abbrev pub head_read : Result HeadRead Refusal → Result Head Refusal
head_read r = on_ok head_as r

unfoldable pub header_of : List ℕ → Result Head Refusal
header_of b = or_fault (head_tests base narrow b) (Ok (head_at base narrow b))

-- a line ----------------------------------------------------------------------
-- the line with c lines after it, where the last r lines are those of removed clauses
abbrev pub kind_at : ℕ → ℕ → Kind
kind_at c r = cond (ltb c r) Removed Live

abbrev pub heads_of : Kind → ℕ
heads_of Live = 1
heads_of Removed = 2

-- where the clauses' literals lie in the bytes, as far as the lines were read, by clause number
abbrev pub Parts : Type 0
Parts = List (Option Part)

abbrev pub is_met : Parts → ℕ → Bool
is_met parts k = is_some (get_or parts k None)

-- a number is new: above the last one or, of a removed clause, not met
abbrev pub new_on : Kind → ℕ → Parts → ℕ → Bool
new_on Live last parts k = ltb last k
new_on Removed last parts k = not (is_met parts k)

-- a blocking literal, where there is one, is in the clause
abbrev pub block_on : Kind → Line → Bool
block_on Live x = true
block_on Removed x = mem (blocking_of x) (drop 2 x)

unfoldable pub sound_on : Kind → Head → ℕ → Parts → Line → Bool
sound_on kind h last parts x =
    leb 1 (number_of x)
    && leb (number_of x) h.clauses
    && every (coded h.variables) (drop (heads_of kind) x)
    && distinct (drop (heads_of kind) x)
    && block_on kind x
    && new_on kind last parts (number_of x)

-- the tests of a field's value, after `total` literals
abbrev pub value_tests : Kind → Head → ℕ → ℕ → Parts → List ℕ → ℕ → Tests Refusal
value_tests kind h total last parts v at =
    test (line_length base narrow (heads_of kind) (length v)) (BadSaved at)
    then test (line_limits base narrow (heads_of kind) total (numbers_of 2 v)) (OverLimit at)
    then test (sound_on kind h last parts (numbers_of 2 v)) (BadSaved at)

-- what stands before the literals
abbrev pub block_of : Kind → Line → Option ℕ
block_of Live x = None
block_of Removed x = Some (blocking_of x)

abbrev pub front_of : Kind → Line → Front
front_of kind x = record { number = number_of x; block = block_of kind x }

unfoldable pub line_on : Kind → Head → ℕ → ℕ → Parts → List ℕ → ℕ → Result Front Refusal
line_on kind h total last parts v at = or_fault (value_tests kind h total last parts v at) (Ok (front_of kind (numbers_of 2 v)))

-- the scan --------------------------------------------------------------------
abbrev pub push_block : List ℕ → ℕ → ℕ → Option ℕ → List ℕ
push_block words c k None = words
push_block words c k (Some p) = push words c k p

-- the words with a removed clause's entry behind the first c
unfoldable pub pushed_on : Front → ℕ → List ℕ → List ℕ
pushed_on f c words = push_block words c f.number f.block

unfoldable pub count_on : Front → ℕ → ℕ
count_on f c = cond (is_some f.block) (suc c) c

-- the literals of a part of the bytes, none where there is none
abbrev pub row_in : List ℕ → Option Part → Clause
row_in b None = []
row_in b (Some p) = numbers_of 2 (take (p.to - p.from) (drop p.from b))

-- the literals of clause k, from the parts remembered
abbrev pub row_of : List ℕ → Parts → ℕ → Clause
row_of b parts k = row_in b (get_or parts k None)

-- the parts lie in the bytes
abbrev pub Within : List ℕ → Parts → Type 0
Within b parts = (k : ℕ) (p : Part) → get_or parts k None ≡ Some p → (p.from ≤ p.to) × (p.to ≤ length b)

-- the header was read, nothing is remembered yet, and there is room for 4,000 clauses
pub record Clear (b : List ℕ) (parts : Parts) (words : List ℕ) : Type 0 where
  pub long : 11 ≤ length b
  pub parts_room : 4_000 < length parts
  pub words_room : 8_000 ≤ length words
  pub none_met : (k : ℕ) → get_or parts k None ≡ None

-- all lines were read, and their parts and entries are remembered
pub record AllRead (b : List ℕ) (h : Head) (parts : Parts) (words : List ℕ) (c : ℕ) : Type 0 where
  pub lines : List Line
  pub read : read_lines base narrow h h.clauses [] 0 11 (drop 11 b) ≡ Ok lines
  pub rows : (k : ℕ) → literals_of h.removals lines k ≡ row_of b parts k
  pub within : Within b parts
  pub stacked : entries_of h.removals lines ≡ entries words c
  pub few : c ≤ h.clauses

abbrev pub Scanned : List ℕ → Head → Parts → List ℕ → Result ℕ Refusal → Type 0
Scanned b h parts words (Err x) = read_lines base narrow h h.clauses [] 0 11 (drop 11 b) ≡ Err x
Scanned b h parts words (Ok c) = AllRead b h parts words c

-- the answer ------------------------------------------------------------------
-- what a table and its stack come to: 6 at the first entry whose literal does not block, or both at the fronts of the lent buffers
abbrev pub handed_out : Table → List ℕ → ℕ → List ℕ → List ℕ → List ℕ → Loaded
handed_out t ws c lits offs stack =
    or_kept (test_at (unblocked_entry t ws c) NotBlocking) lits offs stack
    (loaded (answered (t.variables ∷ t.clauses ∷ c ∷ [])) (lay t.lits lits) (lay t.offs offs) (lay (take (2 * c) ws) stack))
