use mathlib.Core.Path.{◌≡◌, sym, ap, ◌∙◌}
use native.Mathlib.Omega.{arith}
use Prim.Native.Nat.{ℕ, ◌+◌, ◌≤◌}
use lib.ListN.{length, take, length-replicate}
use borrow.Author.Rules.{rules}
use Rattle.std.specs.Prelude.{Err}
use Rattle.table.specs.Table.{table}
use Rattle.stack.specs.Inner.{Passed}
use Rattle.rules.specs.Clause.{Clause}
use Rattle.saved.specs.Form.{Head}
use Rattle.saved.specs.Reading.{all_literals, all_offsets}
use Rattle.saved.proofs.Packed.{length_offsets}
use Rattle.saved_read.specs.Inner.{head_as, row_of}
use Rattle.saved_read.proofs.Whole.{all_none, Headed, headed, head_refused, lines_refused, total_fits, passed_tests, handed, no_lits, no_offs, no_stack, rooms, form_refused, front_rows, front_ends}
use Rattle.saved_read.proofs.read_saved.Goals as goal
use Rattle.saved_read.proofs.read_saved.Goals.{After-fill_rows-literals, then-lits-lt16000-via-then-lits-lt16000, then-lits-lt16000-via-else-lits-lt16000+then-offs-lt4001, then-lits-lt16000-via-else-lits-lt16000+else-offs-lt4001+then-stack-lt8000}

-- the table that is filled, and what table and stack pass
module _ (c : After-fill_rows-literals) where
  abbrev h : Head
  h = head_as c.in_ok-head.head

  abbrev row : ℕ → Clause
  row = row_of c.args.bytes.now c.scan_lines.new.parts

  tested : Headed c.args.bytes.now h
  tested = headed c.args.bytes.now h c.in_ok-head.ensures

  fits : c.fill_rows-literals.result ≤ 16_000
  fits = rw c.fill_rows-literals.ensures.count (total_fits c.args.bytes.now h tested _ _ _ c.in_ok-count.ensures)

  rows_hold : take c.fill_rows-literals.result c.fill_rows-literals.new.lits ≡ all_literals row h.clauses
  rows_hold = front_rows row h.clauses _ _ _ c.fill_rows-literals.ensures.count c.fill_rows-literals.ensures.lits

  ends_hold : take (h.clauses + 1) c.fill_rows-literals.new.offs ≡ all_offsets row h.clauses
  ends_hold = front_ends row h.clauses _ _ c.fill_rows-literals.ensures.offs

  passed : Passed
      (table h.variables h.clauses (take c.fill_rows-literals.result c.fill_rows-literals.new.lits) (take (h.clauses + 1) c.fill_rows-literals.new.offs))
      c.scan_lines.new.words c.in_ok-count.count
  passed =
      passed_tests c.args.bytes.now h tested _ _ _ c.in_ok-count.ensures
      _ _ rows_hold ends_hold c.in_ok-head.head.limits.1 (search rules)

pub returns-then-lits-lt16000 : goal.returns-then-lits-lt16000
returns-then-lits-lt16000 c =
    let b = c.args.bytes.now in
    let L = c.args.lits.now in
    let O = c.args.offs.now in
    let S = c.args.stack.now in
    elim c.then-lits-lt16000.branch [
      | then-lits-lt16000-via-then-lits-lt16000 w ↦ no_lits b L O S w.if-lits-lt16000.true
      | then-lits-lt16000-via-else-lits-lt16000+then-offs-lt4001 w ↦ no_offs b L O S (omega arith) w.if-offs-lt4001.true
      | then-lits-lt16000-via-else-lits-lt16000+else-offs-lt4001+then-stack-lt8000 w ↦ no_stack b L O S (omega arith) (omega arith) w.if-stack-lt8000.true
    ]

pub returns-in_err-head : goal.returns-in_err-head
returns-in_err-head c =
    let r : c.from_residual.result ≡ Err c.in_err-head.field-0.0 = search rules in
    rw r (form_refused c.args.bytes.now c.args.lits.now c.args.offs.now c.args.stack.now _ (omega arith) (omega arith) (omega arith) (head_refused c.args.bytes.now _ c.in_err-head.ensures))

pub scan_lines-requires : goal.scan_lines-requires
scan_lines-requires c =
    record {
      long = (headed c.args.bytes.now (head_as c.in_ok-head.head) c.in_ok-head.ensures).long;
      parts_room = simp length-replicate (omega arith);
      words_room = simp length-replicate (omega arith);
      none_met = λ k. all_none 4001 k;
    }

pub returns-in_err-count : goal.returns-in_err-count
returns-in_err-count c =
    let g = headed c.args.bytes.now (head_as c.in_ok-head.head) c.in_ok-head.ensures in
    let r : c.from_residual-in_err-count.result ≡ Err c.in_err-count.field-0.0 = search rules in
    rw r
    (form_refused c.args.bytes.now c.args.lits.now c.args.offs.now c.args.stack.now _ (omega arith) (omega arith) (omega arith)
    (lines_refused c.args.bytes.now (head_as c.in_ok-head.head) g _ c.in_err-count.ensures))

pub fill_rows-literals-requires-clause-within : goal.fill_rows-literals-requires-clause-within
fill_rows-literals-requires-clause-within c = c.in_ok-count.ensures.within

pub fill_rows-literals-requires-clause-clauses_fit : goal.fill_rows-literals-requires-clause-clauses_fit
fill_rows-literals-requires-clause-clauses_fit c =
    let u = c.in_ok-head.head.limits.1 in
    let p = c.scan_lines.auto.parts in
    (search rules, search rules)

pub fill_rows-literals-requires-clause-literals_fit : goal.fill_rows-literals-requires-clause-literals_fit
fill_rows-literals-requires-clause-literals_fit c =
    let f = total_fits c.args.bytes.now (head_as c.in_ok-head.head) (headed c.args.bytes.now (head_as c.in_ok-head.head) c.in_ok-head.ensures) _ _ _ c.in_ok-count.ensures in
    (simp length-replicate (omega arith), simp length-replicate (omega arith))

pub slice_bounds-rows-end : goal.slice_bounds-rows-end
slice_bounds-rows-end c = omega (arith, fits (goal.at.slice_bounds-rows-end c).After-fill_rows-literals)

pub slice_bounds-table-end : goal.slice_bounds-table-end
slice_bounds-table-end c = c.fill_rows-literals.ensures.count ∙ sym (ap length (rows_hold (goal.at.slice_bounds-table-end c).After-fill_rows-literals))

pub overflow_add-ends : goal.overflow_add-ends
overflow_add-ends c = omega (arith, c.in_ok-head.head.limits.1)

pub slice_bounds-ends-end : goal.slice_bounds-ends-end
slice_bounds-ends-end c = omega (arith, c.in_ok-head.head.limits.1)

pub slice_bounds-table-end-2 : goal.slice_bounds-table-end-2
slice_bounds-table-end-2 c =
    let a = (goal.at.slice_bounds-table-end-2 c).After-fill_rows-literals in
    sym (length_offsets (row a) c.in_ok-head.head.clauses) ∙ sym (ap length (ends_hold a))

pub invariant_of-opened : goal.invariant_of-opened
invariant_of-opened c = let o = c in record { sound = (passed (goal.at.invariant_of-opened o).After-fill_rows-literals).table_sound }

pub invariant_of-opened-2 : goal.invariant_of-opened-2
invariant_of-opened-2 c = let o = c in record { passed = passed (goal.at.invariant_of-opened-2 o).After-fill_rows-literals }

pub hand_out-requires-clause-lits : goal.hand_out-requires-clause-lits
hand_out-requires-clause-lits c =
    let a = (goal.at.hand_out-requires-clause-lits c).After-fill_rows-literals in
    let n = c.fill_rows-literals.ensures.count ∙ sym (ap length (rows_hold a)) in
    omega (arith, fits a)

pub hand_out-requires-clause-offs : goal.hand_out-requires-clause-offs
hand_out-requires-clause-offs c =
    let a = (goal.at.hand_out-requires-clause-offs c).After-fill_rows-literals in
    let e = ap length (ends_hold a) in
    let o = length_offsets (row a) c.in_ok-head.head.clauses in
    omega (arith, c.in_ok-head.head.limits.1)

pub hand_out-requires-clause-stack : goal.hand_out-requires-clause-stack
hand_out-requires-clause-stack c = omega (arith, c.in_ok-count.ensures.few, c.in_ok-head.head.limits.1)

pub returns : goal.returns
returns c =
    let a = (goal.at.returns c).After-fill_rows-literals in
    c.hand_out.ensures
    ∙ handed c.args.bytes.now (h a) (tested a) _ _ _ c.in_ok-count.ensures _ _ (rows_hold a) (ends_hold a) c.in_ok-head.head.limits.1 (search rules) c.args.lits.now c.args.offs.now c.args.stack.now
    ∙ rooms c.args.bytes.now c.args.lits.now c.args.offs.now c.args.stack.now (omega arith) (omega arith) (omega arith)
