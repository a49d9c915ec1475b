use mathlib.Core.Path.{◌≡◌, refl, ap, ◌∙◌}
use Prim.Native.Nat.{ℕ, suc, ◌+◌, ◌-◌}
use native.Mathlib.Omega.{arith}
use lib.ListN.{length, length-set, length-replicate}
use borrow.Author.Rules.{rules}
use Rattle.std.specs.Prelude.{Ok, Err}
use Rattle.table.proofs.Answers.{tests_pass, tests_refuse}
use Rattle.table.proofs.Stamps.{stamped_zeros}
use Rattle.saved_read.specs.Inner.{head_as, kind_at, heads_of, line_on}
use Rattle.saved_read.specs.declared.Kind.{Kind}
use Rattle.saved_read.proofs.Found.{Found, value_found}
use Rattle.saved_read.proofs.State.{State, one_left, none_left, state_start, state_lost, state_refused, holds, most, new_full, new_short, state_next, end_refused, end_read}
use Rattle.saved_read.proofs.scan_lines.Goals as goal
use Rattle.saved_read.proofs.scan_lines.Goals.{After-at-kind, In_ok-value, In_ok-front}

-- a line is read, and the others are still to come
state : (c : After-at-kind) → State c.args.bytes.now (head_as c.args.head.now) (suc (c.args.head.now.clauses - c.loop-read.read - 1))
    c.loop-read.last c.loop-read.total c.loop-read.at c.loop-read.parts c.loop-read.words c.loop-read.count
state c = one_left (omega arith) c.loop-read.invariant.0

field_found : (c : In_ok-value) → Found c.args.bytes.now c.loop-read.at
    (heads_of (kind_at (c.args.head.now.clauses - c.loop-read.read - 1) c.args.head.now.removals) + 1) c.in_ok-value.value.now
field_found c = value_found c.args.bytes.now c.loop-read.at _ _ (rw (c.tag.ensures, c.at-kind.ensures) at c.in_ok-value.ensures)

module _ (c : In_ok-front) where
  abbrev kind : Kind
  kind = kind_at (c.args.head.now.clauses - c.loop-read.read - 1) c.args.head.now.removals

  line_read : Ok c.in_ok-front.front
      ≡ line_on kind (head_as c.args.head.now) c.loop-read.total c.loop-read.last c.loop-read.parts c.in_ok-value.value.now c.loop-read.at
  line_read = rw c.at-kind.ensures at c.in_ok-front.ensures.answer

pub loop-read-init : goal.loop-read-init
loop-read-init c =
    let e : c.args.head.now.clauses - 0 ≡ c.args.head.now.clauses = omega arith in
    (rw e (state_start c.args.bytes.now (head_as c.args.head.now) _ _ c.args.head.now.limits.1 c.requires), refl, refl, length-replicate {A = ℕ} 4002 0, stamped_zeros 4002)

pub returns-in_err-value : goal.returns-in_err-value
returns-in_err-value c =
    let r : c.from_residual.result ≡ Err c.in_err-value.field-0.0 = search rules in
    let l = rw (c.tag.ensures, c.at-kind.ensures) at c.in_err-value.ensures in
    rw r (state_lost c.args.bytes.now (head_as c.args.head.now) _ _ _ _ _ _ _ (state (goal.at.returns-in_err-value c).After-at-kind) _ l)

pub returns-in_err-front : goal.returns-in_err-front
returns-in_err-front c =
    let r : c.from_residual-in_err-front.result ≡ Err c.in_err-front.field-0.0 = search rules in
    let g = state (goal.at.returns-in_err-front c).After-at-kind in
    let f = field_found (goal.at.returns-in_err-front c).In_ok-value in
    let l = rw c.at-kind.ensures at c.in_err-front.ensures.answer in
    rw r (state_refused c.args.bytes.now (head_as c.args.head.now) _ _ _ _ _ _ _ g _ f _ l)

pub bounds-parts-from : goal.bounds-parts-from
bounds-parts-from c =
    let g = state (goal.at.bounds-parts-from c).After-at-kind in
    let f = field_found (goal.at.bounds-parts-from c).In_ok-value in
    let y = line_read (goal.at.bounds-parts-from c).In_ok-front in
    let m = most c.args.bytes.now (head_as c.args.head.now) _ _ _ _ _ _ _ g _ f _ y in
    let p = g.parts_room in
    omega arith

pub overflow_sub-total : goal.overflow_sub-total
overflow_sub-total c =
    let g = state (goal.at.overflow_sub-total c).After-at-kind in
    let f = field_found (goal.at.overflow_sub-total c).In_ok-value in
    let y = line_read (goal.at.overflow_sub-total c).In_ok-front in
    let l = (holds c.args.bytes.now (head_as c.args.head.now) _ _ _ _ _ _ _ g _ f _ y).long in
    let h = c.heads-heads.ensures ∙ ap heads_of c.at-kind.ensures in
    omega arith

pub overflow_cast-parts-in-loop-read : goal.overflow_cast-parts-in-loop-read
overflow_cast-parts-in-loop-read c =
    let g = state (goal.at.overflow_cast-parts-in-loop-read c).After-at-kind in
    let f = field_found (goal.at.overflow_cast-parts-in-loop-read c).In_ok-value in
    let y = line_read (goal.at.overflow_cast-parts-in-loop-read c).In_ok-front in
    let s = new_short c.args.bytes.now (head_as c.args.head.now) _ _ _ _ _ _ _ g _ f _ y in
    let t = new_full c.args.bytes.now (head_as c.args.head.now) _ _ _ _ _ _ _ g _ f _ y in
    omega arith

pub loop-read-preserved : goal.loop-read-preserved
loop-read-preserved c =
    let g = state (goal.at.loop-read-preserved c).After-at-kind in
    let f = field_found (goal.at.loop-read-preserved c).In_ok-value in
    let y = line_read (goal.at.loop-read-preserved c).In_ok-front in
    let n : c.args.head.now.clauses - (c.loop-read.read + 1) ≡ c.args.head.now.clauses - c.loop-read.read - 1 = omega arith in
    let v = c.in_ok-value.value.now in
    let q = c.push_entry-count.auto.words in
    let h = c.heads-heads.ensures ∙ ap heads_of c.at-kind.ensures in
    let e : c.loop-read.at + 3 + length v ≡ c.loop-read.at + (3 + length v) = omega arith in (
      rw (c.from.ensures, c.push_entry-count.ensures.0, c.push_entry-count.ensures.1, n, e, h)
          (state_next c.args.bytes.now (head_as c.args.head.now) _ _ _ _ _ _ _ g v f c.in_ok-front.front y _ refl refl),
      simp length-set c.loop-read.invariant.1,
      omega arith,
      c.read_line.auto.seen ∙ c.loop-read.invariant.3,
      c.read_line.ensures.stamps,
    )

pub returns-in_err-read_end : goal.returns-in_err-read_end
returns-in_err-read_end c =
    let g = none_left c.loop-read-test.false c.loop-read.invariant.0 in
    let r : c.from_residual-in_err-read_end.result ≡ Err c.in_err-read_end.field-0.0 = search rules in
    rw r (end_refused c.args.bytes.now (head_as c.args.head.now) _ _ _ _ _ _ g _ (tests_refuse _ _ c.read_end.ensures c.in_err-read_end.was))

pub returns : goal.returns
returns c =
    let g = none_left c.loop-read-test.false c.loop-read.invariant.0 in
    end_read c.args.bytes.now (head_as c.args.head.now) _ _ _ _ _ _ g (tests_pass _ c.read_end.ensures c.in_ok-read_end.was)

pub read_line-requires-clause-stamped : goal.read_line-requires-clause-stamped
read_line-requires-clause-stamped c = λ x. omega (arith, c.loop-read.invariant.4 x)
