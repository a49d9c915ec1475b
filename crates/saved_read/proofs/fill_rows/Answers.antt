use mathlib.Core.Path.{◌≡◌, refl, ap, ◌∙◌}
use Prim.Native.Nat.{ℕ, ◌+◌, ◌≤◌}
use native.Mathlib.Omega.{arith}
use lib.ListN.{set, length, length-drop, length-take, length-set}
use borrow.Author.Rules.{rules}
use Rattle.table.specs.Stack.{lay}
use Rattle.table.proofs.Laying.{lay_over}
use Rattle.saved.specs.Bytes.{numbers_of}
use Rattle.saved.specs.Reading.{all_literals, all_offsets}
use Rattle.saved.proofs.Packed.{length_offsets}
use Rattle.saved_read.specs.Inner.{row_of}
use Rattle.saved_read.proofs.Rows.{length_more, length_most, literals_start, literals_none, offsets_begin, literals_more, offsets_more}
use Rattle.saved_read.proofs.fill_rows.Goals as goal
use Rattle.saved_read.proofs.fill_rows.Goals.{After-part_at-part}

-- the next part holds the next clause's literals, and there is room for them
module _ (c : After-part_at-part) where
  part : numbers_of 2 c.part_at-part.result.now ≡ row_of c.args.bytes.now c.args.parts.now (c.loop-k.k + 1)
  part = c.part_at-part.ensures

  more : length (all_literals (row_of c.args.bytes.now c.args.parts.now) (c.loop-k.k + 1)) ≡ c.loop-k.at + length (row_of c.args.bytes.now c.args.parts.now (c.loop-k.k + 1))
  more = rw c.loop-k.invariant.0 (length_more (row_of c.args.bytes.now c.args.parts.now) c.loop-k.k)

  fits : length (all_literals (row_of c.args.bytes.now c.args.parts.now) (c.loop-k.k + 1)) ≤ length (all_literals (row_of c.args.bytes.now c.args.parts.now) c.args.m)
  fits = length_most (row_of c.args.bytes.now c.args.parts.now) c.args.m (c.loop-k.k + 1) (omega arith)

pub loop-k-init : goal.loop-k-init
loop-k-init c =
    (literals_none (row_of c.args.bytes.now c.args.parts.now), refl, refl, literals_start (row_of c.args.bytes.now c.args.parts.now) _, offsets_begin (row_of c.args.bytes.now c.args.parts.now) c.args.offs.now (omega arith))

pub offset_bounds-lits-at : goal.offset_bounds-lits-at
offset_bounds-lits-at c = let a = (goal.at.offset_bounds-lits-at c).After-part_at-part in omega (arith, more a, fits a)

pub slice_bounds-copy_numbers-count : goal.slice_bounds-copy_numbers-count
slice_bounds-copy_numbers-count c = let a = (goal.at.slice_bounds-copy_numbers-count c).After-part_at-part in omega (arith, more a, fits a)

pub slice_bounds-copy_numbers-start : goal.slice_bounds-copy_numbers-start
slice_bounds-copy_numbers-start c = let a = (goal.at.slice_bounds-copy_numbers-start c).After-part_at-part in omega (arith, more a, fits a)

pub copy_numbers-at-requires : goal.copy_numbers-at-requires
copy_numbers-at-requires c =
    let a = (goal.at.copy_numbers-at-requires c).After-part_at-part in
    let s = more a in
    let t = fits a in
    rw (part a) (simp (length-take, length-drop) (omega arith))

pub overflow_add-at : goal.overflow_add-at
overflow_add-at c = let a = (goal.at.overflow_add-at c).After-part_at-part in omega (arith, c.copy_numbers-at.ensures.count ∙ ap length (part a), more a, fits a)

pub overflow_cast-offs : goal.overflow_cast-offs
overflow_cast-offs c = let a = (goal.at.overflow_cast-offs c).After-part_at-part in omega (arith, c.copy_numbers-at.ensures.count ∙ ap length (part a), more a, fits a)

pub loop-k-preserved : goal.loop-k-preserved
loop-k-preserved c =
    let a = (goal.at.loop-k-preserved c).After-part_at-part in
    let f = row_of c.args.bytes.now c.args.parts.now in
    let r = c.copy_numbers-at.ensures.count ∙ ap length (part a) in
    let s = more a in
    let t = fits a in
    let z = length-set c.args.offs.now 0 0 in (
      omega arith,
      search rules,
      length-set c.loop-k.offs (c.loop-k.k + 1) _ ∙ c.loop-k.invariant.2,
      literals_more f c.loop-k.k c.loop-k.at _ c.loop-k.lits _ c.loop-k.invariant.3 c.loop-k.invariant.0 (rw (part a) at c.copy_numbers-at.ensures.laid),
      offsets_more f c.loop-k.k _ _ c.loop-k.offs c.loop-k.invariant.4 (omega arith) (omega arith),
    )

pub returns : goal.returns
returns c =
    let f = row_of c.args.bytes.now c.args.parts.now in
    let e : c.loop-k.k ≡ c.args.m = omega arith in
    record {
      count = c.loop-k.invariant.0 ∙ ap (λ (k : ℕ). length (all_literals f k)) e;
      lits = c.loop-k.invariant.3 ∙ ap (λ (k : ℕ). lay (all_literals f k) c.args.lits.now) e;
      offs =
          c.loop-k.invariant.4
          ∙ ap (λ (k : ℕ). lay (all_offsets f k) (set c.args.offs.now 0 0)) e
          ∙ lay_over (all_offsets f c.args.m) c.args.offs.now 0 (omega (arith, length_offsets f c.args.m));
    }
