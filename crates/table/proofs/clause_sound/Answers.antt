use Rattle.std.proofs.Common.{sym, ◌∙◌, arith}
use Rattle.table.specs.Limits.{base}
use Rattle.table.proofs.Stamps.{marked_start, stamp_there, marked_next, marked_twice, marked_end, long_unsound, uncoded_unsound}
use Rattle.table.proofs.clause_sound.Goals as goal

pub returns-then-c-gt1000 : goal.returns-then-c-gt1000
returns-then-c-gt1000 c = record { answer = sym (long_unsound _ _ _ (omega arith)); stamps = λ x. omega (arith, c.requires.stamped x) }

pub loop-x-init : goal.loop-x-init
loop-x-init c = marked_start _ _ _ _ c.requires.limits.1 c.requires.limits.2 c.requires.stamped

pub returns-then-not-is_coded : goal.returns-then-not-is_coded
returns-then-not-is_coded c = record {
  answer = sym (uncoded_unsound base _ _ c.loop-x.x-index (omega arith) (sym c.is_coded.ensures ∙ c.if-not-is_coded.true));
  stamps = c.loop-x.invariant.stamps;
}

pub bounds-seen-at : goal.bounds-seen-at
bounds-seen-at c = stamp_there c.args.n _ c.loop-x.seen c.requires.limits.0 c.loop-x.invariant.size (sym c.is_coded.ensures ∙ c.if-not-is_coded.false)

pub returns-then-seen-at : goal.returns-then-seen-at
returns-then-seen-at c = record { answer = sym (marked_twice _ _ _ _ _ c.loop-x.invariant base (omega arith) c.if-seen-at.true); stamps = c.loop-x.invariant.stamps }

pub bounds-seen-at-in-loop-x : goal.bounds-seen-at-in-loop-x
bounds-seen-at-in-loop-x c = stamp_there c.args.n _ c.loop-x.seen c.requires.limits.0 c.loop-x.invariant.size (sym c.is_coded.ensures ∙ c.if-not-is_coded.false)

pub loop-x-preserved : goal.loop-x-preserved
loop-x-preserved c =
    marked_next _ _ _ _ _ c.loop-x.invariant c.requires.limits.0 (omega arith) (sym c.is_coded.ensures ∙ c.if-not-is_coded.false) c.if-seen-at.false

pub returns : goal.returns
returns c = record { answer = sym (marked_end _ _ _ _ _ c.loop-x.invariant base (omega arith) (omega arith)); stamps = c.loop-x.invariant.stamps }
