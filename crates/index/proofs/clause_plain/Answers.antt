use Rattle.std.proofs.Common.{◌<◌, arith, get_or}
use Rattle.rules.specs.Clause.{neg}
use Rattle.table.proofs.Stamps.{marked_start}
use Rattle.index.proofs.Plains.{plain_none, stamps_there, stamp_next, plain_more, plain_end}
use Rattle.index.proofs.clause_plain.Goals as goal
use Rattle.index.proofs.clause_plain.Goals.{In-loop-x}

-- the literal's code and its negation's have stamps
small : (c : In-loop-x) → let x = get_or c.args.c.now c.loop-x.x-index 0 in (x < 4002) × (neg x < 4002)
small c = stamps_there _ c.requires.limits.0 _ c.requires.clause_sound _ c.loop-x-test.true

pub loop-x-init : goal.loop-x-init
loop-x-init c = record { stamps = marked_start _ _ _ _ c.requires.limits.1 c.requires.limits.2 c.requires.stamped; plain = plain_none c.args.c.now }

pub bounds-seen-z : goal.bounds-seen-z
bounds-seen-z c = omega (arith, small (goal.at.bounds-seen-z c).In-loop-x, c.negated-z.ensures, c.loop-x.invariant.stamps.size)

pub bounds-seen-at : goal.bounds-seen-at
bounds-seen-at c = omega (arith, small (goal.at.bounds-seen-at c).In-loop-x, c.loop-x.invariant.stamps.size)

pub loop-x-preserved : goal.loop-x-preserved
loop-x-preserved c =
    let h = c.loop-x in record {
      stamps = stamp_next _ c.requires.limits.0 _ c.requires.clause_sound _ c.loop-x-test.true _ _ h.invariant.stamps;
      plain = plain_more _ c.requires.limits.0 _ c.requires.clause_sound _ c.loop-x-test.true _ _ h.invariant.stamps h.invariant.plain _ c.negated-z.ensures c.if-seen-z.false;
    }

pub returns : goal.returns
returns c = record { plain = λ e. plain_end _ _ c.loop-x-test.false c.loop-x.invariant.plain; stamps = c.loop-x.invariant.stamps.stamps }
