use mathlib.Core.Path.{◌≡◌, refl, sym, ap, ◌∙◌}
use Prim.Native.Nat.{ℕ, ◌+◌, ◌-◌}
use native.Mathlib.Omega.{arith}
use lib.ListN.{length, take, drop, length-drop, take-append-drop}
use lib.Seq.{drop-drop, take_all}
use Rattle.rules.specs.Clause.{Clause, mem}
use Rattle.rules.proofs.Members.{part_holds, part_passed}
use Rattle.rules.proofs.contains.Goals as goal

-- the part from place k up to place e, and what is behind it
behind : (l : ℕ) (C : Clause) (k e : ℕ) → k + (e - k) ≡ e → mem l (drop e C) ≡ mem l (drop (e - k) (drop k C))
behind l C k e z = ap (mem l) (sym (drop-drop (e - k) k C ∙ ap (λ (j : ℕ). drop j C) z))

-- the rest, from place k on
whole : (l : ℕ) (C : Clause) (k : ℕ) → mem l (take (length C - k) (drop k C)) ≡ mem l (drop k C)
whole l C k = ap (mem l) (take_all (length C - k) (drop k C) (simp length-drop (omega arith)))

pub loop-from-init : goal.loop-from-init
loop-from-init c = (omega arith, refl)

pub returns-then-part_contains : goal.returns-then-part_contains
returns-then-part_contains c =
    sym (part_holds c.args.l _ _ _ (sym (take-append-drop _ _)) (sym c.part_contains.ensures ∙ c.if-part_contains.true)) ∙ c.loop-from.invariant.1

pub loop-from-preserved : goal.loop-from-preserved
loop-from-preserved c = (
  omega arith,
  behind c.args.l c.args.c.now c.loop-from.from (c.loop-from.from + 64) (omega arith)
      ∙ part_passed c.args.l _ _ _ (sym (take-append-drop _ _)) (sym c.part_contains.ensures ∙ c.if-part_contains.false)
      ∙ c.loop-from.invariant.1,
)

pub returns : goal.returns
returns c = c.walk_contains.ensures ∙ whole c.args.l c.args.c.now c.loop-from.from ∙ c.loop-from.invariant.1
