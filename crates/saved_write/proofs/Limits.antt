-- The limits of a sound table, and of a stack that is open for it. Assumes nothing.
use mathlib.Core.Path.{◌≡◌}
use mathlib.Core.Bool.{true}
use mathlib.Core.List.{List}
use Prim.Native.Nat.{ℕ, ◌≤◌, ◌<◌}
use native.Mathlib.Omega.{arith}
use lib.ListN.{length, get_or}
use Rattle.table.specs.Limits.{base}
use Rattle.table.specs.Lent.{lent}
use Rattle.table.specs.Table.{Table, offset, sound}
use Rattle.table.specs.declared.Table.{Table as LentTable}
use Rattle.table.proofs.Soundness.{sound_of}
use Rattle.stack.specs.Inner.{Passed}

module _ (t : LentTable) (s : sound base (lent t) ≡ true) where
  pub variables_few : t.variables ≤ 2000
  variables_few = (sound_of (lent t) s).variables

  pub clauses_few : t.clauses ≤ 4000
  clauses_few = (sound_of (lent t) s).clauses

  pub offsets_there : t.clauses < length t.offs.now
  offsets_there = omega (arith, (sound_of (lent t) s).shape.there)

  pub literals_few : get_or t.offs.now t.clauses 0 ≤ 16000
  literals_few = unfold offset in (sound_of (lent t) s).total

pub count_few : (t : Table) (ws : List ℕ) (c : ℕ) → Passed t ws c → c ≤ t.clauses
count_few t ws c p = p.count

pub ruleset limits = (variables_few, clauses_few, offsets_there, literals_few, count_few)
