-- The clauses of a sound table. Assumes nothing.
use mathlib.Core.Path.{◌≡◌}
use mathlib.Core.Bool.{true}
use Prim.Native.Nat.{ℕ, ◌+◌, ◌*◌, ◌≤◌, ◌<◌}
use lib.ListN.{length, get_or}
use Rattle.std.proofs.lemmas.Grind.{get_or_default_zero}
use Rattle.rules.specs.Clause.{Clause}
use Rattle.rules.proofs.Members.{mem_at}
use Rattle.table.specs.Limits.{base}
use Rattle.table.specs.Lent.{lent}
use Rattle.table.specs.Table.{Table, row, sound}
use Rattle.table.specs.declared.Table.{Table as LentTable}
use Rattle.table.proofs.Soundness.{sound_of, literal_coded}

pub clauses_few : (t : LentTable) → sound base (lent t) ≡ true → t.clauses ≤ 4000
clauses_few t s = (sound_of (lent t) s).clauses

-- every literal of a clause of a sound table is the code of a variable or of its negation
pub row_coded : (t : Table) → sound base t ≡ true → (k : ℕ) → 1 ≤ k → k ≤ t.clauses → {C : Clause} → C ≡ row t k
    → (i d : ℕ) → i < length C → (2 ≤ get_or C i d) × (get_or C i d ≤ 2 * t.variables + 1)
row_coded t s k l u e =
    rw e (λ i d h. rw (get_or_default_zero (row t k) i d h) (literal_coded t (sound_of t s) k (get_or (row t k) i 0) l u (mem_at (row t k) i h)))
