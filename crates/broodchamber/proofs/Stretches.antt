-- What is handed out of a table, as a stretch of its buffer. Assumes nothing.
use mathlib.Core.Path.{◌≡◌, refl}
use mathlib.Core.Bool.{Bool, true, false}
use mathlib.Core.List.{[]}
use mathlib.Core.Logic.{◌⊎◌, inl, inr}
use Prim.Native.Nat.{ℕ, ◌-◌, ◌≤◌, ◌<◌}
use borrow.Author.Tests.{leb-true}
use lib.ListN.{length, get_or}
use Rattle.rules.proofs.Logic.{and_true}
use Rattle.table.specs.Limits.{base}
use Rattle.table.specs.Table.{Table, offset, names, handed_out}
use Rattle.table.proofs.Soundness.{sound_of}

-- it is nothing, or the clause's start is there among the offsets
pub handed_tells : (t : Table) (k : ℕ)
    → (handed_out base t k ≡ []) ⊎ ((1 ≤ k) × (k ≤ t.clauses) × (t.clauses < length t.offs) × (offset t (k - 1) ≡ get_or t.offs (k - 1) 0))
unfolding handed_out names offset
handed_tells t k = by (names base t k) refl
  where
    by : (b : Bool) → names base t k ≡ b
        → (handed_out base t k ≡ []) ⊎ ((1 ≤ k) × (k ≤ t.clauses) × (t.clauses < length t.offs) × (offset t (k - 1) ≡ get_or t.offs (k - 1) 0))
    by true e = let q = simp and_true at e in inr (leb-true _ _ q.0.1, leb-true _ _ q.1, (sound_of t q.0.0).shape.there, refl)
    by false e = inl (rw e refl)
