-- What the inner functions say of each other. A reader of the contracts of public functions needs only Stretch. Assumes nothing.
use Rattle.std.specs.Prelude.{◌≡◌, List, ℕ, ◌+◌, ◌-◌, ◌*◌, ◌≤◌, ◌<◌, Bool, ◌&&◌, length, get_or, eqb, leb}
use Rattle.std.specs.Borrow.{Bor}
use Rattle.rules.specs.Clause.{Clause}
use Rattle.table.specs.Limits.{Limits, base}
use Rattle.table.specs.Table.{Table, offset, sound_clause}

-- what is needed of a table to read its clauses: the offsets are there, do not fall, and stay within the literals
pub record Shape (t : Table) : Type 0 where
  pub there : t.clauses < length t.offs
  pub rising : (k : ℕ) → 1 ≤ k → k ≤ t.clauses → offset t (k - 1) ≤ offset t k
  pub inside : (k : ℕ) → k ≤ t.clauses → offset t k ≤ length t.lits

-- the counts are within the limits, and the offsets go from 0 to an end within the literals
unfoldable pub ends_sound : Limits → Table → Bool
ends_sound lim t =
    leb t.variables lim.variables
    && leb t.clauses lim.clauses
    && leb (t.clauses + 1) (length t.offs)
    && eqb (offset t 0) 0
    && leb (offset t t.clauses) lim.literals
    && leb (offset t t.clauses) (length t.lits)

-- a handed out reference: it holds the literals C, and points so many 16-bit literals into the lent buffer
pub record Stretch (given lent : Bor (List ℕ)) (C : Clause) (from : ℕ) : Type 0 where
  pub contents : given.now ≡ C
  pub buffer : given.ref_ptr.0 ≡ lent.ref_ptr.0
  pub start : given.ref_ptr.1 ≡ from * 2 + lent.ref_ptr.1

-- no code's stamp is above k
abbrev pub Stamped : List ℕ → ℕ → Type 0
Stamped seen k = (x : ℕ) → get_or seen x 0 ≤ k

-- a clause tested against the stamps of the clauses before it
pub record Tested (n : ℕ) (C : Clause) (k : ℕ) (seen : List ℕ) (r : Bool) : Type 0 where
  pub answer : r ≡ sound_clause base n C
  pub stamps : Stamped seen k
