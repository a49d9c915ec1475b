-- Rebuild (document 01, 'The blocking rule'; source document 004, section 4), and the model test. Assumes nothing.
use Rattle.std.specs.Prelude.{Bool, not, ◌&&◌, cond, List, [], ◌∷◌, ℕ}
use Rattle.rules.specs.Walk.{least}
use Rattle.rules.specs.Clause.{Values, holds}
use Rattle.rules.specs.Blocking.{Notion}
use Rattle.rules.specs.Book.{Book, Live, Entry}

module _ (N : Notion) (b : Book) where
  -- one entry: where its clause is false under the present values, they are mended for its reason; otherwise nothing happens
  unfoldable pub mended : Values → Entry N → Values
  mended v e = cond (holds v (b.clause e.0)) v (N.mend v e.1)

  -- the walk goes through the stack from newest to oldest
  unfoldable pub walk : Values → List (Entry N) → Values
  walk v [] = v
  walk v (e ∷ s) = mended (walk v s) e

-- clause k is live and false under the values
unfoldable pub fails : Book → Live → Values → ℕ → Bool
fails b L v k = L k && not (holds v (b.clause k))

-- the lowest live clause that is false under the values, or 0
unfoldable pub falsified : Book → Live → Values → ℕ
falsified b L v = least (fails b L v) b.count
