-- What the inner functions of rebuild say of the values. Assumes nothing.
use Rattle.std.specs.Prelude.{cond, List, ℕ, ◌-◌, ◌/◌, ◌≤◌, ◌<◌, length, get_or, set}
use Rattle.rules.specs.Clause.{holds}
use Rattle.rules.specs.Blocking.{literal}
use Rattle.rules.specs.Book.{Entry}
use Rattle.table.specs.Table.{Table, row}
use Rattle.table.specs.Values.{values_of}

-- the values of n variables: a byte for each, 0 or 1
pub record Valued (n : ℕ) (vs : List ℕ) : Type 0 where
  pub room : n ≤ length vs
  pub bits : (i : ℕ) → i < n → get_or vs i 0 ≤ 1

-- the bytes after the walk's step at an entry: where its clause is false, the byte of its literal's variable is flipped
unfoldable pub mended_bytes : Table → Entry literal → List ℕ → List ℕ
mended_bytes t e vs = cond (holds (values_of vs) (row t e.0)) vs (set vs (e.1 / 2 - 1) (1 - get_or vs (e.1 / 2 - 1) 0))
