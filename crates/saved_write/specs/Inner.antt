-- What the inner functions lay down: the fields of the lines of one kind, one after the other. Assumes nothing.
use Rattle.std.specs.Prelude.{◌≡◌, cond, List, [], ◌∷◌, ◌++◌, ℕ, length}
use Rattle.rules.specs.Blocking.{literal}
use Rattle.rules.specs.Book.{Live, Entry}
use Rattle.table.specs.Table.{Table, row}
use Rattle.table.specs.Stack.{lay}
use Rattle.saved.specs.Field.{field}
use Rattle.saved.specs.Form.{Line}

-- the fields of lines with one tag
unfoldable pub fields_of : ℕ → List Line → List ℕ
fields_of tag [] = []
fields_of tag (x ∷ xs) = field 2 tag x ++ fields_of tag xs

-- the line of clause k, where it is live
unfoldable pub live_line : Table → Live → ℕ → List Line
live_line t L k = cond (L k) ((k ∷ row t k) ∷ []) []

-- the line of an entry
unfoldable pub removed_line : Table → Entry literal → Line
removed_line t e = e.0 ∷ e.1 ∷ row t e.0

-- bytes laid down at the front of a buffer, and how many they are
pub record Put (bytes old new : List ℕ) (r : ℕ) : Type 0 where
  pub long : r ≡ length bytes
  pub laid : new ≡ lay bytes old
