-- The fields of a line and the items of a field. Assumes nothing.
use Rattle.std.specs.Prelude.{ℕ, ◌==◌, if◌then◌else◌, List, [], ◌∷◌, length, get_or}
use Rattle.std.specs.List.{slice_split}

-- piece i of a text that a byte parts, from 0, and nothing, where there are fewer
abbrev pub piece_of : List ℕ → ℕ → ℕ → List ℕ
piece_of text by i = get_or (slice_split (λ b. b == by) text) i []

-- of texts, those before the first empty one
abbrev pub up_to_empty : List (List ℕ) → List (List ℕ)
up_to_empty [] = []
up_to_empty (s ∷ texts) = if length s == 0 then [] else s ∷ up_to_empty texts

-- the items of a field, which blanks part, up to an empty one
abbrev pub items_of : List ℕ → List (List ℕ)
items_of field = up_to_empty (slice_split (λ b. b == 32) field)
