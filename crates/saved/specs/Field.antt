-- Fields: a one-byte tag, a two-byte length of the value, and the value (document 01, 'The saved form'). Assumes nothing.
use Rattle.std.specs.Prelude.{ℕ, ◌+◌, ◌-◌, ◌*◌, Bool, ◌&&◌, List, ◌∷◌, ◌++◌, leb, length, get_or, take, drop}
use Rattle.saved.specs.Bytes.{digits, bytes_of}

-- The tags of the header and of a live clause, that of a removed clause being the next, and the bytes of a number inside a field. The end's tag is 7F.
pub record Layout : Type 0 where
  pub header : ℕ
  pub live : ℕ
  pub width : ℕ

abbrev pub narrow : Layout
narrow = record { header = 0x01; live = 0x02; width = 2 }

abbrev pub end_tag : ℕ
end_tag = 0x7F

-- a field whose value is the numbers xs
unfoldable pub field : ℕ → ℕ → List ℕ → List ℕ
field w tag xs = tag ∷ digits 2 (w * length xs) ++ bytes_of w xs

-- the field at the front of bytes: its tag, its value's length, its value, and whether all of it is there
unfoldable pub tag_of : List ℕ → ℕ
tag_of b = get_or b 0 0

unfoldable pub length_of : List ℕ → ℕ
length_of b = get_or b 1 0 * 256 + get_or b 2 0

unfoldable pub value_of : List ℕ → List ℕ
value_of b = take (length_of b) (drop 3 b)

unfoldable pub whole_field : List ℕ → Bool
whole_field b = leb 3 (length b) && leb (length_of b) (length b - 3)
