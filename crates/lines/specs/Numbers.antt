-- What the digits of a table say. Assumes nothing.
use Rattle.std.specs.Prelude.{ℕ, ◌+◌, ◌-◌, ◌*◌, ◌^◌, ◌≤◌, ◌≡◌, ◌&&◌, List, ◌∷◌, length, nat_le, if◌then◌else◌}
use Rattle.std.specs.List.{fold}

-- a digit's value, to the base 16, and 0 for any other byte
abbrev pub digit : ℕ → ℕ
digit b = if nat_le 48 b && nat_le b 57 then b - 48 else (if nat_le 65 b && nat_le b 70 then b - 55 else 0)

-- a number with one more digit to the base 10, and the largest one, where the number is above 1844674407370955160
abbrev pub longer : ℕ → ℕ → ℕ
longer v d = if nat_le v 1844674407370955160 then v * 10 + d else 2 ^ 64 - 1

-- the number that a text's digits say
abbrev pub number_of : List ℕ → ℕ
number_of s = fold (λ v b. longer v (digit b)) 0 s

-- x is what `wrapped` makes of the number of a text of at most so many bytes
abbrev pub IsNumber : {X : Type 0} → (ℕ → X) → ℕ → X → Type 0
IsNumber wrapped most x = (s : List ℕ) × (length s ≤ most) × (x ≡ wrapped (number_of s))

-- the byte that a text's first two digits say, to the base 16, and 0, where there are fewer
abbrev pub byte_of : List ℕ → ℕ
byte_of (a ∷ b ∷ s) = digit a * 16 + digit b
byte_of s = 0
