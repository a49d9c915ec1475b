-- What the functions that serve the text reader say of each other. A reader of the contracts of public entries needs none of it. Assumes nothing.
use Rattle.std.specs.Prelude.{Bool, ◌≡◌, List, [], ◌∷◌, ℕ, ◌+◌, ◌-◌, ◌<◌, ◌≤◌, min, length, drop, take, Option, Some, None, option_map, position}
use Rattle.words.specs.declared.Section.{Section}
use Rattle.words.specs.declared.Span.{Span}
use Rattle.words.specs.declared.Number.{Number}
use Rattle.words.specs.declared.Number.TheVariants.{Plain, Negative}
use Rattle.words.specs.Tokens.{Token, tokens_from}

-- the bytes of s from a up to e
abbrev pub part : List ℕ → ℕ → ℕ → List ℕ
part s a e = take (e - a) (drop a s)

-- the place of the first byte of s that passes, from `start` on
abbrev pub first_from : (ℕ → Bool) → List ℕ → ℕ → Option ℕ
first_from p s start = option_map (λ n. start + n) (position p (drop start s))

-- the tokens that the answer of `next_token` says are left
abbrev pub tokens_left : Section → List ℕ → Option Span → List Token
tokens_left section s (Some t) = record { place = t.place; bytes = part s t.place t.end } ∷ tokens_from section s t.end
tokens_left section s None = []

abbrev pub Placed : List ℕ → ℕ → Option Span → Type 0
Placed s start (Some t) = (start ≤ t.place) × (t.place < t.end) × (t.end ≤ length s)
Placed s start None = Unit {0}

-- the next token from start on
pub record Next (section : Section) (s : List ℕ) (start : ℕ) (r : Option Span) : Type 0 where
  pub same : tokens_from section s start ≡ tokens_left section s r
  pub placed : Placed s start r

-- the code keeps a number above a million as a million; every limit is below
abbrev pub capped : Option Number → Option Number
capped None = None
capped (Some (Plain v)) = Some (Plain (min 1000000 v))
capped (Some (Negative v)) = Some (Negative (min 1000000 v))
