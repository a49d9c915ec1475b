-- Document 002, Definition 2, as a proposition, for a reader who trusts propositions more than programs. Assumes nothing.
use Rattle.std.specs.Prelude.{◌≡◌, true, List, ◌∷◌, ◌⊎◌, ◌≢◌, ℕ, ◌≤◌}
use Rattle.rules.specs.Clause.{Clause, neg}
use Rattle.rules.specs.Book.{Book, Live}

-- x is one of the list's elements
pub data ◌∈◌ {A : Type 0} : A → List A → Type 0 where
  here : {x : A} {xs : List A} → x ∈ (x ∷ xs)
  there : {x y : A} {xs : List A} → x ∈ xs → x ∈ (y ∷ xs)

infix 40 ◌∈◌
-- x is in C, or in D and is not z: C together with D without z
abbrev pub InUnion : Clause → ℕ → Clause → ℕ → Type 0
InUnion C z D x = (x ∈ C) ⊎ ((x ∈ D) × (x ≢ z))

-- the literal l of clause k blocks it: for every live clause that holds the negation of l, some variable and its negation are in the union
pub record Blocks (b : Book) (L : Live) (k l : ℕ) : Type 0 where
  pub own : l ∈ b.clause k
  pub clash : (j : ℕ) → 1 ≤ j → j ≤ b.count → L j ≡ true → neg l ∈ b.clause j
      → (x : ℕ) × InUnion (b.clause k) (neg l) (b.clause j) x × InUnion (b.clause k) (neg l) (b.clause j) (neg x)
