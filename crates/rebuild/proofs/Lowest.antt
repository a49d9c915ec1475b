-- The lowest number that passes, looked for from 1 on: what is known after i numbers, none of which passed. Assumes nothing.
use mathlib.Core.Path.{◌≡◌, refl, sym, ◌∙◌, ap}
use mathlib.Core.Bool.{Bool, true}
use Prim.Native.Nat.{ℕ, ◌+◌, ◌≤◌, ◌<◌}
use native.Mathlib.Omega.{arith}
use Rattle.std.specs.Prelude.{Some, None}
use Rattle.rules.specs.Walk.{least, found}
pub use Rattle.rules.proofs.Walks.{least_next}
use Rattle.rules.proofs.Walks.{least_stop, least_end}
use Rattle.table.proofs.Found.{some_found}

pub least_of_none : (p : ℕ → Bool) → least p 0 ≡ 0
unfolding least
least_of_none p = refl

pub lowest_found : (p : ℕ → Bool) (n i : ℕ) → least p i ≡ 0 → p (i + 1) ≡ true → i < n → Some (i + 1) ≡ found (least p n)
lowest_found p n i h t l = some_found (omega arith) ∙ ap found (sym (least_stop p n i h t l))

pub none_found : (p : ℕ → Bool) (n i : ℕ) → least p i ≡ 0 → i ≤ n → n ≤ i → None ≡ found (least p n)
none_found p n i h a b = ap found (sym (least_end p n i h a b))

pub ruleset lowest = (least_of_none, least_next, lowest_found, none_found)
