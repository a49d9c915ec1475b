-- The numbers of bytes, two each, and the tests of literals among them, as the code goes through them. Assumes nothing.
use mathlib.Core.Path.{◌≡◌, refl, sym}
use mathlib.Core.Bool.{true, false, ◌&&◌}
use mathlib.Core.List.{List, [], ◌∷◌}
use Prim.Native.Nat.{ℕ, ◌+◌, ◌-◌, ◌*◌, ◌/◌, ◌≤◌, ◌<◌}
use native.Mathlib.Omega.{arith}
use lib.Dec.{leb}
use lib.ListN.{length, get_or, take, drop}
use borrow.Author.Tests.{le-leb, lt-leb}
use Rattle.rules.specs.Walk.{every}
use Rattle.rules.specs.Clause.{Clause}
use Rattle.rules.proofs.Logic.{and_no}
use Rattle.table.specs.Limits.{Limits}
use Rattle.table.specs.Table.{distinct, coded, sound_clause}
use Rattle.table.proofs.Laying.{tail_is}
use Rattle.saved_read.specs.Inner.{heads_of}
use Rattle.saved_read.specs.declared.Kind.{Kind}
use Rattle.saved_read.specs.declared.Kind.TheVariants.{Live, Removed}
use Rattle.saved.specs.Bytes.{numbers_from, numbers_of}
use Rattle.saved.proofs.Digits.{drop_numbers}

numbers_step : (v : List ℕ) → 1 < length v → numbers_of 2 v ≡ (get_or v 0 0 * 256 + get_or v 1 0) ∷ numbers_of 2 (drop 2 v)
unfolding numbers_of numbers_from
numbers_step [] h = absurd (omega arith)
numbers_step (a ∷ []) h = absurd (omega arith)
numbers_step (a ∷ b ∷ r) h = let q : (0 * 256 + a) * 256 + b ≡ a * 256 + b = omega arith in rw q

pub length_numbers : (v : List ℕ) → length (numbers_of 2 v) ≡ length v / 2
length_numbers [] = unfold numbers_of numbers_from in refl
length_numbers (a ∷ []) = unfold numbers_of numbers_from in refl
length_numbers (a ∷ b ∷ r) = rw (numbers_step (a ∷ b ∷ r) (omega arith)) (omega (arith, length_numbers r))

-- the numbers after the first k, as the code has them
pub numbers_after : (k : ℕ) (v : List ℕ) → 2 * k ≤ length v → drop k (numbers_of 2 v) ≡ numbers_of 2 (take (length v - 2 * k) (drop (2 * k) v))
numbers_after k v h = rw (tail_is v (2 * k)) (sym (drop_numbers 2 k v (omega arith) h))

-- one or two numbers stand before the literals
pub heads_few : (kind : Kind) → (1 ≤ heads_of kind) × (heads_of kind ≤ 2)
heads_few Live = (omega arith, omega arith)
heads_few Removed = (omega arith, omega arith)

-- a clause's tests alone, as those of a sound clause within limits that it keeps to
abbrev pub longest : Clause → Limits
longest C = record { variables = 0; clauses = 0; literals = 0; clause_literals = length C; text_bytes = 0 }

pub sound_alone : (n : ℕ) (C : Clause) → sound_clause (longest C) n C ≡ (every (coded n) C && distinct C)
unfolding sound_clause
sound_alone n C = rw (le-leb (length C) (length C) (omega arith))

pub coded_low : (n x : ℕ) → x < 2 → coded n x ≡ false
unfolding coded
coded_low n x h = rw (lt-leb 2 x h)

pub coded_high : (n x : ℕ) → 2 * n + 1 < x → coded n x ≡ false
unfolding coded
coded_high n x h = rw (lt-leb x (2 * n + 1) h) (and_no (leb 2 x))

pub coded_right : (n x : ℕ) → 2 ≤ x → x ≤ 2 * n + 1 → coded n x ≡ true
unfolding coded
coded_right n x l h = rw (le-leb 2 x l, le-leb x (2 * n + 1) h)
