-- How a list of bytes goes on at an offset. Assumes nothing.
use mathlib.Core.Path.{◌≡◌}
use mathlib.Core.List.{List, ◌∷◌}
use Prim.Native.Nat.{ℕ, ◌+◌, ◌<◌}
use native.Mathlib.Numerals.{add-one}
use lib.ListN.{length, drop, get_or}
use lib.Seq.{drop-cons}

-- a list from k on, at a k below its length
pub here : (s : List ℕ) (k : ℕ) → k < length s → drop k s ≡ get_or s k 0 ∷ drop (k + 1) s
here s k h = rw (add-one, drop-cons s k 0)
