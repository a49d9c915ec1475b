-- Lists laid down at the front of a lent buffer, and more of them in its unused tail. Assumes nothing.
use mathlib.Core.Path.{◌≡◌, refl, ap, ◌∙◌}
use mathlib.Core.List.{List, [], ◌∷◌, ◌++◌, append_assoc, append-nil}
use Prim.Native.Nat.{ℕ, suc, ◌+◌, ◌-◌, ◌≤◌, ◌<◌}
use native.Mathlib.Omega.{arith}
use native.Mathlib.Numerals.{add-one}
use lib.ListN.{length, get_or, take, drop, set, length-append, length-drop, length-take, drop_of_length-le}
use lib.Seq.{take-suc, take_all, take_at, drop_at, set_at, drop-drop, drop-cons, drop-set-lt}
use borrow.Rule.Slice.PartMut.{put_mid}
use Rattle.table.specs.Stack.{lay}

pub lay_none : (o : List ℕ) → o ≡ lay [] o
unfolding lay
lay_none o = refl

pub length_lay : (xs cells : List ℕ) → length xs ≤ length cells → length (lay xs cells) ≡ length cells
unfolding lay
length_lay xs cells h = simp (length-append, length-drop) (omega arith)

pub lay_front : (a o : List ℕ) (n : ℕ) → length a ≡ n → take n (lay a o) ≡ a
unfolding lay
lay_front a o n h = take_at a (drop (length a) o) n h

lay_lay : (a b o : List ℕ) (n : ℕ) → length a ≡ n → take n (lay a o) ++ lay b (drop n (lay a o)) ≡ lay (a ++ b) o
unfolding lay
lay_lay a b o n h = simp (take_at a (drop (length a) o) n h, drop_at a (drop (length a) o) n h, drop-drop, length-append, append_assoc)

pub set_lay : (a o : List ℕ) (b n : ℕ) → length a ≡ n → n < length o → set (lay a o) n b ≡ lay (a ++ (b ∷ [])) o
unfolding lay
set_lay a o b n h l =
    rw (h, drop-cons o n 0) (set_at a (get_or o n 0) (drop (suc n) o) b n h ∙ simp (append_assoc, length-append, h, add-one))

pub set_first : (o : List ℕ) (b : ℕ) → 0 < length o → set o 0 b ≡ lay (b ∷ []) o
unfolding lay
set_first o b h = set_lay [] o b 0 refl h

-- a cell that is laid over does not count
pub lay_over : (xs o : List ℕ) (a : ℕ) → 0 < length xs → lay xs (set o 0 a) ≡ lay xs o
unfolding lay
lay_over xs o a h = rw (drop-set-lt (length xs) o 0 a h)

pub take_more : (xs : List ℕ) (i : ℕ) → i < length xs → take (i + 1) xs ≡ take i xs ++ (get_or xs i 0 ∷ [])
take_more xs i h = rw (add-one, take-suc xs i 0)

-- the buffer with one cell more
pub lay_more : (xs old out : List ℕ) (i x : ℕ) → i < length xs → i < length old → x ≡ get_or xs i 0 → out ≡ lay (take i xs) old
    → set out i x ≡ lay (take (i + 1) xs) old
lay_more xs old out i x h l e q =
    rw (take_more xs i h, e) (ap (λ (z : List ℕ). set z i (get_or xs i 0)) q ∙ set_lay (take i xs) old (get_or xs i 0) i (simp length-take (omega arith)) l)

pub lay_done : (xs old out : List ℕ) (i : ℕ) → length xs ≤ i → out ≡ lay (take i xs) old → out ≡ lay xs old
lay_done xs old out i h q = q ∙ ap (λ (z : List ℕ). lay z old) (take_all i xs h)

-- the tail, as the code lends it
pub tail_is : (out : List ℕ) (a : ℕ) → take (length out - a) (drop a out) ≡ drop a out
tail_is out a = take_all (length out - a) (drop a out) (simp length-drop (omega arith))

tail_ends : (out : List ℕ) (a : ℕ) → drop (length out - a) (drop a out) ≡ []
tail_ends out a = drop_of_length-le (drop a out) {i = length out - a} (simp length-drop (omega arith))

-- what a function that was lent the tail says of the tail, said of the whole
pub tail_laid : (d b old out ys : List ℕ) (a : ℕ) → out ≡ lay d old → length d ≡ a → ys ≡ lay b (take (length out - a) (drop a out))
    → put_mid a (length out - a) out ys ≡ lay (d ++ b) old
tail_laid d b old out ys a e h y =
    ap (λ (z : List ℕ). take a out ++ (z ++ drop (length out - a) (drop a out))) y ∙ rw (tail_ends out a, tail_is out a, append-nil, e) (lay_lay d b old a h)
