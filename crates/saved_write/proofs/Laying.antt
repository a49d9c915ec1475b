-- Bytes laid down at the front of a buffer, and more of them in its unused tail. Assumes nothing.
use mathlib.Core.Path.{◌≡◌, refl, sym, ap, ◌∙◌}
use mathlib.Core.List.{List, [], ◌∷◌, ◌++◌, append-nil, append_assoc}
use Prim.Native.Nat.{ℕ, ◌+◌, ◌-◌, ◌*◌, ◌/◌, ◌%◌, ◌<◌}
use native.Mathlib.Nat.{div-one}
use native.Mathlib.Omega.{arith}
use borrow.Rule.Slice.PartMut.{put_mid}
use lib.ListN.{length, get_or, take, drop, length-append}
use Rattle.table.specs.Stack.{lay}
use Rattle.table.proofs.Laying.{take_more, tail_laid}
use Rattle.saved.specs.Bytes.{digits, bytes_of}
use Rattle.saved.specs.Field.{field}
use Rattle.saved.proofs.Digits.{bytes_append}
use Rattle.saved.proofs.Lengths.{length_field}
use Rattle.saved_write.specs.Inner.{Put}

-- a run of calls, each of which is lent the tail that those before it left
pub put_none : (old : List ℕ) → Put [] old old 0
unfolding lay
put_none old = record { long = refl; laid = refl }

pub put_more : (d b : List ℕ) {old out ys : List ℕ} {at r : ℕ} → Put d old out at → Put b (take (length out - at) (drop at out)) ys r
    → Put (d ++ b) old (put_mid at (length out - at) out ys) (at + r)
put_more d b {old} {out} {ys} {at} {r} p q =
    record { long = omega (arith, length-append d b, p.long, q.long); laid = tail_laid d b old out ys at p.laid (sym p.long) q.laid }

pub put_same : {b c old new : List ℕ} {r : ℕ} → b ≡ c → Put b old new r → Put c old new r
put_same e p = rw (← e) p

-- numbers
pub two_digits : (x : ℕ) → digits 2 x ≡ (x / 256 % 256) ∷ (x % 256) ∷ []
unfolding digits
two_digits x = rw (div-one x)

pub bytes_more : (xs : List ℕ) (i : ℕ) → i < length xs → bytes_of 2 (take (i + 1) xs) ≡ bytes_of 2 (take i xs) ++ digits 2 (get_or xs i 0)
bytes_more xs i h = rw (take_more xs i h) (bytes_append 2 (take i xs) (get_or xs i 0 ∷ []) ∙ ap (λ (z : List ℕ). bytes_of 2 (take i xs) ++ z) last)
  where
    last : bytes_of 2 (get_or xs i 0 ∷ []) ≡ digits 2 (get_or xs i 0)
    last = unfold bytes_of in append-nil (digits 2 (get_or xs i 0))

-- a field whose numbers are laid down in two parts
pub field_parts : (tag : ℕ) (front lits : List ℕ)
    → (tag ∷ digits 2 (2 * (length front + length lits)) ++ bytes_of 2 front) ++ bytes_of 2 lits ≡ field 2 tag (front ++ lits)
unfolding field
field_parts tag front lits =
    rw (length-append front lits, bytes_append 2 front lits)
    (append_assoc (tag ∷ digits 2 (2 * (length front + length lits))) (bytes_of 2 front) (bytes_of 2 lits))

-- a field that was laid down in parts
pub put_laid : (tag : ℕ) (xs : List ℕ) {b old new : List ℕ} {r : ℕ} → b ≡ field 2 tag xs → new ≡ lay b old
    → r ≡ 3 + 2 * length xs → Put (field 2 tag xs) old new r
put_laid tag xs {b} {old} e h n = record { long = n ∙ sym (length_field 2 tag xs); laid = h ∙ ap (λ (z : List ℕ). lay z old) e }
