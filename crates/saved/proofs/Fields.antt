-- A field that was written is read back, and bytes that begin with a whole field begin with the field of its numbers. Assumes nothing.
use mathlib.Core.Path.{◌≡◌, refl, ap, ◌∙◌}
use mathlib.Core.Bool.{true}
use mathlib.Core.List.{List, [], ◌∷◌, ◌++◌}
use Prim.Native.Nat.{ℕ, ◌+◌, ◌-◌, ◌*◌, ◌/◌, ◌%◌, ◌≤◌, ◌<◌}
use native.Mathlib.Omega.{arith}
use lib.ListN.{length, get_or, drop, length-append, length-take, length-drop, take-append-drop}
use lib.Seq.{take_at, drop_at, drop-drop}
use borrow.Author.Tests.{le-leb, leb-true}
use Rattle.rules.proofs.Logic.{and_true}
use Rattle.saved.specs.Bytes.{digits, bytes_of, numbers_of}
use Rattle.saved.specs.Field.{field, tag_of, length_of, value_of, whole_field}
use Rattle.saved.proofs.Digits.{Bytes, bytes_drop, bytes_take, length_bytes, bytes_numbers, length_numbers}
use Rattle.saved.proofs.Lengths.{length_field}

-- a field that was written, its length being one that two bytes can say
module _ (w tag : ℕ) (x rest : List ℕ) where
  pub written_tag : tag_of (field w tag x ++ rest) ≡ tag
  unfolding tag_of field
  written_tag = refl

  pub written_size : length (field w tag x ++ rest) ≡ 3 + w * length x + length rest
  written_size = rw (length-append (field w tag x) rest, length_field w tag x)

  module _ (small : w * length x < 65536) where
    pub written_length : length_of (field w tag x ++ rest) ≡ w * length x
    unfolding field digits length_of
    written_length = omega arith

    pub written_value : value_of (field w tag x ++ rest) ≡ bytes_of w x
    unfolding value_of
    written_value = rw written_length (unfold field digits in take_at (bytes_of w x) rest (w * length x) (length_bytes w x))

    pub written_whole : whole_field (field w tag x ++ rest) ≡ true
    unfolding whole_field
    written_whole =
        let b = field w tag x ++ rest in
        let n = written_size in
        let l = written_length in
        rw (le-leb 3 (length b) (omega arith), le-leb (length_of b) (length b - 3) (omega arith))

    pub written_rest : drop (3 + length_of (field w tag x ++ rest)) (field w tag x ++ rest) ≡ rest
    written_rest = rw written_length (drop_at (field w tag x) rest (3 + w * length x) (length_field w tag x))

-- a field that was read
front : (b : List ℕ) → 3 ≤ length b → b ≡ get_or b 0 0 ∷ get_or b 1 0 ∷ get_or b 2 0 ∷ drop 3 b
front [] h = absurd (omega arith)
front (a ∷ []) h = absurd (omega arith)
front (a ∷ c ∷ []) h = absurd (omega arith)
front (a ∷ c ∷ d ∷ r) h = refl

length_is : (b : List ℕ) → length_of b ≡ get_or b 1 0 * 256 + get_or b 2 0
unfolding length_of
length_is b = refl

pub bytes_value : (b : List ℕ) → Bytes b → Bytes (value_of b)
unfolding value_of
bytes_value b h = bytes_take (length_of b) (drop 3 b) (bytes_drop 3 b h)

value_and_rest : (b : List ℕ) → value_of b ++ drop (3 + length_of b) b ≡ drop 3 b
unfolding value_of
value_and_rest b = rw (← drop-drop (length_of b) 3 b) (take-append-drop (length_of b) (drop 3 b))

module _ (b : List ℕ) (whole : whole_field b ≡ true) where
  whole_long : 3 ≤ length b
  unfolding whole_field
  whole_long = leb-true 3 (length b) (simp and_true at whole).0

  whole_fits : length_of b ≤ length b - 3
  unfolding whole_field
  whole_fits = leb-true (length_of b) (length b - 3) (simp and_true at whole).1

  pub value_size : length (value_of b) ≡ length_of b
  unfolding value_of
  value_size = let l = whole_fits in simp (length-take, length-drop) (omega arith)

  -- the numbers of its value, w bytes each
  pub value_numbers : (w : ℕ) → 1 ≤ w → length_of b % w ≡ 0 → w * length (numbers_of w (value_of b)) ≡ length_of b
  value_numbers w l e = length_numbers w (value_of b) l (ap (λ (n : ℕ). n % w) value_size ∙ e) ∙ value_size

  -- it is the field that would have been written
  pub read_back : (w : ℕ) → 1 ≤ w → Bytes b → length_of b % w ≡ 0 → b ≡ field w (tag_of b) (numbers_of w (value_of b)) ++ drop (3 + length_of b) b
  unfolding field digits tag_of
  read_back w l h e =
      let x = numbers_of w (value_of b) in
      let k = value_numbers w l e in
      let n = length_is b in
      let h₁ = h 1 in
      let h₂ = h 2 in
      let e₁ : w * length x / 256 % 256 ≡ get_or b 1 0 = omega arith in
      let e₂ : w * length x / 1 % 256 ≡ get_or b 2 0 = omega arith in
      let e₃ : bytes_of w x ≡ value_of b = bytes_numbers w (value_of b) l (bytes_value b h) (ap (λ (n : ℕ). n % w) value_size ∙ e) in
      rw (e₁, e₂, e₃, value_and_rest b) (front b whole_long)
