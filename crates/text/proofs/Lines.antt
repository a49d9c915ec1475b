-- How the comment lines and the end of a line go on by one byte. Assumes nothing.
use mathlib.Core.Path.{◌≡◌, refl, sym, ◌∙◌, ap}
use mathlib.Core.Bool.{Bool, true, false}
use mathlib.Core.List.{List, [], ◌∷◌}
use Prim.Native.Nat.{ℕ, suc, ◌+◌, ◌<◌, ◌≤◌}
use native.Mathlib.Omega.{arith}
use lib.Dec.{eqb, ltb}
use lib.ListN.{length, drop, length-drop, drop_of_length-le}
use lib.Seq.{drop-drop}
use borrow.Author.Tests.{ltb-true, ltb-false}
use Rattle.std.specs.Prelude.{Some, None, position}
use Rattle.std.specs.List.{position_or_len}
use Rattle.rules.proofs.Logic.{by_bool, differ}
use Rattle.words.proofs.Bytes.{here}
use Rattle.words.proofs.Scans.{found_at, found_none}
use Rattle.text.specs.Lines.{ends, line_end, comment, prologue}
use Rattle.text.specs.Inner.{LinePassed}

module _ (s : List ℕ) (k : ℕ) where
  module _ (h : k < length s) where
    pub line_stop : ends (drop k s) ≡ true → line_end k (drop k s) ≡ k
    unfolding line_end
    line_stop e = let f = rw (here s k h) at e in rw (here s k h, f, line_end)

    pub line_on : ends (drop k s) ≡ false → line_end k (drop k s) ≡ line_end (k + 1) (drop (k + 1) s)
    unfolding line_end
    line_on e = let f = rw (here s k h) at e in rw (here s k h, f, line_end)

    pub line_comment : comment (drop k s) ≡ true → prologue false k (drop k s) ≡ prologue true (k + 1) (drop (k + 1) s)
    unfolding prologue
    line_comment e = let f = rw (here s k h) at e in rw (here s k h, f, prologue)

  pub comment_within : comment (drop k s) ≡ true → k < length s
  comment_within e =
      by_bool (ltb k (length s))
      (λ t. ltb-true k (length s) t)
      (λ f. differ e (rw (drop_of_length-le s {i = k} (ltb-false k (length s) f))))

  pub line_out : length s ≤ k → line_end k (drop k s) ≡ k
  unfolding line_end
  line_out h = rw (drop_of_length-le s h)

pub line_other : (bs : List ℕ) (k : ℕ) → comment bs ≡ false → prologue false k bs ≡ k
unfolding prologue
line_other [] k e = refl
line_other (b ∷ bs) k e = rw (e, prologue)

abbrev pub is_lf : ℕ → Bool
is_lf b = eqb b 10

-- a line is passed at its LF, or at the end
passes : (bs : List ℕ) (k n : ℕ) → position_or_len is_lf bs ≡ n → n < length bs → prologue true k bs ≡ prologue false (k + suc n) (drop (suc n) bs)
unfolding prologue
passes [] k n e l = absurd (omega arith)
passes (b ∷ bs) k n e l = go (passes bs) (is_lf b) refl
  where
    go : ((j m : ℕ) → position_or_len is_lf bs ≡ m → m < length bs → prologue true j bs ≡ prologue false (j + suc m) (drop (suc m) bs))
        → (t : Bool) → is_lf b ≡ t → prologue true k (b ∷ bs) ≡ prologue false (k + suc n) (drop (suc n) (b ∷ bs))
    go rec true h =
        let q : 0 ≡ n = rw h at e in
        rw (← q, h, prologue)
    go rec false h =
        let m = position_or_len is_lf bs in
        let one : 1 + m ≡ n = rw h at e in
        let q : suc m ≡ n = omega arith in
        let z : k + 1 + suc m ≡ k + suc (suc m) = omega arith in
        rw (← q, h, prologue) (rec (k + 1) m refl (omega arith) ∙ ap (λ j. prologue false j (drop (suc m) bs)) z)

passes_none : (bs : List ℕ) (k : ℕ) → position_or_len is_lf bs ≡ length bs → prologue true k bs ≡ k + length bs
unfolding prologue
passes_none [] k e = omega arith
passes_none (b ∷ bs) k e = go (passes_none bs) (is_lf b) refl
  where
    go : ((j : ℕ) → position_or_len is_lf bs ≡ length bs → prologue true j bs ≡ j + length bs)
        → (t : Bool) → is_lf b ≡ t → prologue true k (b ∷ bs) ≡ k + length (b ∷ bs)
    go rec true h = absurd (let q : 0 ≡ length (b ∷ bs) = rw h at e in omega arith)
    go rec false h =
        let one : 1 + position_or_len is_lf bs ≡ length (b ∷ bs) = rw h at e in
        rw (h, prologue) (rec (k + 1) (omega arith) ∙ omega arith)

-- the answers of `next_line`
module _ (s : List ℕ) (start : ℕ) (l : start ≤ length s) where
  pub passed_at : (n : ℕ) → position is_lf (drop start s) ≡ Some n → LinePassed s start (start + n + 1)
  passed_at n e =
      let f = found_at is_lf (drop start s) n e in
      let z : start + suc n ≡ start + n + 1 = omega arith in
      let p : prologue true start (drop start s) ≡ prologue false (start + suc n) (drop (suc n) (drop start s)) =
      passes (drop start s) start n f.1 (omega (arith, f.0, f.1)) in
      record {
        same = p ∙ ap (prologue false (start + suc n)) (drop-drop (suc n) start s) ∙ ap (λ k. prologue false k (drop k s)) z;
        from = omega arith;
        within = omega (arith, f.0, f.1, length-drop start s);
      }

  pub passed_none : position is_lf (drop start s) ≡ None → LinePassed s start (length s)
  unfolding prologue
  passed_none e =
      let p = passes_none (drop start s) start (found_none is_lf (drop start s) e) in
      let z : start + length (drop start s) ≡ length s = omega (arith, length-drop start s) in
      record {
        same = p ∙ z ∙ sym (line_other (drop (length s) s) (length s) (rw (drop_of_length-le s {i = length s} (omega arith))));
        from = omega arith;
        within = omega arith;
      }
