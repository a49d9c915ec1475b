-- The first of the tokens that are left: the gaps before it, and its bytes. Assumes nothing.
use mathlib.Core.Path.{◌≡◌, refl, sym, ◌∙◌, ap, ap₂}
use mathlib.Core.Bool.{Bool, true, false, not}
use mathlib.Core.List.{List, [], ◌∷◌, ◌++◌, append-nil, append_assoc}
use Prim.Native.Nat.{ℕ, suc, ◌+◌, ◌-◌, ◌<◌, ◌≤◌}
use native.Mathlib.Omega.{arith}
use lib.ListN.{length, drop, take, get_or, length-drop}
use lib.Seq.{drop-drop, drop-length}
use borrow.Author.Tests.{ltb-true, ltb-false, lt-ltb, le-ltb}
use Rattle.std.specs.Prelude.{ltb, Option, Some, None, MatchOption, option_map, unwrap_or, position}
use Rattle.std.specs.List.{position_or_len}
use Rattle.std.proofs.lemmas.Option.{cond_some, none-some, same_Some}
use Rattle.std.proofs.lemmas.List.{get_or-drop}
use Rattle.std.proofs.lemmas.List.Sums.{position_or_len_is, passes_at_first, prefix_len-drop_yes, prefix_len-le-length}
use Rattle.rules.proofs.Logic.{by_bool}
use Rattle.words.specs.declared.Section.{Section}
use Rattle.words.specs.Bytes.{class_of}
use Rattle.words.specs.Tokens.{is_gap, within, between, scan}
use Rattle.words.specs.Inner.{Next, first_from}

-- where `position` finds one, and where it finds none
module _ (p : ℕ → Bool) (xs : List ℕ) where
  pub found_at : (n : ℕ) → position p xs ≡ Some n → (position_or_len p xs < length xs) × (position_or_len p xs ≡ n)
  found_at n e =
      let s = cond_some _ _ _ e in
      (ltb-true (position_or_len p xs) (length xs) s.0, s.1)

  pub found_none : position p xs ≡ None → position_or_len p xs ≡ length xs
  found_none e =
      by_bool (ltb (position_or_len p xs) (length xs))
      (λ t. absurd (none-some (position_or_len p xs) (sym e ∙ rw t refl)))
      (λ f. omega (arith, ltb-false _ _ f, prefix_len-le-length (λ x. not (p x)) xs))

-- the same from a place on
some_of : (start k : ℕ) (o : Option ℕ) → option_map (λ n. start + n) o ≡ Some k → (n : ℕ) × (o ≡ Some n) × (start + n ≡ k)
some_of start k (Some n) e = (n, refl, same_Some (start + n) k e)
some_of start k None e = absurd (none-some k e)

none_of : (start : ℕ) (o : Option ℕ) → option_map (λ n. start + n) o ≡ None → o ≡ None
none_of start (Some n) e = absurd (none-some (start + n) (sym e))
none_of start None e = refl

module _ (p : ℕ → Bool) (s : List ℕ) (start : ℕ) (l : start ≤ length s) where
  first_or_end : unwrap_or (first_from p s start) (length s) ≡ start + position_or_len p (drop start s)
  first_or_end =
      by_bool (ltb (position_or_len p (drop start s)) (length (drop start s)))
      (λ t. rw t refl)
      (λ f. rw f (omega (arith, length-drop start s, ltb-false _ _ f, prefix_len-le-length (λ x. not (p x)) (drop start s))))

  -- what a walk over the places from `start` to the end comes to
  pub first_is : (r : Option ℕ)
      → MatchOption r
      ((k : ℕ) → start ≤ k → k < length s → p (get_or s k 0) ≡ false)
      (λ i. (start ≤ i) × (i < length s) × (p (get_or s i 0) ≡ true) × ((k : ℕ) → start ≤ k → k < i → p (get_or s k 0) ≡ false))
      → r ≡ first_from p s start
  first_is None h =
      let ys = drop start s in
      let e : position_or_len p ys ≡ length ys =
      position_or_len_is p ys (length ys) 0 (omega arith)
      (λ k q. rw (get_or-drop start s k 0) (h (start + k) (omega arith) (omega (arith, length-drop start s))))
      (λ q. absurd (omega arith)) in
      rw (le-ltb (position_or_len p ys) (length ys) (omega (arith, e))) refl
  first_is (Some i) h =
      let ys = drop start s in
      let d : start + (i - start) ≡ i = omega (arith, h.0) in
      let e : position_or_len p ys ≡ i - start =
      position_or_len_is p ys (i - start) 0 (omega (arith, h.1, length-drop start s))
      (λ k q. rw (get_or-drop start s k 0) (h.3 (start + k) (omega arith) (omega arith)))
      (λ q. rw (get_or-drop start s (i - start) 0, d) h.2) in
      rw (lt-ltb (position_or_len p ys) (length ys) (omega (arith, e, h.0, h.1, length-drop start s)), e, d) refl

-- whether a byte stands between tokens, and whether it doesn't
abbrev pub gap : Section → ℕ → Bool
gap section b = is_gap section (class_of b)

abbrev pub kept : Section → ℕ → Bool
kept section b = not (gap section b)

module _ (section : Section) where
  -- a token ends where a gap stands
  at_gap : (b : ℕ) (bs : List ℕ) (k place : ℕ) (run : List ℕ) → gap section b ≡ true
      → scan section (within place run) k (b ∷ bs) ≡ record { place = place; bytes = run } ∷ scan section between k (b ∷ bs)
  unfolding scan
  at_gap b bs k place run h = rw (h, scan)

  -- the gaps before a token are passed
  skips : (xs : List ℕ) (k n : ℕ) → position_or_len (kept section) xs ≡ n → scan section between k xs ≡ scan section between (k + n) (drop n xs)
  unfolding scan
  skips [] k n e = let z : k + n ≡ k = omega arith in rw (← e)
  skips (b ∷ bs) k n e = go (skips bs) (gap section b) refl
    where
      go : ((j m : ℕ) → position_or_len (kept section) bs ≡ m → scan section between j bs ≡ scan section between (j + m) (drop m bs))
          → (t : Bool) → gap section b ≡ t → scan section between k (b ∷ bs) ≡ scan section between (k + n) (drop n (b ∷ bs))
      go rec true h =
          let m = position_or_len (kept section) bs in
          let one : 1 + m ≡ n = rw h at e in
          let q : suc m ≡ n = omega arith in
          let z : k + 1 + m ≡ k + suc m = omega arith in
          rw (← q, h, scan) (rec (k + 1) m refl ∙ ap (λ j. scan section between j (drop m bs)) z)
      go rec false h =
          let q : 0 ≡ n = rw h at e in
          let z : k + 0 ≡ k = omega arith in
          rw (← q, z)

  -- a token that has begun ends at the next gap
  ends : (xs : List ℕ) (k n place : ℕ) (run : List ℕ) → position_or_len (gap section) xs ≡ n
      → scan section (within place run) k xs ≡ record { place = place; bytes = run ++ take n xs } ∷ scan section between (k + n) (drop n xs)
  unfolding scan
  ends [] k n place run e = rw (← e, append-nil)
  ends (b ∷ bs) k n place run e = go (ends bs) (gap section b) refl
    where
      go : ((j m p : ℕ) (r : List ℕ) → position_or_len (gap section) bs ≡ m
          → scan section (within p r) j bs ≡ record { place = p; bytes = r ++ take m bs } ∷ scan section between (j + m) (drop m bs))
          → (t : Bool) → gap section b ≡ t
          → scan section (within place run) k (b ∷ bs) ≡ record { place = place; bytes = run ++ take n (b ∷ bs) } ∷ scan section between (k + n) (drop n (b ∷ bs))
      go rec true h =
          let q : 0 ≡ n = rw h at e in
          let z : k + 0 ≡ k = omega arith in
          rw (← q, z, append-nil) (at_gap b bs k place run h)
      go rec false h =
          let m = position_or_len (gap section) bs in
          let one : 1 + m ≡ n = rw h at e in
          let q : suc m ≡ n = omega arith in
          let z : k + 1 + m ≡ k + suc m = omega arith in
          let a : (run ++ b ∷ []) ++ take m bs ≡ run ++ b ∷ take m bs = append_assoc run (b ∷ []) (take m bs) in
          rw (← q, h, scan, ← z) (rec (k + 1) m place (run ++ b ∷ []) refl ∙ ap (λ x. record { place = place; bytes = x } ∷ scan section between (k + 1 + m) (drop m bs)) a)

  -- a token begins at a byte that is no gap
  begins : (xs : List ℕ) (k n : ℕ) → position_or_len (gap section) xs ≡ n → 0 < n
      → scan section between k xs ≡ record { place = k; bytes = take n xs } ∷ scan section between (k + n) (drop n xs)
  unfolding scan
  begins [] k n e l = absurd (omega arith)
  begins (b ∷ bs) k n e l =
      by_bool (gap section b)
      (λ h. absurd (let q : 0 ≡ n = rw h at e in omega arith))
      (λ h.
      let m = position_or_len (gap section) bs in
      let one : 1 + m ≡ n = rw h at e in
      let q : suc m ≡ n = omega arith in
      let z : k + 1 + m ≡ k + suc m = omega arith in
      rw (← q, h, scan, ← z) (ends bs (k + 1) m k (b ∷ []) refl))

-- the answers of `next_token`
module _ (section : Section) (s : List ℕ) (start : ℕ) (l : start ≤ length s) where
  pub next_none : first_from (kept section) s start ≡ None → Next section s start None
  unfolding scan
  next_none e =
      let n = found_none (kept section) (drop start s) (none_of start (position (kept section) (drop start s)) e) in
      record { same = skips section (drop start s) start (length (drop start s)) n ∙ ap (scan section between (start + length (drop start s))) (drop-length (drop start s)); placed = tt }

  pub next_at : (place end : ℕ) → first_from (kept section) s start ≡ Some place
      → end ≡ unwrap_or (first_from (gap section) s (place + 1)) (length s)
      → Next section s start (Some (record { place = place; end = end }))
  next_at place end e q =
      let ys = drop start s in
      let o = some_of start place (position (kept section) ys) e in
      let n = o.0 in
      let f = found_at (kept section) ys n o.1 in
      let b : n < length ys = omega (arith, f.0, f.1) in
      let c : place < length s = omega (arith, b, o.2, length-drop start s) in
      let d : drop n ys ≡ drop place s = drop-drop n start s ∙ ap (λ k. drop k s) o.2 in
      let g : get_or ys n 0 ≡ get_or s place 0 = get_or-drop start s n 0 ∙ ap (λ k. get_or s k 0) o.2 in
      let y : kept section (get_or s place 0) ≡ true = rw (← g, ← f.1) (passes_at_first (kept section) ys 0 f.0) in
      let m = position_or_len (gap section) (drop place s) in
      let z : m ≡ 1 + position_or_len (gap section) (drop (place + 1) s) = prefix_len-drop_yes (kept section) s place 0 c y in
      let u : end ≡ place + m = omega (arith, q ∙ first_or_end (gap section) s (place + 1) (omega arith), z) in
      let w : m ≤ length (drop place s) = prefix_len-le-length (kept section) (drop place s) in
      let t = skips section ys start n f.1 ∙ ap₂ (scan section between) o.2 d ∙ begins section (drop place s) place m refl (omega arith) in
      let k : end - place ≡ m = omega arith in
      let r : drop m (drop place s) ≡ drop end s = drop-drop m place s ∙ ap (λ k. drop k s) (sym u) in
      record {
        same = rw (← r, k, u) t;
        placed = (omega (arith, o.2), omega arith, omega (arith, length-drop place s));
      }
