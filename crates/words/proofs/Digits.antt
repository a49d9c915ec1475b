-- The digits of a number: one more digit, a byte that is none, and the cap. Assumes nothing.
use mathlib.Core.Path.{◌≡◌, refl, ap, sym, ◌∙◌}
use mathlib.Core.List.{List, [], ◌∷◌}
use Prim.Native.Nat.{ℕ, ◌+◌, ◌-◌, ◌*◌, ◌<◌, ◌≤◌, min}
use native.Mathlib.Omega.{arith}
use lib.ListN.{length, drop, get_or, drop_of_length-le}
use Rattle.std.specs.Prelude.{Option, Some, None, option_map}
use Rattle.words.specs.Bytes.{class_of}
use borrow.Author.Tests.{eq-eqb, ne_eqb, eqb-true, eqb-false, leb-true}
use mathlib.Core.Bool.{Bool, true, false, cond}
use Rattle.std.proofs.lemmas.Option.{none-some, same_Some}
use Rattle.words.specs.declared.Class.TheVariants.{Minus, Blank, Cr, Lf, Other}
use Rattle.words.specs.declared.Number.{Number}
use lib.Dec.{eqb, leb}
use Rattle.rules.proofs.Logic.{by_bool}
use Rattle.words.specs.declared.Number.TheVariants.{Plain, Negative}
use Rattle.words.specs.Numbers.{digit_of, digits, natural, with_minus, number}
use Rattle.words.specs.Inner.{capped}
use Rattle.words.proofs.Bytes.{here}

module _ (v b : ℕ) (bs : List ℕ) where
  digit_on : (d : ℕ) → digit_of (class_of b) ≡ Some d → digits v (b ∷ bs) ≡ digits (v * 10 + d) bs
  unfolding digits
  digit_on d e = rw (e, digits)

  digit_off : digit_of (class_of b) ≡ None → digits v (b ∷ bs) ≡ None
  unfolding digits
  digit_off e = rw (e, digits)

-- numbers above a million say the same
cap_digits : (bs : List ℕ) (u v : ℕ) → min 1000000 u ≡ min 1000000 v → option_map (min 1000000) (digits u bs) ≡ option_map (min 1000000) (digits v bs)
unfolding digits
cap_digits [] u v e = ap Some e
cap_digits (b ∷ bs) u v e = go (cap_digits bs) (digit_of (class_of b)) refl
  where
    go : ((x y : ℕ) → min 1000000 x ≡ min 1000000 y → option_map (min 1000000) (digits x bs) ≡ option_map (min 1000000) (digits y bs))
        → (o : Option ℕ) → digit_of (class_of b) ≡ o → option_map (min 1000000) (digits u (b ∷ bs)) ≡ option_map (min 1000000) (digits v (b ∷ bs))
    go rec (Some d) h = rw (digit_on u b bs d h, digit_on v b bs d h) (rec (u * 10 + d) (v * 10 + d) (omega arith))
    go rec None h = rw (digit_off u b bs h, digit_off v b bs h)

-- the loop's step, at a digit and at any other byte
module _ (w : List ℕ) (i v : ℕ) (h : i < length w) where
  pub step_on : (d n : ℕ) → digit_of (class_of (get_or w i 0)) ≡ Some d → n ≡ min 1000000 (v * 10 + d)
      → option_map (min 1000000) (digits v (drop i w)) ≡ option_map (min 1000000) (digits n (drop (i + 1) w))
  step_on d n e q = rw (here w i h, digit_on v (get_or w i 0) (drop (i + 1) w) d e) (cap_digits (drop (i + 1) w) (v * 10 + d) n (omega arith))

  pub step_off : digit_of (class_of (get_or w i 0)) ≡ None → option_map (min 1000000) (digits v (drop i w)) ≡ None
  step_off e = rw (here w i h, digit_off v (get_or w i 0) (drop (i + 1) w) e)

pub step_end : (w : List ℕ) (i v : ℕ) → length w ≤ i → v ≤ 1000000 → option_map (min 1000000) (digits v (drop i w)) ≡ Some v
unfolding digits
step_end w i v h l = rw (drop_of_length-le w h) (ap Some (omega arith))

pub natural_none : (w : List ℕ) → length w < 1 → natural w ≡ None
unfolding natural
natural_none [] h = refl
natural_none (b ∷ bs) h = absurd (omega arith)

pub natural_zero : (w : List ℕ) → 1 ≤ length w → get_or w 0 0 ≡ 48 → natural w ≡ None
unfolding natural
natural_zero [] h e = refl
natural_zero (b ∷ bs) h e = rw (eq-eqb b 48 e, natural)

pub natural_digits : (w : List ℕ) → 1 ≤ length w → (get_or w 0 0 ≡ 48 → ⊥) → natural w ≡ digits 0 w
unfolding natural
natural_digits [] h e = absurd (omega arith)
natural_digits (b ∷ bs) h e = rw (ne_eqb b 48 e, natural)

pub number_zero : (w : List ℕ) → length w ≡ 1 → get_or w 0 0 ≡ 48 → number w ≡ Some (Plain 0)
unfolding number
number_zero [] h e = absurd (omega arith)
number_zero (b ∷ []) h e = rw (ne_eqb b 45 (λ q. omega arith), eq-eqb b 48 e, number)
number_zero (b ∷ (x ∷ xs)) h e = absurd (omega arith)

pub number_minus : (w : List ℕ) → 1 ≤ length w → get_or w 0 0 ≡ 45 → number w ≡ with_minus (natural (drop 1 w))
unfolding number
number_minus [] h e = absurd (omega arith)
number_minus (b ∷ bs) h e = rw (eq-eqb b 45 e, number)

number_one : (b x : ℕ) (xs : List ℕ) → (b ≡ 45 → ⊥) → number (b ∷ (x ∷ xs)) ≡ option_map Plain (natural (b ∷ (x ∷ xs)))
unfolding number natural
number_one b x xs h =
    by_bool (eqb b 48)
    (λ t. rw (ne_eqb b 45 h, t, number, natural))
    (λ f. rw (ne_eqb b 45 h, f, number))

-- any other token is one with no minus
pub number_plain : (w : List ℕ) → (1 ≤ length w → get_or w 0 0 ≡ 45 → ⊥) → (length w ≡ 1 → get_or w 0 0 ≡ 48 → ⊥) → number w ≡ option_map Plain (natural w)
unfolding number natural
number_plain [] m z = refl
number_plain (b ∷ []) m z = rw (ne_eqb b 45 (m (omega arith)), ne_eqb b 48 (z refl), number)
number_plain (b ∷ (x ∷ xs)) m z = number_one b x xs (m (omega arith))

pub capped_plain : (o : Option ℕ) → capped (option_map Plain o) ≡ option_map Plain (option_map (min 1000000) o)
capped_plain None = refl
capped_plain (Some v) = refl

pub capped_minus : (o : Option ℕ) → capped (with_minus o) ≡ option_map Negative (option_map (min 1000000) o)
capped_minus None = refl
capped_minus (Some v) = refl

-- digits say no less than those before them
digits_most : (w : List ℕ) (v u : ℕ) → digits v w ≡ Some u → v ≤ u
unfolding digits
digits_most [] v u e = let s : v ≡ u = same_Some v u e in omega arith
digits_most (b ∷ bs) v u e = go (digits_most bs) (digit_of (class_of b)) refl
  where
    go : ((x y : ℕ) → digits x bs ≡ Some y → x ≤ y) → (o : Option ℕ) → digit_of (class_of b) ≡ o → v ≤ u
    go rec (Some d) h = let l : v * 10 + d ≤ u = rec (v * 10 + d) u (sym (digit_on v b bs d h) ∙ e) in omega arith
    go rec None h = absurd (none-some u (sym (digit_off v b bs h) ∙ e))

-- none of the other bytes is a digit
other : (p q r s t : Bool) → digit_of (cond p Minus (cond q Blank (cond r Blank (cond s Cr (cond t Lf Other))))) ≡ None
other true q r s t = refl
other false true r s t = refl
other false false true s t = refl
other false false false true t = refl
other false false false false true = refl
other false false false false false = refl

-- a digit is 48 and what it says
digit_is : (b d : ℕ) → digit_of (class_of b) ≡ Some d → b ≡ 48 + d
digit_is b d e =
    by_bool (leb 48 b)
    (λ t. by_bool (leb b 57)
    (λ u. let s : b - 48 ≡ d = same_Some (b - 48) d (rw (t, u) at e) in omega (arith, leb-true 48 b t))
    (λ f. absurd (none-some d (rw (t, f) at e))))
    (λ f.
    let o : digit_of (class_of b) ≡ None = rw f (other (eqb b 45) (eqb b 32) (eqb b 9) (eqb b 13) (eqb b 10)) in
    absurd (none-some d (sym o ∙ e)))

-- no number is a negative 0
natural_above : (w : List ℕ) (v : ℕ) → natural w ≡ Some v → 1 ≤ v
unfolding natural
natural_above [] v e = absurd (none-some v e)
natural_above (b ∷ bs) v e =
    by_bool (eqb b 48)
    (λ t. absurd (none-some v (rw (t, natural) at e)))
    (λ f. go (digit_of (class_of b)) refl f)
  where
    go : (o : Option ℕ) → digit_of (class_of b) ≡ o → eqb b 48 ≡ false → 1 ≤ v
    go (Some d) h f =
        let l : 0 * 10 + d ≤ v = digits_most bs (0 * 10 + d) v (sym (digit_on 0 b bs d h) ∙ sym (natural_digits (b ∷ bs) (omega arith) (eqb-false b 48 f)) ∙ e) in
        omega (arith, digit_is b d h, eqb-false b 48 f)
    go None h f = absurd (none-some v (sym (digit_off 0 b bs h) ∙ sym (natural_digits (b ∷ bs) (omega arith) (eqb-false b 48 f)) ∙ e))

minus_of : (o : Option ℕ) (v : ℕ) → with_minus o ≡ Some (Negative v) → o ≡ Some v
minus_of None v e = absurd (none-some (Negative v) e)
minus_of (Some u) v e = cc

not_plain : (o : Option ℕ) (v : ℕ) → option_map Plain o ≡ Some (Negative v) → ⊥
not_plain None v e = none-some (Negative v) e
not_plain (Some u) v e = let z : ◌≡◌ {A = ℕ} 0 1 = cc in omega arith

number_above : (w : List ℕ) (v : ℕ) → number w ≡ Some (Negative v) → 1 ≤ v
number_above w v e =
    by_bool (eqb (length w) 0)
    (λ z. absurd (not_plain (natural w) v (sym (number_plain w (λ h. absurd (omega (arith, eqb-true (length w) 0 z))) (λ h. absurd (omega (arith, eqb-true (length w) 0 z)))) ∙ e)))
    (λ z. by_bool (eqb (get_or w 0 0) 45)
    (λ t. natural_above (drop 1 w) v (minus_of (natural (drop 1 w)) v (sym (number_minus w (omega (arith, eqb-false (length w) 0 z)) (eqb-true (get_or w 0 0) 45 t)) ∙ e)))
    (λ f. by_bool (eqb (length w) 1)
    (λ t. by_bool (eqb (get_or w 0 0) 48)
    (λ u. absurd (not_plain (Some 0) v (sym (number_zero w (eqb-true (length w) 1 t) (eqb-true (get_or w 0 0) 48 u)) ∙ e)))
    (λ u. absurd (not_plain (natural w) v (sym (number_plain w (λ h. eqb-false (get_or w 0 0) 45 f) (λ h. eqb-false (get_or w 0 0) 48 u)) ∙ e))))
    (λ t. absurd (not_plain (natural w) v (sym (number_plain w (λ h. eqb-false (get_or w 0 0) 45 f) (λ h. absurd (eqb-false (length w) 1 t h))) ∙ e)))))

pub minus_above : (w : List ℕ) (v : ℕ) → capped (number w) ≡ Some (Negative v) → 1 ≤ v
minus_above w v e = go (number w) refl e
  where
    go : (o : Option Number) → number w ≡ o → capped o ≡ Some (Negative v) → 1 ≤ v
    go None h e = absurd (none-some (Negative v) e)
    go (Some (Plain u)) h e = absurd (not_plain (Some (min 1000000 u)) v e)
    go (Some (Negative u)) h e = let s : min 1000000 u ≡ v = cc in omega (arith, number_above w u h)
