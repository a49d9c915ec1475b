-- Values and the bytes that carry them. Assumes nothing.
use mathlib.Core.Path.{◌≡◌, refl, sym, ◌∙◌, ap, fun_ext}
use mathlib.Core.Bool.{true, false, not, cond}
use mathlib.Core.List.{List, [], ◌∷◌}
use Prim.Native.Nat.{ℕ, zero, suc, ◌+◌, ◌-◌, ◌/◌, ◌%◌, ◌≤◌, ◌<◌}
use native.Mathlib.Omega.{arith}
use borrow.Author.Tests.{eq-eqb, ne_eqb, leb-true, le-leb, lt-leb}
use lib.Dec.{eqb, leb}
use lib.ListN.{length, get_or, take, drop, set, get_or-append, take-append-drop}
use lib.Seq.{get_or-set_same, get_or-set_other, get_or-take, length-take-le, ext_get_or}
use Rattle.rules.specs.Clause.{Clause, Values, mem, value, holds, flip}
use Rattle.rules.proofs.Logic.{by_bool, by_eq, differ}
use Rattle.rules.proofs.Walks.{length_upto, get_d_upto, least_none}
use Rattle.rules.proofs.Members.{mem_here, mem_skip}
use Rattle.table.specs.Stack.{lay}
use Rattle.table.specs.Values.{values_of, bytes_of, bad_byte, bad_value}

-- a literal's value by its byte
values_of_at : (vs : List ℕ) (w : ℕ) → 1 ≤ w → values_of vs w ≡ eqb (get_or vs (w - 1) 0) 1
unfolding values_of
values_of_at vs zero h = absurd (omega arith)
values_of_at vs (suc i) h = ap (λ (n : ℕ). eqb (get_or vs n 0) 1) (omega arith)

pub value_even : (vs : List ℕ) (l : ℕ) → 2 ≤ l → l % 2 ≡ 0 → value (values_of vs) l ≡ eqb (get_or vs (l / 2 - 1) 0) 1
unfolding value
value_even vs l h e = rw e (values_of_at vs (l / 2) (omega arith))

pub value_odd : (vs : List ℕ) (l : ℕ) → 2 ≤ l → (l % 2 ≡ 0 → ⊥) → value (values_of vs) l ≡ not (eqb (get_or vs (l / 2 - 1) 0) 1)
unfolding value
value_odd vs l h n = rw (ne_eqb (l % 2) 0 n) (ap not (values_of_at vs (l / 2) (omega arith)))

pub ruleset value_tests = (value_even, value_odd)

-- a flipped byte is a flipped variable
pub flipped : (vs : List ℕ) (l : ℕ) → 1 ≤ l / 2 → l / 2 ≤ length vs → get_or vs (l / 2 - 1) 0 ≤ 1
    → values_of (set vs (l / 2 - 1) (1 - get_or vs (l / 2 - 1) 0)) ≡ flip (values_of vs) l
unfolding values_of flip
flipped vs l a b c = fun_ext go
  where
    p : ℕ
    p = l / 2 - 1

    go : (w : ℕ) → values_of (set vs (l / 2 - 1) (1 - get_or vs (l / 2 - 1) 0)) w ≡ flip (values_of vs) l w
    go zero = rw (ne_eqb 0 (l / 2) (λ e. omega arith))
    go (suc i) = by_eq i p
        (λ e. rw (eq-eqb (suc i) (l / 2) (omega arith), e, get_or-set_same vs p (1 - get_or vs p 0) 0 (omega arith))
        (by_eq (get_or vs p 0) 0 (λ z. rw z) (λ n. let o : get_or vs p 0 ≡ 1 = omega arith in rw o)))
        (λ n. rw (ne_eqb (suc i) (l / 2) (λ e. n (omega arith)), get_or-set_other vs p i (1 - get_or vs p 0) 0 n))

-- bytes laid down read back as the values that they carry
pub length_bytes : (v : Values) (n : ℕ) → length (bytes_of v n) ≡ n
unfolding bytes_of
length_bytes v n = length_upto (λ i. cond (v (suc i)) 1 0) n

pub bytes_at : (v : Values) (n i : ℕ) → i < n → get_or (bytes_of v n) i 0 ≡ cond (v (suc i)) 1 0
unfolding bytes_of
bytes_at v n i h = get_d_upto (λ i. cond (v (suc i)) 1 0) n i 0 h

pub values_laid : (v : Values) (n : ℕ) (vs : List ℕ) (w : ℕ) → 1 ≤ w → w ≤ n → values_of (lay (bytes_of v n) vs) w ≡ v w
unfolding values_of lay
values_laid v n vs zero l u = absurd (omega arith)
values_laid v n vs (suc i) l u =
    rw (get_or-append (bytes_of v n) (drop (length (bytes_of v n)) vs) 0 i (omega (arith, length_bytes v n)), bytes_at v n i (omega arith))
    (by_bool (v (suc i)) (λ t. rw t) (λ f. rw f))

-- values that agree on a clause's variables agree on the clause
pub holds_agree : (v w : Values) (C : Clause) → ((x : ℕ) → mem x C ≡ true → v (x / 2) ≡ w (x / 2)) → holds v C ≡ holds w C
unfolding holds value
holds_agree v w [] h = refl
holds_agree v w (y ∷ C) h = rw (h y (mem_here y C), holds_agree v w C (λ x m. h x (mem_skip x y C m)))

-- no byte of the first n is bad
pub values_good : (vs : List ℕ) (n : ℕ) → bad_value vs n ≡ 0 → (i : ℕ) → i < n → get_or vs i 0 ≤ 1
unfolding bad_value bad_byte
values_good vs n h i l =
    let z = least_none (bad_byte vs) n h (suc i) (omega arith) l in
    let e : suc i - 1 ≡ i = omega arith in
    rw e at (good (get_or vs (suc i - 1) 0) z)
  where
    good : (x : ℕ) → not (leb x 1) ≡ false → x ≤ 1
    good x f = by_bool (leb x 1) (λ t. leb-true x 1 t) (λ n. differ (ap not n ∙ refl) f)

-- the byte of variable i+1 tested
pub byte_bad : (vs : List ℕ) (i : ℕ) → 1 < get_or vs i 0 → bad_byte vs (i + 1) ≡ true
unfolding bad_byte
byte_bad vs i h = let e : i + 1 - 1 ≡ i = omega arith in rw (e, lt-leb (get_or vs i 0) 1 h)

pub byte_good : (vs : List ℕ) (i : ℕ) → get_or vs i 0 ≤ 1 → bad_byte vs (i + 1) ≡ false
unfolding bad_byte
byte_good vs i h = let e : i + 1 - 1 ≡ i = omega arith in rw (e, le-leb (get_or vs i 0) 1 h)

pub ruleset byte_tests = (byte_bad, byte_good)

-- bytes that are 0 or 1 are those of the values that they carry
byte_value : (x : ℕ) → x ≤ 1 → x ≡ cond (eqb x 1) 1 0
byte_value x h = by_eq x 1 (λ e. rw e) (λ n. rw (ne_eqb x 1 n) (omega arith))

pub bytes_same : (vs : List ℕ) (n : ℕ) → n ≤ length vs → ((i : ℕ) → i < n → get_or vs i 0 ≤ 1) → take n vs ≡ bytes_of (values_of vs) n
bytes_same vs n h good =
    ext_get_or 0 (take n vs) (bytes_of (values_of vs) n) (length-take-le n vs h ∙ sym (length_bytes (values_of vs) n))
    (λ i l. at i (omega (arith, length-take-le n vs h)))
  where
    at : (i : ℕ) → i < n → get_or (take n vs) i 0 ≡ get_or (bytes_of (values_of vs) n) i 0
    at i l =
        let b : get_or vs i 0 ≡ cond (values_of vs (suc i)) 1 0 = unfold values_of in byte_value (get_or vs i 0) (good i l) in
        get_or-take n vs i 0 l ∙ b ∙ sym (bytes_at (values_of vs) n i l)

pub bytes_laid : (vs old : List ℕ) (n : ℕ) → n ≤ length vs → ((i : ℕ) → i < n → get_or vs i 0 ≤ 1) → drop n vs ≡ drop n old
    → vs ≡ lay (bytes_of (values_of vs) n) old
unfolding lay
bytes_laid vs old n h good e =
    sym (take-append-drop n vs) ∙ rw (length_bytes (values_of vs) n, bytes_same vs n h good, e)
