-- Numbers as bytes and back, for every width, and how many bytes there are. Assumes nothing.
use mathlib.Core.Path.{◌≡◌, refl, sym, ap, ◌∙◌}
use mathlib.Core.List.{List, [], ◌∷◌, ◌++◌, append_assoc}
use Prim.Native.Nat.{ℕ, zero, suc, ◌+◌, ◌-◌, ◌*◌, ◌/◌, ◌%◌, ◌^◌, ◌≤◌, ◌<◌}
use native.Mathlib.Nat.{mul-le-mul_right, mul-zero, mul-suc, pow-suc, pow-zero, mul_assoc, mul_comm, add-mul, one-le-pow, mod-lt, mod-eq_of_lt, div-eq_of_lt, div-add-mod', mul-add-div_right, mul-add-mod_self_right, mod-add-div}
use native.Mathlib.Omega.{arith}
use lib.ListN.{length, get_or, take, drop, length-append, length-drop, take-append-drop}
use lib.Seq.{drop-append-add, get_or-drop, length-take-le, drop-drop, drop-nil}
use Rattle.saved.specs.Bytes.{digits, bytes_of, numbers_from, numbers_of}

-- each is a byte
abbrev pub Bytes : List ℕ → Type 0
Bytes b = (i : ℕ) → get_or b i 0 < 256

pub bytes_drop : (n : ℕ) (b : List ℕ) → Bytes b → Bytes (drop n b)
bytes_drop n b h i = rw (get_or-drop n b i 0) (h (n + i))

pub bytes_take : (n : ℕ) (b : List ℕ) → Bytes b → Bytes (take n b)
bytes_take zero b h i = omega arith
bytes_take (suc n) [] h i = h i
bytes_take (suc n) (a ∷ b) h zero = h 0
bytes_take (suc n) (a ∷ b) h (suc i) = bytes_take n b (λ j. h (suc j)) i

-- each is below the number that w bytes cannot say
abbrev pub Fit : ℕ → List ℕ → Type 0
Fit w [] = Unit {0}
Fit w (x ∷ xs) = (x < 256 ^ w) × Fit w xs

-- lengths

pub length_digits : (w x : ℕ) → length (digits w x) ≡ w
unfolding digits
length_digits zero x = refl
length_digits (suc w) x = ap suc (length_digits w x)

pub length_bytes : (w : ℕ) (xs : List ℕ) → length (bytes_of w xs) ≡ w * length xs
unfolding bytes_of
length_bytes w [] = sym (mul-zero w)
length_bytes w (x ∷ xs) =
    rw (length-append (digits w x) (bytes_of w xs), length_digits w x, length_bytes w xs, mul-suc w (length xs)) (omega arith)

pub bytes_append : (w : ℕ) (xs ys : List ℕ) → bytes_of w (xs ++ ys) ≡ bytes_of w xs ++ bytes_of w ys
unfolding bytes_of
bytes_append w [] ys = refl
bytes_append w (x ∷ xs) ys = rw (bytes_append w xs ys, append_assoc (digits w x) (bytes_of w xs) (bytes_of w ys))

-- the number that bytes say, after others that said v
unfoldable pub said : ℕ → List ℕ → ℕ
said v [] = v
said v (b ∷ bs) = said (v * 256 + b) bs

power : (n : ℕ) → 1 ≤ 256 ^ n
power n = one-le-pow n 256 (omega arith)

said_after : (v : ℕ) (bs : List ℕ) → said v bs ≡ v * 256 ^ length bs + said 0 bs
unfolding said
said_after v [] = rw (pow-zero 256) (omega arith)
said_after v (b ∷ bs) =
    let a = said_after (v * 256 + b) bs in
    let c = said_after (0 * 256 + b) bs in
    let p = 256 ^ length bs in
    let e : (v * 256 + b) * p ≡ v * (p * 256) + b * p = rw (add-mul (v * 256) b p, mul_assoc v 256 p, mul_comm 256 p) in
    let q : 0 * 256 + b ≡ b = omega arith in
    let z : (0 * 256 + b) * p ≡ b * p = rw q in
    rw (pow-suc 256 (length bs)) (omega arith)

said_below : (bs : List ℕ) → Bytes bs → said 0 bs < 256 ^ length bs
unfolding said
said_below [] h = power 0
said_below (b ∷ bs) h =
    let i = said_below bs (λ j. h (suc j)) in
    let c = said_after (0 * 256 + b) bs in
    let p = 256 ^ length bs in
    let l : 0 * 256 + b ≤ 255 = omega (arith, h 0) in
    let m : (0 * 256 + b) * p ≤ 255 * p = mul-le-mul_right p l in
    rw (pow-suc 256 (length bs)) (omega arith)

-- w bytes say one number
numbers_one : (w c v : ℕ) (d rest : List ℕ) → length d ≡ suc c → numbers_from w c v (d ++ rest) ≡ said v d ∷ numbers_of w rest
unfolding numbers_from numbers_of said
numbers_one w c v [] rest e = absurd (omega arith)
numbers_one w zero v (b ∷ []) rest e = refl
numbers_one w zero v (b ∷ a ∷ d) rest e = absurd (omega arith)
numbers_one w (suc c) v (b ∷ d) rest e = numbers_one w c (v * 256 + b) d rest (omega arith)

numbers_front : (w : ℕ) (d rest : List ℕ) → 1 ≤ w → length d ≡ w → numbers_of w (d ++ rest) ≡ said 0 d ∷ numbers_of w rest
numbers_front w d rest l e = unfold numbers_of in numbers_one w (w - 1) 0 d rest (omega arith)

pub numbers_next : (w : ℕ) (v : List ℕ) → 1 ≤ w → length (take w v) ≡ w → numbers_of w v ≡ said 0 (take w v) ∷ numbers_of w (drop w v)
numbers_next w v l e = ap (numbers_of w) (sym (take-append-drop w v)) ∙ numbers_front w (take w v) (drop w v) l e

-- the remainder by a digit more: that digit, and the remainder before it
digit_more : (p x : ℕ) → 1 ≤ p → x / p % 256 * p + x % p ≡ x % (p * 256)
digit_more p x l =
    let y = x / p in
    let r = y % 256 * p + x % p in
    let a : y / 256 * (p * 256) + y % 256 * p ≡ y * p =
    let e : y / 256 * 256 + y % 256 ≡ y = omega arith in
    let q : y / 256 * (p * 256) ≡ y / 256 * 256 * p = rw (mul_comm p 256) (sym (mul_assoc (y / 256) 256 p)) in
    let g = sym (add-mul (y / 256 * 256) (y % 256) p) ∙ ap (λ (n : ℕ). n * p) e in
    omega arith in
    let b = div-add-mod' x p in
    let m : y % 256 ≤ 255 = omega arith in
    let k : y % 256 * p ≤ 255 * p = mul-le-mul_right p m in
    let j = mod-lt x l in
    let u : r < p * 256 = omega arith in
    let s : y / 256 * (p * 256) + r ≡ x = omega arith in
    sym (mod-eq_of_lt u) ∙ sym (mul-add-mod_self_right (y / 256) (p * 256) r) ∙ ap (λ (n : ℕ). n % (p * 256)) s

-- a number's digits say it
said_digits : (w x : ℕ) → said 0 (digits w x) ≡ x % 256 ^ w
unfolding said digits
said_digits zero x = rw (pow-zero 256) (omega arith)
said_digits (suc w) x =
    let p = 256 ^ w in
    let q : 0 * 256 + x / p % 256 ≡ x / p % 256 = omega arith in
    let a : said 0 (digits (suc w) x) ≡ x / p % 256 * p + x % p =
    ap (λ (v : ℕ). said v (digits w x)) q ∙ rw (said_after (x / p % 256) (digits w x), length_digits w x, said_digits w x) in
    a ∙ digit_more p x (power w) ∙ ap (λ (n : ℕ). x % n) (sym (pow-suc 256 w))

pub numbers_bytes : (w : ℕ) (xs : List ℕ) → 1 ≤ w → Fit w xs → numbers_of w (bytes_of w xs) ≡ xs
unfolding bytes_of
numbers_bytes w [] l h = unfold numbers_of numbers_from in refl
numbers_bytes w (x ∷ xs) l h =
    rw (numbers_front w (digits w x) (bytes_of w xs) l (length_digits w x), numbers_bytes w xs l h.1, said_digits w x, mod-eq_of_lt h.0)

-- the digits of what bytes say are those bytes
digits_said : (v : ℕ) (d : List ℕ) → Bytes d → digits (length d) (said v d) ≡ d
unfolding digits said
digits_said v [] h = refl
digits_said v (b ∷ d) h =
    let p = 256 ^ length d in
    let i = digits_said (v * 256 + b) d (λ j. h (suc j)) in
    let l = said_below d (λ j. h (suc j)) in
    let e : said (v * 256 + b) d / p ≡ v * 256 + b =
    rw (said_after (v * 256 + b) d, mul-add-div_right (power (length d)) (v * 256 + b) (said 0 d), div-eq_of_lt l) (omega arith) in
    let k = h 0 in
    let m : (v * 256 + b) % 256 ≡ b = omega arith in
    rw (e, m, i)

some_of : (w k : ℕ) (v : List ℕ) → 1 ≤ w → length v ≡ w * suc k → (length (take w v) ≡ w) × (length (drop w v) ≡ w * k)
some_of w k v l e =
    let m = mul-suc w k in
    (length-take-le w v (omega arith), simp length-drop (omega arith))

bytes_numbers_by : (w k : ℕ) (v : List ℕ) → 1 ≤ w → Bytes v → length v ≡ w * k → bytes_of w (numbers_of w v) ≡ v
unfolding bytes_of
bytes_numbers_by w zero [] l h e = unfold numbers_of numbers_from in refl
bytes_numbers_by w zero (b ∷ v) l h e = absurd (omega (arith, mul-zero w))
bytes_numbers_by w (suc k) v l h e =
    let s = some_of w k v l e in
    let i = bytes_numbers_by w k (drop w v) l (bytes_drop w v h) s.1 in
    let d = digits_said 0 (take w v) (bytes_take w v h) in
    rw (numbers_next w v l s.0, i, rw s.0 at d) (take-append-drop w v)

times : (w n : ℕ) → n % w ≡ 0 → n ≡ w * (n / w)
times w n e = omega (arith, mod-add-div n w)

pub bytes_numbers : (w : ℕ) (v : List ℕ) → 1 ≤ w → Bytes v → length v % w ≡ 0 → bytes_of w (numbers_of w v) ≡ v
bytes_numbers w v l h e = bytes_numbers_by w (length v / w) v l h (times w (length v) e)

length_numbers_by : (w k : ℕ) (v : List ℕ) → 1 ≤ w → length v ≡ w * k → length (numbers_of w v) ≡ k
length_numbers_by w zero [] l e = unfold numbers_of numbers_from in refl
length_numbers_by w zero (b ∷ v) l e = absurd (omega (arith, mul-zero w))
length_numbers_by w (suc k) v l e =
    let s = some_of w k v l e in
    rw (numbers_next w v l s.0) (ap suc (length_numbers_by w k (drop w v) l s.1))

pub length_numbers : (w : ℕ) (v : List ℕ) → 1 ≤ w → length v % w ≡ 0 → w * length (numbers_of w v) ≡ length v
length_numbers w v l e =
    let t = times w (length v) e in ap (λ (n : ℕ). w * n) (length_numbers_by w (length v / w) v l t) ∙ sym t

-- what is left after the first i numbers
pub drop_bytes : (w i : ℕ) (xs : List ℕ) → drop (w * i) (bytes_of w xs) ≡ bytes_of w (drop i xs)
unfolding bytes_of
drop_bytes w zero xs = rw (mul-zero w)
drop_bytes w (suc i) [] = drop-nil (w * suc i)
drop_bytes w (suc i) (x ∷ xs) =
    let e : w * suc i ≡ length (digits w x) + w * i = omega (arith, length_digits w x, mul-suc w i) in
    rw (e, drop-append-add (digits w x) (bytes_of w xs) (w * i)) (drop_bytes w i xs)

pub drop_numbers : (w i : ℕ) (v : List ℕ) → 1 ≤ w → w * i ≤ length v → numbers_of w (drop (w * i) v) ≡ drop i (numbers_of w v)
drop_numbers w zero v l h = rw (mul-zero w)
drop_numbers w (suc i) v l h =
    let m = mul-suc w i in
    let a : length (take w v) ≡ w = length-take-le w v (omega arith) in
    let b : w * i ≤ length (drop w v) = simp length-drop (omega arith) in
    let e : w * suc i ≡ w + w * i = omega arith in
    rw (numbers_next w v l a, e, ← drop-drop (w * i) w v) (drop_numbers w i (drop w v) l b)

-- two bytes each: the number at a place
number_first : (v : List ℕ) → 2 ≤ length v → get_or (numbers_of 2 v) 0 0 ≡ get_or v 0 0 * 256 + get_or v 1 0
unfolding numbers_of numbers_from
number_first [] h = absurd (omega arith)
number_first (a ∷ []) h = absurd (omega arith)
number_first (a ∷ b ∷ v) h = omega arith

pub number_at : (v : List ℕ) (i : ℕ) → 2 * i + 2 ≤ length v → get_or (numbers_of 2 v) i 0 ≡ get_or v (2 * i) 0 * 256 + get_or v (2 * i + 1) 0
number_at v i h =
    let a : i + 0 ≡ i = omega arith in
    let b : 2 * i + 0 ≡ 2 * i = omega arith in
    let c : get_or (drop i (numbers_of 2 v)) 0 0 ≡ get_or (numbers_of 2 v) i 0 = rw a at (get_or-drop i (numbers_of 2 v) 0 0) in
    let d : get_or (drop (2 * i) v) 0 0 ≡ get_or v (2 * i) 0 = rw b at (get_or-drop (2 * i) v 0 0) in
    let e = get_or-drop (2 * i) v 1 0 in
    let n : 2 ≤ length (drop (2 * i) v) = simp length-drop (omega arith) in
    sym c ∙ ap (λ (l : List ℕ). get_or l 0 0) (sym (drop_numbers 2 i v (omega arith) (omega arith))) ∙ number_first (drop (2 * i) v) n ∙ omega arith
