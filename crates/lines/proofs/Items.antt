-- The items of a field, one after the other.
use Rattle.std.proofs.Common.{◌≡◌, ℕ, suc, ◌+◌, ◌<◌, ◌≤◌, Bool, true, false, cond, not, ltb, ◌==◌, if◌then◌else◌, List, [], ◌∷◌, length, take, drop, set, Option, None, Some, option_map, ap, refl, sym, ◌∙◌, arith}
use Rattle.std.specs.Option.{unwrap_or}
use Rattle.std.specs.List.{slice_split, onto_first, position_or_len}
use Rattle.std.proofs.lemmas.Bool.Decides.{nat_tests}
use Rattle.std.proofs.lemmas.List.{length-drop, drop_more, take_more, take_more_set, take_all}
use Rattle.std.proofs.lemmas.List.Splits.{slice_split_first}
use Rattle.lines.specs.Pieces.{up_to_empty, items_of}

-- what is read of an option's value, and else of another
pub read-unwrap_or : {A B : Type 0} (read : A → B) (r : Option A) (d : A) → read (unwrap_or r d) ≡ unwrap_or (option_map read r) (read d)
read-unwrap_or read None d = refl
read-unwrap_or read (Some x) d = refl

whole : (p : ℕ → Bool) (xs : List ℕ) → length xs ≤ position_or_len p xs → slice_split p xs ≡ xs ∷ []
whole p [] h = refl
whole p (x ∷ xs) h =
    (elim (p x) as (λ b. suc (length xs) ≤ cond (not b) (1 + position_or_len p xs) 0 → cond b ([] ∷ slice_split p xs) (onto_first x (slice_split p xs)) ≡ (x ∷ xs) ∷ [])
    [ true ↦ λ k. absurd (omega (arith, k)) | false ↦ λ k. ap (onto_first x) (whole p xs (omega (arith, k))) ])
    h

abbrev blank : ℕ → Bool
blank b = b == 32

some_at : (b : Bool) (m at : ℕ) → Some at ≡ cond b (Some m) None → (b ≡ true) × (at ≡ m)
some_at true m at e = (refl, cc)
some_at false m at e = cc

none_at : (b : Bool) (m : ℕ) → None ≡ cond b (Some m) None → b ≡ false
none_at true m e = cc
none_at false m e = refl

-- a field without a blank is its one item
pub items_of-one : (field : List ℕ) → None ≡ cond (ltb (position_or_len blank field) (length field)) (Some (position_or_len blank field)) None → items_of field ≡ (if length field == 0 then [] else field ∷ [])
items_of-one field e =
    let b = none_at _ _ e in
    let l : length field ≤ position_or_len blank field = grind (arith, nat_tests) in
    ap up_to_empty (whole blank field l)

-- a field's first item, and the items behind its first blank
pub items_of-first : (field : List ℕ) (at : ℕ) → Some at ≡ cond (ltb (position_or_len blank field) (length field)) (Some (position_or_len blank field)) None → items_of field ≡ (if length (take at field) == 0 then [] else take at field ∷ items_of (drop (at + 1) field))
items_of-first field at e =
    let b = some_at _ _ at e in
    let l : position_or_len blank field < length field = grind (arith, nat_tests) in
    rw b.1 (ap up_to_empty (slice_split_first blank field 0 l))

pub at_true : {X : Type 0} (b : Bool) (x y z : X) → z ≡ (if b then x else y) → b ≡ true → z ≡ x
at_true true x y z e h = e
at_true false x y z e h = cc

pub at_false : {X : Type 0} (b : Bool) (x y z : X) → z ≡ (if b then x else y) → b ≡ false → z ≡ y
at_false true x y z e h = cc
at_false false x y z e h = e

-- one more item laid down
pub laid_more : {X : Type 0} (room all more : List X) (n : ℕ) (x : X) → n < length room → x ∷ more ≡ drop n all → take n room ≡ take n all → (more ≡ drop (n + 1) all) × (take (n + 1) (set room n x) ≡ take (n + 1) all)
laid_more room all more n x h e t =
    let l : n < length all = omega (arith, ap length e, length-drop n all) in
    let d = drop_more all n x l in
    let a = take_more all n x l in
    let b = take_more_set room n x h in
    (cc, cc)

-- all items laid down
pub laid_all : {X : Type 0} (room all : List X) (n : ℕ) → n ≤ length room → [] ≡ drop n all → take n room ≡ take n all → take n room ≡ take (length room) all
laid_all room all n h e t =
    let l : length all ≤ n = omega (arith, ap length e, length-drop n all) in
    let m : length all ≤ length room = omega arith in
    t ∙ take_all n all l ∙ sym (take_all (length room) all m)
