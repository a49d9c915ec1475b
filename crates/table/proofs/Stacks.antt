-- Entries and words of a lent stack. Assumes nothing.
use mathlib.Core.Path.{◌≡◌, refl, ap₂, ◌∙◌}
use mathlib.Core.List.{List, [], ◌∷◌, ◌++◌, append_assoc}
use Prim.Native.Nat.{ℕ, zero, suc, ◌+◌, ◌*◌, ◌≤◌, ◌<◌}
use native.Mathlib.Omega.{arith}
use lib.ListN.{length, get_or, take, drop, set, length-set}
use lib.Seq.{take-suc, get_or-set_same, get_or-set_other}
use Rattle.rules.specs.Walk.{upto}
use Rattle.rules.specs.Blocking.{literal}
use Rattle.rules.specs.Book.{Entry}
use Rattle.rules.proofs.Walks.{length_upto, get_d_upto, upto_same, upto_at}
use Rattle.table.specs.Stack.{entry_at, entries, words, lay, push}

pub length_entries : (ws : List ℕ) (c : ℕ) → length (entries ws c) ≡ c
unfolding entries
length_entries ws c = length_upto (entry_at ws) c

pub entries_at : (ws : List ℕ) (c i : ℕ) (d : Entry literal) → i < c → get_or (entries ws c) i d ≡ entry_at ws i
unfolding entries
entries_at ws c i d h = get_d_upto (entry_at ws) c i d h

pub length_words : (s : List (Entry literal)) → length (words s) ≡ 2 * length s
unfolding words
length_words [] = refl
length_words (e ∷ s) = omega (arith, length_words s)

pub length_push : (ws : List ℕ) (c k l : ℕ) → length (push ws c k l) ≡ length ws
unfolding push
length_push ws c k l = simp length-set

-- the entries after a push: those before it, and the new one
pub entries_push : (ws : List ℕ) (c k l : ℕ) → 2 * c + 1 < length ws → entries (push ws c k l) (suc c) ≡ entries ws c ++ (k, l) ∷ []
unfolding entries upto push
entries_push ws c k l h =
    ap₂ ◌++◌
    (upto_same _ (entry_at ws) c (λ i u. rw (
      get_or-set_other (set ws (2 * c) k) (2 * c + 1) (2 * i) l 0 (λ e. omega arith),
      get_or-set_other ws (2 * c) (2 * i) k 0 (λ e. omega arith),
      get_or-set_other (set ws (2 * c) k) (2 * c + 1) (2 * i + 1) l 0 (λ e. omega arith),
      get_or-set_other ws (2 * c) (2 * i + 1) k 0 (λ e. omega arith),
    )))
    (rw (
      get_or-set_other (set ws (2 * c) k) (2 * c + 1) (2 * c) l 0 (λ e. omega arith),
      get_or-set_same ws (2 * c) k 0 (omega arith),
      get_or-set_same (set ws (2 * c) k) (2 * c + 1) l 0 (rw length-set h),
    ))

words_append : (s t : List (Entry literal)) → words (s ++ t) ≡ words s ++ words t
unfolding words
words_append [] t = refl
words_append (e ∷ s) t = rw (words_append s t)

-- the words of the first c entries
pub words_entries : (ws : List ℕ) (c : ℕ) → 2 * c ≤ length ws → words (entries ws c) ≡ take (2 * c) ws
words_entries ws zero h = unfold entries upto words in refl
words_entries ws (suc c) h =
    let i = words_entries ws c (omega arith) in
    let e : 2 * suc c ≡ suc (suc (2 * c)) = omega arith in
    let q : 2 * c + 1 ≡ suc (2 * c) = omega arith in
    let a = take-suc ws (suc (2 * c)) 0 (omega arith) in
    let b = take-suc ws (2 * c) 0 (omega arith) in
    let z : words (entries ws (suc c)) ≡ words (entries ws c) ++ (get_or ws (2 * c) 0 ∷ get_or ws (2 * c + 1) 0 ∷ []) =
    unfold entries upto in words_append (upto (entry_at ws) c) (entry_at ws c ∷ []) ∙ unfold words in refl in
    z ∙ rw (i, e, a, b, q, append_assoc (take (2 * c) ws) (get_or ws (2 * c) 0 ∷ []) (get_or ws (suc (2 * c)) 0 ∷ []))

-- the words laid down are the entries
words_at : (s : List (Entry literal)) (rest : List ℕ) (i : ℕ) → i < length s → entry_at (words s ++ rest) i ≡ get_or s i (0, 0)
unfolding words
words_at [] rest i h = absurd (omega arith)
words_at (e ∷ s) rest zero h = refl
words_at (e ∷ s) rest (suc i) h =
    let a : 2 * suc i ≡ suc (suc (2 * i)) = omega arith in
    let b : suc (suc (2 * i)) + 1 ≡ suc (suc (2 * i + 1)) = omega arith in
    rw (a, b) (words_at s rest i (omega arith))

pub entries_laid : (s : List (Entry literal)) (ws : List ℕ) → entries (lay (words s) ws) (length s) ≡ s
unfolding entries lay
entries_laid s ws = upto_at (entry_at (lay (words s) ws)) (0, 0) s (λ i h. words_at s (drop (length (words s)) ws) i h)
