-- How the clauses go on by one, what stands after the last, and how the buffers fill. Assumes nothing.
use mathlib.Core.Path.{◌≡◌, ap, sym, ◌∙◌}
use mathlib.Core.List.{List, [], ◌∷◌, ◌++◌, append-nil}
use Prim.Native.Nat.{ℕ, suc, ◌+◌, ◌-◌, ◌<◌, ◌≤◌, min}
use native.Mathlib.Omega.{arith}
use lib.ListN.{length, drop, take, set, length-append, take-append-drop, length-drop, drop_of_length-le}
use lib.Seq.{take-add, length-take-le, take_all, drop-drop, drop_at, take_at}
use borrow.Rule.Slice.PartMut.{put_mid}
use Rattle.rules.specs.Clause.{Clause}
use Rattle.table.specs.declared.Refusal.{Refusal}
use Rattle.table.specs.declared.Refusal.TheVariants.{BadText}
use Rattle.table.specs.Limits.{Limits}
use Rattle.table.specs.Stack.{lay}
use Rattle.words.specs.declared.Section.TheVariants.{Clauses}
use Rattle.words.specs.declared.Span.{Span}
use Rattle.words.specs.Tokens.{Token, tokens_from}
use Rattle.words.specs.Inner.{Next}
use Rattle.text.specs.Clauses.{clause, clauses}
use Rattle.text.specs.Inner.{ReadClause, AddedClause}
use Rattle.text.proofs.Results.{never}
use Rattle.text.proofs.Codes.{grown}
use Rattle.std.specs.Prelude.{Result, Ok, Err, MatchResult, Some, None}
use Rattle.table.specs.Res.{Res}

module _ (lim : Limits) (n end : ℕ) (ls os : List ℕ) (ts : List Token) where
  one_ok : (c room : ℕ) (ks : Clause) (us : List Token) → room ≡ min lim.clause_literals (lim.literals - length ls) → clause n room end [] ts ≡ Ok (ks, us)
      → clauses lim n end ls os (suc c) ts ≡ clauses lim n end (ls ++ ks) (os ++ length (ls ++ ks) ∷ []) c us
  unfolding clauses
  one_ok c room ks us r e = rw (← r, e)

  one_fault : (c room : ℕ) (x : Refusal) → room ≡ min lim.clause_literals (lim.literals - length ls) → clause n room end [] ts ≡ Err x
      → clauses lim n end ls os (suc c) ts ≡ Err x
  unfolding clauses
  one_fault c room x r e = rw (← r, e)

  pub goes_on : (m k room : ℕ) (ks : Clause) (us : List Token) → k < m → room ≡ min lim.clause_literals (lim.literals - length ls) → clause n room end [] ts ≡ Ok (ks, us)
      → clauses lim n end ls os (m - k) ts ≡ clauses lim n end (ls ++ ks) (os ++ length (ls ++ ks) ∷ []) (m - (k + 1)) us
  goes_on m k room ks us l r e =
      let q : m - k ≡ suc (m - (k + 1)) = omega arith in
      rw q (one_ok (m - (k + 1)) room ks us r e)

  pub stops : (m k room : ℕ) (x : Refusal) → k < m → room ≡ min lim.clause_literals (lim.literals - length ls) → clause n room end [] ts ≡ Err x
      → clauses lim n end ls os (m - k) ts ≡ Err x
  stops m k room x l r e =
      let q : m - k ≡ suc (m - (k + 1)) = omega arith in
      rw q (one_fault (m - (k + 1)) room x r e)

module _ (lim : Limits) (n end : ℕ) (ls os : List ℕ) where
  pub last_none : (m k : ℕ) → m ≤ k → clauses lim n end ls os (m - k) [] ≡ Ok (ls, os)
  unfolding clauses
  last_none m k h = let q : m - k ≡ 0 = omega arith in rw q

  pub last_more : (m k : ℕ) (t : Token) (ts : List Token) → m ≤ k → clauses lim n end ls os (m - k) (t ∷ ts) ≡ Err (BadText t.place)
  unfolding clauses
  last_more m k t ts h = let q : m - k ≡ 0 = omega arith in rw q

  -- what the end of the first pass finds after the last clause
  pub ended : (m k at : ℕ) (s : List ℕ) (whole : Res (List ℕ × List ℕ)) → m ≤ k → whole ≡ clauses lim n end ls os (m - k) (tokens_from Clauses s at) → (r : Result (Unit {0}) Refusal)
      → MatchResult r (λ _. Next Clauses s at None) (λ x. (t : Span) × Next Clauses s at (Some t) × (x ≡ BadText t.place))
      → MatchResult r (λ _. (t : List ℕ × List ℕ) × (whole ≡ Ok t)) (λ x. whole ≡ Err x)
  ended m k at s whole h e (Ok u) q = ((ls, os), e ∙ ap (clauses lim n end ls os (m - k)) q.same ∙ last_none m k h)
  ended m k at s whole h e (Err x) q = rw q.2 (e ∙ ap (clauses lim n end ls os (m - k)) q.1.same ∙ last_more m k _ _ h)

  pub last_ok : (m k : ℕ) (ts : List Token) (t : List ℕ × List ℕ) → m ≤ k → clauses lim n end ls os (m - k) ts ≡ Ok t → clauses lim n end ls os (m - k) ts ≡ Ok (ls, os)
  last_ok m k [] t h e = last_none m k h
  last_ok m k (u ∷ ts) t h e = absurd (never _ t _ e (last_more m k u ts h))

  pub start : (m : ℕ) (ts : List Token) → clauses lim n end ls os m ts ≡ clauses lim n end ls os (m - 0) ts
  start m ts = let q : m - 0 ≡ m = omega arith in rw q

-- a buffer whose front is the answer and whose rest is as it came
pub laid : (b b₀ : List ℕ) (c : ℕ) → c ≤ length b → drop c b ≡ drop c b₀ → b ≡ lay (take c b) b₀
unfolding lay
laid b b₀ c l e = rw (length-take-le c b l, ← e, take-append-drop c b)

-- what is behind a clause that was added is as it came
pub behind : (t c : ℕ) (k b a : List ℕ) → drop c (drop t k) ≡ drop c (drop t b) → drop t b ≡ drop t a → drop (t + c) k ≡ drop (t + c) a
behind t c k b a h e = sym (drop-drop c t k) ∙ h ∙ ap (drop c) e ∙ drop-drop c t a

-- what `read_clause` says of a part of a buffer, said of the whole
module _ (s : List ℕ) (from n room total : ℕ) (xs ys : List ℕ) (l : total ≤ length xs) where
  mid : take (length xs - total) (drop total xs) ≡ drop total xs
  mid = take_all (length xs - total) (drop total xs) (simp length-drop (omega arith))

  back : put_mid total (length xs - total) xs ys ≡ take total xs ++ ys
  back = rw (drop_of_length-le (drop total xs) {i = length xs - total} (simp length-drop (omega arith)), append-nil ys)

  long_front : length (take total xs) ≡ total
  long_front = length-take-le total xs l

  pub added : (g : Result (ℕ × ℕ) Refusal) → length ys ≡ length (take (length xs - total) (drop total xs)) → ReadClause s from n room (take (length xs - total) (drop total xs)) ys g
      → AddedClause s from n room total xs (put_mid total (length xs - total) xs ys) g
  added g k r =
      rw back (record {
        read = rw (drop_at (take total xs) ys total long_front) (rw mid at r);
        front = take_at (take total xs) ys total long_front;
        long = simp (length-append, long_front, k, mid, length-drop) (omega arith);
      })

-- the buffers after one more clause hold what the definition has after it
module _ (lim : Limits) (n end m k t : ℕ) (lits lits' offs : List ℕ) where
  pub filled_on : (ts : List Token) (room cnt : ℕ) (us : List Token) → k < m → room ≡ min lim.clause_literals (lim.literals - t) → t ≤ length lits
      → clause n room end [] ts ≡ Ok (take cnt (drop t lits'), us) → take t lits' ≡ take t lits → t + cnt ≤ length lits' → k + 1 < length offs
      → clauses lim n end (take t lits) (take (k + 1) offs) (m - k) ts ≡ clauses lim n end (take (t + cnt) lits') (take (k + 1 + 1) (set offs (k + 1) (t + cnt))) (m - (k + 1)) us
  filled_on ts room cnt us l r tl e f b o =
      let tt : length (take t lits) ≡ t = length-take-le t lits tl in
      let a : take (t + cnt) lits' ≡ take t lits ++ take cnt (drop t lits') = take-add t cnt lits' ∙ ap (λ (x : List ℕ). x ++ take cnt (drop t lits')) f in
      let q : length (take t lits ++ take cnt (drop t lits')) ≡ t + cnt = sym (ap length a) ∙ length-take-le (t + cnt) lits' b in
      let rr : room ≡ min lim.clause_literals (lim.literals - length (take t lits)) = rw tt r in
      rw (a, grown offs (k + 1) (t + cnt) o, ← q) (goes_on lim n end (take t lits) (take (k + 1) offs) ts m k room (take cnt (drop t lits')) us l rr e)
