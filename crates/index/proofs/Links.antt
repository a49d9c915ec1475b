-- The occurrence index while it is built: a clause is linked literal by literal, behind the clauses above it. Assumes nothing.
use mathlib.Core.Path.{◌≡◌, sym, ◌∙◌, ap}
use mathlib.Core.Bool.{Bool, true, false, ◌||◌, cond}
use mathlib.Core.List.{List}
use mathlib.Core.Logic.{◌≢◌}
use Prim.Native.Nat.{ℕ, suc, ◌+◌, ◌-◌, ◌≤◌, ◌<◌}
use native.Mathlib.Nat.{le_refl}
use native.Mathlib.Omega.{arith}
use borrow.Author.Tests.{eq-eqb, ne_eqb}
use lib.Dec.{eqb}
use lib.ListN.{length, get_or, take, drop, set, length-set}
use lib.Seq.{take-length, get_or-set_same, get_or-set_other}
use Rattle.rules.specs.Clause.{Clause, mem}
use Rattle.rules.proofs.Logic.{by_bool, by_eq, differ, or_no, or_yes}
use Rattle.rules.proofs.Walks.{any_next, any_end}
use Rattle.rules.proofs.Members.{mem_nil, mem_at, mem_next}
use Rattle.table.specs.Limits.{base}
use Rattle.table.specs.Table.{Table, offset, row, sound}
use Rattle.table.specs.Inner.{Shape}
use Rattle.table.proofs.Soundness.{Sound, sound_of, climb, row_length, row_at, row_distinct, literal_coded, fresh_at}
use Rattle.index.specs.Index.{holder_above, Indexed}
use Rattle.index.specs.Inner.{Linking}
use Rattle.index.proofs.Holders.{holder_here, holder_skips, holder_none}

-- the clauses above clause k are linked, and the literals of clause k that stand before place p of the literal buffer
pub record Filling (t : Table) (heads nexts : List ℕ) (k p : ℕ) : Type 0 where
  pub heads_many : length heads ≡ 4002
  pub nexts_many : length nexts ≡ 16000
  pub head : (x : ℕ) → x < 4002 → get_or heads x 0 ≡ cond (mem x (take (p - offset t (k - 1)) (row t k))) k (holder_above t x k)
  pub own : (i : ℕ) → offset t (k - 1) + i < p → get_or nexts (offset t (k - 1) + i) 0 ≡ holder_above t (get_or (row t k) i 0) k
  pub next : (j i : ℕ) → k < j → j ≤ t.clauses → i < length (row t j) → get_or nexts (offset t (j - 1) + i) 0 ≡ holder_above t (get_or (row t j) i 0) j

pub fill_start : (t : Table) (heads nexts : List ℕ) (k : ℕ) → Linking t heads nexts k → Filling t heads nexts k (offset t (k - 1))
fill_start t heads nexts k s =
    let none : offset t (k - 1) - offset t (k - 1) ≡ 0 = omega arith in
    record {
      heads_many = s.heads_many;
      nexts_many = s.nexts_many;
      head = λ x h. rw (none, mem_nil x) (s.head x h);
      own = λ i h. absurd (omega arith);
      next = s.next;
    }

-- a place of clause k
module _ (t : Table) (s : Sound t) (k : ℕ) (low : 1 ≤ k) (high : k ≤ t.clauses) (p : ℕ) (from : offset t (k - 1) ≤ p) (to : p < offset t k) where
  pub place_small : (p < 16000) × (p < length t.lits)
  place_small =
      (omega (arith, climb t s.shape k t.clauses high (le_refl _), s.total), omega (arith, s.shape.inside k high))

  place_in : p - offset t (k - 1) < length (row t k)
  place_in = omega (arith, row_length t s.shape k low high)

  place_literal : get_or (row t k) (p - offset t (k - 1)) 0 ≡ get_or t.lits p 0
  place_literal =
      let e : offset t (k - 1) + (p - offset t (k - 1)) ≡ p = omega arith in
      row_at t s.shape k low high (p - offset t (k - 1)) place_in ∙ rw e

  place_mem : mem (get_or t.lits p 0) (row t k) ≡ true
  place_mem = rw place_literal at (mem_at (row t k) (p - offset t (k - 1)) place_in)

  pub place_code : (2 ≤ get_or t.lits p 0) × (get_or t.lits p 0 < 4002)
  place_code =
      let q = literal_coded t s k (get_or t.lits p 0) low high place_mem in (q.0, omega (arith, q.1, s.variables))

  -- a literal that is among those from the place on, and not at the place, is among those behind it
  pub seek_more : (x : ℕ) → get_or t.lits p 0 ≢ x → mem x (drop (p - offset t (k - 1)) (row t k)) ≡ true
      → mem x (drop (p + 1 - offset t (k - 1)) (row t k)) ≡ true
  unfolding mem
  seek_more x n h =
      let e : p + 1 - offset t (k - 1) ≡ p - offset t (k - 1) + 1 = omega arith in
      rw e (any_next (eqb x) (row t k) (p - offset t (k - 1)) place_in (ne_eqb x _ (λ q. n (sym (q ∙ place_literal)))) ∙ h)

  -- what the index has at the place
  pub seek_found : (x : ℕ) (heads nexts : List ℕ) → get_or t.lits p 0 ≡ x → Indexed t heads nexts → get_or nexts p 0 ≡ holder_above t x k
  seek_found x heads nexts q ix =
      let e : offset t (k - 1) + (p - offset t (k - 1)) ≡ p = omega arith in
      rw (e, place_literal, q) at (ix.next k (p - offset t (k - 1)) low high place_in)

  -- the literal at the place is linked
  pub fill_more : (heads nexts : List ℕ) → Filling t heads nexts k p
      → Filling t (set heads (get_or t.lits p 0) k) (set nexts p (get_or heads (get_or t.lits p 0) 0)) k (p + 1)
  fill_more heads nexts f = record {
    heads_many = length-set heads x k ∙ f.heads_many;
    nexts_many = length-set nexts p (get_or heads x 0) ∙ f.nexts_many;
    head = head;
    own = own;
    next = next;
  }
    where
      i : ℕ
      i = p - offset t (k - 1)

      C : Clause
      C = row t k

      x : ℕ
      x = get_or t.lits p 0

      more : (y : ℕ) → mem y (take (p + 1 - offset t (k - 1)) C) ≡ (mem y (take i C) || eqb y x)
      more y = let e : p + 1 - offset t (k - 1) ≡ suc i = omega arith in rw (e, ← place_literal) (mem_next y C i place_in)

      fresh : mem x (take i C) ≡ false
      fresh = rw (← place_literal) (fresh_at C i (row_distinct t s k low high) place_in)

      head : (y : ℕ) → y < 4002 → get_or (set heads x k) y 0 ≡ cond (mem y (take (p + 1 - offset t (k - 1)) C)) k (holder_above t y k)
      head y l =
          by_eq y x
          (λ e. rw (more y, eq-eqb y x e, or_yes) (rw e (get_or-set_same heads x k 0 (omega (arith, f.heads_many)))))
          (λ n. rw (more y, ne_eqb y x n, or_no) (get_or-set_other heads x y k 0 n ∙ f.head y l))

      own : (j : ℕ) → offset t (k - 1) + j < p + 1 → get_or (set nexts p (get_or heads x 0)) (offset t (k - 1) + j) 0 ≡ holder_above t (get_or C j 0) k
      own j l =
          by_eq j i
          (λ e. let q : offset t (k - 1) + j ≡ p = omega arith in
          let g : get_or C j 0 ≡ x = rw e place_literal in
          rw (q, g) (get_or-set_same nexts p _ 0 (omega (arith, f.nexts_many, place_small.0)) ∙ f.head x place_code.1
          ∙ ap (λ (b : Bool). cond b k (holder_above t x k)) fresh))
          (λ n. get_or-set_other nexts p (offset t (k - 1) + j) _ 0 (λ z. n (omega arith)) ∙ f.own j (omega arith))

      next : (j a : ℕ) → k < j → j ≤ t.clauses → a < length (row t j)
          → get_or (set nexts p (get_or heads x 0)) (offset t (j - 1) + a) 0 ≡ holder_above t (get_or (row t j) a 0) j
      next j a l u b =
          get_or-set_other nexts p (offset t (j - 1) + a) _ 0 (λ z. absurd (omega (arith, climb t s.shape k (j - 1) (omega arith) (omega arith)))) ∙ f.next j a l u b

-- clause k is linked
pub fill_end : (t : Table) → sound base t ≡ true → (heads nexts : List ℕ) (k : ℕ) → 1 ≤ k → k ≤ t.clauses
    → Filling t heads nexts k (offset t k) → Linking t heads nexts (k - 1)
fill_end t h heads nexts k low high f = record {
  table_sound = h;
  heads_many = f.heads_many;
  nexts_many = f.nexts_many;
  head = λ x l. whole x (f.head x l);
  next = λ j i l u b. by_eq j k (λ e. rw e (f.own i (last i (rw e at b)))) (λ n. f.next j i (omega arith) u b);
}
  where
    shape : Shape t
    shape = (sound_of t h).shape

    whole : (x : ℕ) {n : ℕ} → n ≡ cond (mem x (take (offset t k - offset t (k - 1)) (row t k))) k (holder_above t x k) → n ≡ holder_above t x (k - 1)
    whole x q =
        let r = rw (← row_length t shape k low high, take-length) at q in
        by_bool (mem x (row t k))
        (λ m. rw m at r ∙ sym (holder_here t x k low high m))
        (λ m. rw m at r ∙ sym (holder_skips t x k low m))

    last : (i : ℕ) → i < length (row t k) → offset t (k - 1) + i < offset t k
    last i b = omega (arith, row_length t shape k low high)

-- a literal of clause k is at some place of it
pub seek_end : (t : Table) → Sound t → (k x p : ℕ) → 1 ≤ k → k ≤ t.clauses → offset t k ≤ p
    → mem x (drop (p - offset t (k - 1)) (row t k)) ≡ true → ⊥
unfolding mem
seek_end t s k x p low high l h =
    differ h (any_end (eqb x) (row t k) (p - offset t (k - 1)) (omega (arith, row_length t s.shape k low high)))

-- before the first turn no clause is linked, after the last all are
pub link_start : (t : Table) → sound base t ≡ true → (heads nexts : List ℕ) → length heads ≡ 4002 → length nexts ≡ 16000
    → ((x : ℕ) → get_or heads x 0 ≡ 0) → Linking t heads nexts t.clauses
link_start t h heads nexts a b z = record {
  table_sound = h;
  heads_many = a;
  nexts_many = b;
  head = λ x l. z x ∙ sym (holder_none t x);
  next = λ j i l u c. absurd (omega arith);
}

pub link_end : (t : Table) (heads nexts : List ℕ) → Linking t heads nexts 0 → Indexed t heads nexts
link_end t heads nexts s = record {
  heads_many = s.heads_many;
  nexts_many = s.nexts_many;
  head = s.head;
  next = λ k i a u b. s.next k i (omega arith) u b;
}
