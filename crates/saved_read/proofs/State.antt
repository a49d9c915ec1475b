-- The scan over a form's lines: what holds between two lines, that a line keeps it, and what it comes to at a refusal and at the end. Assumes nothing.
use mathlib.Core.Path.{◌≡◌, refl, sym, ap, ◌∙◌}
use mathlib.Core.Bool.{true, false, not}
use mathlib.Core.List.{List, [], ◌∷◌, ◌++◌, append_assoc, append-nil}
use mathlib.Core.Logic.{◌≢◌}
use mathlib.Core.Option.{none, some}
use Prim.Native.Nat.{ℕ, suc, ◌+◌, ◌-◌, ◌*◌, ◌/◌, ◌≤◌, ◌<◌}
use native.Mathlib.Omega.{arith}
use lib.Dec.{eqb, ltb}
use lib.ListN.{length, get_or, take, drop, set, length-set}
use lib.Seq.{drop-drop, get_or-set_same, get_or-set_other}
use borrow.Author.Tests.{eq-eqb, ne_eqb, leb-true, ltb-true, ltb-false, le-ltb}
use Rattle.std.specs.Prelude.{Option, Some, None, is_some, Ok, Err}
use Rattle.std.proofs.lemmas.List.{drop-take}
use Rattle.rules.specs.Walk.{upto}
use Rattle.rules.specs.Clause.{Clause, mem}
use Rattle.rules.proofs.Logic.{by_bool, by_eq, and_true}
use Rattle.rules.proofs.Members.{mem_nil, mem_here, mem_other}
use Rattle.table.specs.Limits.{base}
use Rattle.table.specs.Stack.{entries}
use Rattle.table.specs.Answer.{test}
use Rattle.table.specs.declared.Refusal.{Refusal}
use Rattle.table.specs.declared.Refusal.TheVariants.{OverLimit, BadSaved}
use Rattle.table.proofs.Laying.{tail_is}
use Rattle.table.proofs.Stacks.{entries_push, length_push}
use Rattle.saved.specs.Bytes.{numbers_of}
use Rattle.saved.specs.Field.{narrow, tag_of, value_of, whole_field}
use Rattle.saved.specs.Form.{Head, Line, number_of, blocking_of, heads_at, tag_at}
use Rattle.table.specs.Res.{Res, on_ok}
use Rattle.saved.specs.Reading.{line_tests, line_length, line_limits, line_sound, new_number, line_at, end_tests, read_lines, literals_of, entries_of}
use Rattle.table.proofs.Answers.{test_none}
use Rattle.saved.proofs.Accepted.{passed}
use Rattle.saved_read.specs.Inner.{kind_at, heads_of, Parts, is_met, new_on, sound_on, value_tests, front_of, line_on, value_at, push_block, pushed_on, count_on, row_in, Within, Clear, AllRead}
use Rattle.saved_read.specs.declared.known.Part.{Part}
use Rattle.saved_read.specs.declared.Kind.{Kind}
use Rattle.saved_read.specs.declared.Kind.TheVariants.{Live, Removed}
use Rattle.saved_read.specs.declared.Front.{Front}
use Rattle.saved_read.proofs.Numbers.{length_numbers, numbers_after, heads_few}
use Rattle.saved_read.proofs.Found.{given_by, refused_by, first_two, Found, lost}

-- the numbers met are those whose parts are remembered
abbrev pub Marks : List ℕ → Parts → Type 0
Marks met parts = (k : ℕ) → mem k met ≡ is_met parts k

mark : (met : List ℕ) (parts : Parts) (k : ℕ) (v : Part) → k < length parts → Marks met parts → Marks (k ∷ met) (set parts k (Some v))
mark met parts k v h r j =
    by_eq j k (λ e. rw (e, mem_here k met, get_or-set_same parts k (Some v) None h))
    (λ e. rw (mem_other j k met e, get_or-set_other parts k j (Some v) None e) (r j))

heads_same : (c r : ℕ) → heads_of (kind_at c r) ≡ heads_at c r
heads_same c r = by_bool (ltb c r) (λ e. rw e) (λ e. rw e)

tag_same : (c r : ℕ) → heads_of (kind_at c r) + 1 ≡ tag_at narrow c r
tag_same c r = by_bool (ltb c r) (λ e. rw e) (λ e. rw e)

-- the tests beside the parts remembered are the definition's
sound_same : (kind : Kind) (h : Head) (last : ℕ) (met : List ℕ) (parts : Parts) (x : Line) → get_or met 0 0 ≡ last → Marks met parts
    → sound_on kind h last parts x ≡ line_sound base narrow (heads_of kind) h met x
unfolding sound_on line_sound new_number
sound_same Live h last met parts x p r = rw p
sound_same Removed h last met parts x p r = rw (r (number_of x))

module _ (h : Head) (c total last : ℕ) (met : List ℕ) (parts : Parts) (b : List ℕ) (at : ℕ) (is_last : get_or met 0 0 ≡ last) (marks : Marks met parts) where
  abbrev kind : Kind
  kind = kind_at c h.removals

  pub field_lost : (x : Refusal) → Err x ≡ value_at b at (heads_of kind + 1) → line_tests base narrow h c total met (drop at b) at ≡ some x
  field_lost x e =
      rw (← tag_same c h.removals)
      (first_two (test (whole_field (drop at b)) (BadSaved at)) (test (eqb (tag_of (drop at b)) (heads_of kind + 1)) (BadSaved at)) _ _ x
      (lost b at (heads_of kind + 1) x e))

  module _ (v : List ℕ) (f : Found b at (heads_of kind + 1) v) where
    tests_same : line_tests base narrow h c total met (drop at b) at ≡ value_tests kind h total last parts v at
    unfolding line_at
    tests_same =
        rw (
          f.whole,
          ← tag_same c h.removals,
          f.tagged,
          ← heads_same c h.removals,
          ← f.size,
          ← f.value,
          ← sound_same kind h last met parts (numbers_of 2 v) is_last marks,
        )

    pub line_refused : (x : Refusal) → Err x ≡ line_on kind h total last parts v at → line_tests base narrow h c total met (drop at b) at ≡ some x
    unfolding line_on
    line_refused x e = tests_same ∙ refused_by (value_tests kind h total last parts v at) x (front_of kind (numbers_of 2 v)) e

    pub line_taken : (y : Front) → Ok y ≡ line_on kind h total last parts v at
        → (line_tests base narrow h c total met (drop at b) at ≡ none) × (value_tests kind h total last parts v at ≡ none) × (y ≡ front_of kind (numbers_of 2 v))
    unfolding line_on
    line_taken y e =
        let o = given_by (value_tests kind h total last parts v at) y (front_of kind (numbers_of 2 v)) e in
        (tests_same ∙ o.0, o.0, o.1)

-- what a line that passes the tests keeps to
pub record Kept (kind : Kind) (h : Head) (total last : ℕ) (parts : Parts) (v : List ℕ) : Type 0 where
  pub long : 2 * heads_of kind ≤ length v
  pub full : total + (length (numbers_of 2 v) - heads_of kind) ≤ 16_000
  pub low : 1 ≤ number_of (numbers_of 2 v)
  pub high : number_of (numbers_of 2 v) ≤ h.clauses
  pub new : new_on kind last parts (number_of (numbers_of 2 v)) ≡ true

kept : (kind : Kind) (h : Head) (total last : ℕ) (parts : Parts) (v : List ℕ) (at : ℕ) → value_tests kind h total last parts v at ≡ none
    → Kept kind h total last parts v
unfolding line_length line_limits sound_on
kept kind h total last parts v at e =
    let x = numbers_of 2 v in
    let p₃ = passed (line_length base narrow (heads_of kind) (length v)) (BadSaved at) _ e in
    let p₄ = passed (line_limits base narrow (heads_of kind) total x) (OverLimit at) _ p₃.1 in
    let p₅ = test_none (sound_on kind h last parts x) (BadSaved at) p₄.1 in
    let q₃ = simp and_true at p₃.0 in
    let q₄ = simp and_true at p₄.0 in
    let q₅ = simp and_true at p₅ in
    record {
      long = leb-true (2 * heads_of kind) (length v) q₃.1;
      full = leb-true _ _ q₄.1;
      low = leb-true _ _ q₅.0.0.0.0.0;
      high = leb-true _ _ q₅.0.0.0.0.1;
      new = q₅.1;
    }

-- the clause that a part holds, or another where there is none
abbrev pub row_or : List ℕ → Option Part → Clause → Clause
row_or b None C = C
row_or b (Some p) C = row_in b (Some p)

-- between two lines: c lines are still to come
pub record State (b : List ℕ) (h : Head) (c last total at : ℕ) (parts : Parts) (words : List ℕ) (count : ℕ) : Type 0 where
  pub done : List Line
  pub met : List ℕ
  pub reads : read_lines base narrow h h.clauses [] 0 11 (drop 11 b) ≡ on_ok (λ ys. done ++ ys) (read_lines base narrow h c met total at (drop at b))
  pub is_last : get_or met 0 0 ≡ last
  pub marks : Marks met parts
  pub fresh : h.removals ≤ c → (k : ℕ) → last < k → get_or parts k None ≡ None
  pub rows : (ys : List Line) (k : ℕ) → length ys ≡ c → literals_of h.removals (done ++ ys) k ≡ row_or b (get_or parts k None) (literals_of h.removals ys k)
  pub stacked : (ys : List Line) → length ys ≡ c → entries_of h.removals (done ++ ys) ≡ entries words count ++ entries_of h.removals ys
  pub few : count + c ≤ h.clauses
  pub full : total ≤ 16_000
  pub inside : at ≤ length b
  pub within : Within b parts
  pub short : at + 8 * c ≤ 32_011 + 2 * total
  pub parts_room : h.clauses < length parts
  pub words_room : 2 * h.clauses ≤ length words

on_none : {A : Type 0} (x : Res (List A)) → x ≡ on_ok (λ ys. [] ++ ys) x
on_none (Err f) = refl
on_none (Ok a) = refl

pub state_start : (b : List ℕ) (h : Head) (parts : Parts) (words : List ℕ) → h.clauses ≤ 4_000 → Clear b parts words → State b h h.clauses 0 0 11 parts words 0
state_start b h parts words m g = record {
  done = [];
  met = [];
  reads = on_none _;
  is_last = refl;
  marks = λ k. rw (g.none_met k) (mem_nil k);
  fresh = λ l k u. g.none_met k;
  rows = λ ys k l. rw (g.none_met k);
  stacked = λ ys l. unfold entries upto in refl;
  few = omega arith;
  full = omega arith;
  inside = g.long;
  within = λ k p e. absurd (let z = g.none_met k in cc);
  short = omega arith;
  parts_room = let r = g.parts_room in omega arith;
  words_room = let r = g.words_room in omega arith;
}

-- one line more before the rest
on_cons : (done : List Line) (x : Line) (w : Res (List Line)) → on_ok (λ ys. done ++ ys) (on_ok (λ ys. x ∷ ys) w) ≡ on_ok (λ ys. (done ++ x ∷ []) ++ ys) w
on_cons done x (Err f) = refl
on_cons done x (Ok ys) = ap Ok (sym (append_assoc done (x ∷ []) ys))

some_same : {A : Type 0} (a c : A) → ◌≡◌ {A = Option A} (Some a) (Some c) → a ≡ c
some_same a c e = cc

is_none : {A : Type 0} (o : Option A) → not (is_some o) ≡ true → o ≡ None
is_none None e = refl
is_none (Some a) e = absurd (cc)

module _ (b : List ℕ) (h : Head) (c last total at : ℕ) (parts : Parts) (words : List ℕ) (count : ℕ) (g : State b h (suc c) last total at parts words count) where
  abbrev K : Kind
  K = kind_at c h.removals

  pub state_lost : (x : Refusal) → Err x ≡ value_at b at (heads_of K + 1) → read_lines base narrow h h.clauses [] 0 11 (drop 11 b) ≡ Err x
  unfolding read_lines
  state_lost x e = g.reads ∙ rw (field_lost h c total last g.met parts b at g.is_last g.marks x e)

  module _ (v : List ℕ) (f : Found b at (heads_of K + 1) v) where
    abbrev x : Line
    x = numbers_of 2 v

    pub state_refused : (r : Refusal) → Err r ≡ line_on K h total last parts v at → read_lines base narrow h h.clauses [] 0 11 (drop 11 b) ≡ Err r
    unfolding read_lines
    state_refused r e = g.reads ∙ rw (line_refused h c total last g.met parts b at g.is_last g.marks v f r e)

    module _ (y : Front) (good : Ok y ≡ line_on K h total last parts v at) where
      taken : (line_tests base narrow h c total g.met (drop at b) at ≡ none) × (value_tests K h total last parts v at ≡ none) × (y ≡ front_of K x)
      taken = line_taken h c total last g.met parts b at g.is_last g.marks v f y good

      pub holds : Kept K h total last parts v
      holds = kept K h total last parts v at taken.1

      abbrev k : ℕ
      k = y.number

      number : k ≡ number_of x
      number = ap (λ (z : Front). z.number) taken.2

      block : y.block ≡ (front_of K x).block
      block = ap (λ (z : Front). z.block) taken.2

      pub most : k ≤ h.clauses
      most = rw number holds.high

      rising : h.removals ≤ c → last < k
      rising l = rw number (ltb-true last (number_of x) (rw (le-ltb c h.removals l) at holds.new))

      was_fresh : get_or parts k None ≡ None
      was_fresh =
          by_bool (ltb c h.removals)
          (λ i. rw number (is_none (get_or parts (number_of x) None) (rw i at holds.new)))
          (λ i. let l = ltb-false c h.removals i in g.fresh (omega arith) k (rising (omega arith)))

      pub new_full : total + (length v / 2 - heads_of K) ≤ 16_000
      new_full = let l = length_numbers v in let w = holds.full in omega arith

      -- a line takes at most 8 bytes beside its literals, so all of them end before 65,536
      pub new_short : at + (3 + length v) + 8 * c ≤ 32_011 + 2 * (total + (length v / 2 - heads_of K))
      new_short = let s = g.short in let l = holds.long in let w = heads_few K in omega (arith, w.0, w.1)

      module _ (p : Part) (from : p.from ≡ at + 3 + 2 * heads_of K) (to : p.to ≡ at + (3 + length v)) where
        abbrev parts₂ : Parts
        parts₂ = set parts k (Some p)

        -- the value from its literals on
        tail : take (p.to - p.from) (drop p.from b) ≡ drop (2 * heads_of K) v
        unfolding value_of
        tail =
            let l = holds.long in
            let n : length v ≡ 2 * heads_of K + (p.to - p.from) = omega arith in
            let d : drop 3 (drop at b) ≡ drop (at + 3) b = drop-drop 3 at b in
            let e : v ≡ take (2 * heads_of K + (p.to - p.from)) (drop (at + 3) b) = f.value ∙ rw (sym f.size ∙ n, d) refl in
            sym (ap (drop (2 * heads_of K)) e ∙ drop-take (2 * heads_of K) (p.to - p.from) (drop (at + 3) b) ∙ rw (drop-drop (2 * heads_of K) (at + 3) b, from) refl)

        row : row_in b (Some p) ≡ drop (heads_at c h.removals) x
        row =
            ap (numbers_of 2) (tail ∙ sym (tail_is v (2 * heads_of K)))
            ∙ sym (numbers_after (heads_of K) v holds.long)
            ∙ ap (λ (i : ℕ). drop i x) (heads_same c h.removals)

        many : length v / 2 - heads_of K ≡ length x - heads_of K
        many = let l = length_numbers v in omega arith

        new_within : Within b parts₂
        new_within j q e =
            let pr = g.parts_room in
            let mo = most in
            by_eq j k
            (λ i. let s = get_or-set_same parts k (Some p) None (omega arith) in
            let r : p ≡ q = some_same p q (sym s ∙ ap (λ (n : ℕ). get_or parts₂ n None) (sym i) ∙ e) in
            let w = f.within in
            let l = holds.long in
            rw (← r) (omega arith, omega arith))
            (λ i. g.within j q (sym (get_or-set_other parts k j (Some p) None i) ∙ e))

        next_reads : read_lines base narrow h h.clauses [] 0 11 (drop 11 b)
            ≡ on_ok (λ ys. (g.done ++ x ∷ []) ++ ys) (read_lines base narrow h c (k ∷ g.met) (total + (length v / 2 - heads_of K)) (at + (3 + length v)) (drop (at + (3 + length v)) b))
        unfolding read_lines line_at
        next_reads =
            g.reads
            ∙ rw (taken.0, ← f.size, ← f.value, drop-drop (3 + length v) at b, ← number, ← heads_same c h.removals, ← many)
            (on_cons g.done x (read_lines base narrow h c (k ∷ g.met) (total + (length v / 2 - heads_of K)) (at + (3 + length v)) (drop (at + (3 + length v)) b)))

        row_here : (ys : List Line) → length ys ≡ c → literals_of h.removals (x ∷ ys) k ≡ row_in b (Some p)
        unfolding literals_of
        row_here ys l = rw (eq-eqb (number_of x) k (sym number), l) (sym row)

        row_other : (ys : List Line) (j : ℕ) → j ≢ k → literals_of h.removals (x ∷ ys) j ≡ literals_of h.removals ys j
        unfolding literals_of
        row_other ys j i = rw (ne_eqb (number_of x) j (λ z. i (sym z ∙ sym number)))

        next_rows : (ys : List Line) (j : ℕ) → length ys ≡ c
            → literals_of h.removals ((g.done ++ x ∷ []) ++ ys) j ≡ row_or b (get_or parts₂ j None) (literals_of h.removals ys j)
        next_rows ys j l =
            let pr = g.parts_room in
            let mo = most in
            rw (append_assoc g.done (x ∷ []) ys)
            (g.rows (x ∷ ys) j (ap suc l)
            ∙ by_eq j k
            (λ i. rw (i, was_fresh, get_or-set_same parts k (Some p) None (omega arith)) (row_here ys l))
            (λ i. rw (get_or-set_other parts k j (Some p) None i, row_other ys j i)))

        stacked_gone : (ys : List Line) → length ys ≡ c → ltb c h.removals ≡ true
            → entries words count ++ entries_of h.removals (x ∷ ys) ≡ entries (pushed_on y count words) (count_on y count) ++ entries_of h.removals ys
        unfolding entries_of pushed_on count_on
        stacked_gone ys l i =
            let fe = g.few in
            let wr = g.words_room in
            let a = entries_push words count k (blocking_of x) (omega arith) in
            let d : y.block ≡ Some (blocking_of x) = block ∙ rw i in
            rw (l, i, d, a, append_assoc (entries words count) ((k, blocking_of x) ∷ []) (entries_of h.removals ys), ← number)

        stacked_live : (ys : List Line) → length ys ≡ c → ltb c h.removals ≡ false
            → entries words count ++ entries_of h.removals (x ∷ ys) ≡ entries (pushed_on y count words) (count_on y count) ++ entries_of h.removals ys
        unfolding entries_of pushed_on count_on
        stacked_live ys l i = let d : y.block ≡ None = block ∙ rw i in rw (l, i, d)

        next_stacked : (ys : List Line) → length ys ≡ c
            → entries_of h.removals ((g.done ++ x ∷ []) ++ ys) ≡ entries (pushed_on y count words) (count_on y count) ++ entries_of h.removals ys
        next_stacked ys l =
            rw (append_assoc g.done (x ∷ []) ys)
            (g.stacked (x ∷ ys) (ap suc l) ∙ by_bool (ltb c h.removals) (stacked_gone ys l) (stacked_live ys l))

        next_few : count_on y count + c ≤ h.clauses
        unfolding count_on
        next_few = let fe = g.few in by_bool (is_some y.block) (λ i. rw i (omega arith)) (λ i. rw i (omega arith))

        next_room : 2 * h.clauses ≤ length (pushed_on y count words)
        unfolding pushed_on
        next_room = room y.block
          where
            room : (o : Option ℕ) → 2 * h.clauses ≤ length (push_block words count k o)
            room None = g.words_room
            room (Some p) = rw (length_push words count k p) g.words_room

        pub state_next : State b h c k (total + (length v / 2 - heads_of K)) (at + (3 + length v)) parts₂ (pushed_on y count words) (count_on y count)
        state_next = record {
          done = g.done ++ x ∷ [];
          met = k ∷ g.met;
          reads = next_reads;
          is_last = refl;
          marks = mark g.met parts k p (let pr = g.parts_room in let mo = most in omega arith) g.marks;
          fresh = λ l j i.
              get_or-set_other parts k j (Some p) None (λ e. absurd (omega arith)) ∙ g.fresh (omega arith) j (let z = rising l in omega arith);
          rows = next_rows;
          stacked = next_stacked;
          few = next_few;
          full = new_full;
          inside = let w = f.within in omega arith;
          within = new_within;
          short = new_short;
          parts_room = rw (length-set parts k (Some p)) g.parts_room;
          words_room = next_room;
        }

-- the same, as the code counts the lines that were read
pub one_left : {b : List ℕ} {h : Head} {read last total at : ℕ} {parts : Parts} {words : List ℕ} {count : ℕ} → read < h.clauses
    → State b h (h.clauses - read) last total at parts words count → State b h (suc (h.clauses - read - 1)) last total at parts words count
one_left {h = h} {read = read} l g = let e : h.clauses - read ≡ suc (h.clauses - read - 1) = omega arith in rw e at g

pub none_left : {b : List ℕ} {h : Head} {read last total at : ℕ} {parts : Parts} {words : List ℕ} {count : ℕ} → h.clauses ≤ read
    → State b h (h.clauses - read) last total at parts words count → State b h 0 last total at parts words count
none_left {h = h} {read = read} l g = let e : h.clauses - read ≡ 0 = omega arith in rw e at g

-- at the end
module _ (b : List ℕ) (h : Head) (last total at : ℕ) (parts : Parts) (words : List ℕ) (count : ℕ) (g : State b h 0 last total at parts words count) where
  pub end_refused : (x : Refusal) → end_tests base narrow h total (drop at b) at ≡ some x → read_lines base narrow h h.clauses [] 0 11 (drop 11 b) ≡ Err x
  unfolding read_lines
  end_refused x e = g.reads ∙ rw e

  row_end : (k : ℕ) (o : Option Part) → row_or b o (literals_of h.removals [] k) ≡ row_in b o
  unfolding literals_of
  row_end k None = refl
  row_end k (Some p) = refl

  pub end_read : end_tests base narrow h total (drop at b) at ≡ none → AllRead b h parts words count
  end_read e = record {
    lines = g.done;
    read = g.reads ∙ unfold read_lines in rw (e, append-nil g.done);
    rows = λ k. ap (λ (xs : List Line). literals_of h.removals xs k) (sym (append-nil g.done)) ∙ g.rows [] k refl ∙ row_end k (get_or parts k None);
    stacked = ap (entries_of h.removals) (sym (append-nil g.done)) ∙ g.stacked [] refl ∙ unfold entries_of in append-nil (entries words count);
    few = let u = g.few in omega arith;
    within = g.within;
  }
