-- The desk that turns and sweeps work at: it stays in order, one more turn or sweep carries on what was made, and the sweeps end. Assumes nothing.
use mathlib.Core.Path.{◌≡◌, refl, sym, ◌∙◌, ap, subst}
use mathlib.Core.Bool.{Bool, true, false}
use Rattle.std.specs.Prelude.{None, Some}
use mathlib.Core.List.{List, [], ◌∷◌, ◌++◌, append_assoc}
use Prim.Native.Nat.{ℕ, zero, suc, ◌+◌, ◌-◌, ◌*◌, ◌≤◌, ◌<◌}
use native.Mathlib.Omega.{arith}
use native.Mathlib.Numerals.{add-one}
use lib.ListN.{length, set, length-set}
use Rattle.rules.specs.Blocking.{literal}
use Rattle.rules.specs.Book.{Entry, one_to, after, valid}
use Rattle.rules.specs.Elimination.{turn, turns, sweeps, eliminate}
use Rattle.rules.proofs.Laws.{all_within, after_in}
use Rattle.rules.proofs.Sweeps.{tally, tally_le, removed, turn_valid, sweeps_valid, sweeps_end, sweeps_more}
use Rattle.table.specs.Limits.{base}
use Rattle.table.specs.Table.{Table, book_of, sound}
use Rattle.table.proofs.Soundness.{sound_of}
use Rattle.table.specs.Stack.{words, lay, push}
use Rattle.index.specs.Index.{live_of, entry_of}
use Rattle.index.proofs.Marks.{live_within}
use Rattle.removal.specs.Inner.{Roomy, Made}
use Rattle.removal.proofs.Pushes.{length_push_all, push_all_lay, made_none, made_one, made_more}

module _ (t : Table) where
  pub desk_few : {marks : List Bool} {ws : List ℕ} {c : ℕ} → Roomy t marks ws c → t.clauses ≤ 4000
  desk_few d = (sound_of t d.table_sound).clauses

  -- a turn that found no literal makes nothing, one that found l makes the entry of k and l
  pub turn_none : {marks : List Bool} {ws : List ℕ} {c : ℕ} (k : ℕ) → entry_of k None ≡ turn literal (book_of t) (live_of marks) k
      → Made (turn literal (book_of t) (live_of marks) k) marks ws c marks ws c
  turn_none {marks} {ws} {c} k e = subst (λ (s : List (Entry literal)). Made s marks ws c marks ws c) e made_none

  pub turn_made : {marks : List Bool} {ws : List ℕ} {c : ℕ} (k l : ℕ) → entry_of k (Some l) ≡ turn literal (book_of t) (live_of marks) k → k < length marks
      → Made (turn literal (book_of t) (live_of marks) k) marks ws c (set marks k false) (push ws c k l) (c + 1)
  turn_made {marks} {ws} {c} k l e h =
      subst (λ (s : List (Entry literal)). Made s marks ws c (set marks k false) (push ws c k l) (c + 1)) e (made_one k l h)

  -- a clause that goes was live, and so there is room for it
  pub live_room : {marks : List Bool} {ws : List ℕ} {c : ℕ} (k l : ℕ) → Roomy t marks ws c
      → entry_of k (Some l) ≡ turn literal (book_of t) (live_of marks) k → c < t.clauses
  live_room {marks} {ws} {c} k l d e =
      let one : valid literal (book_of t) (live_of marks) ((k, l) ∷ []) ≡ true =
      subst (λ (s : List (Entry literal)). valid literal (book_of t) (live_of marks) s ≡ true) (sym e) (turn_valid literal (book_of t) (live_of marks) k) in
      omega (arith, d.balance, removed literal (book_of t) (live_of marks) ((k, l) ∷ []) d.own.within one)

  -- valid removals keep the desk in order
  pub desk_kept : {marks : List Bool} {ws : List ℕ} {c : ℕ} {marks' : List Bool} {ws' : List ℕ} {r : ℕ} (s : List (Entry literal))
      → Roomy t marks ws c → valid literal (book_of t) (live_of marks) s ≡ true → Made s marks ws c marks' ws' r → length marks' ≡ length marks
      → Roomy t marks' ws' r
  desk_kept {marks} {ws} {c} {marks'} {ws'} {r} s d v made same =
      let less : tally (live_of marks) t.clauses ≡ length s + tally (live_of marks') t.clauses =
      rw made.live (removed literal (book_of t) (live_of marks) s d.own.within v) in
      let wide : length ws' ≡ length ws = ap (λ (us : List ℕ). length us) made.stack ∙ length_push_all ws c s in
      record {
        table_sound = d.table_sound;
        own = record {
          many = rw same d.own.many;
          within = λ k h. d.own.within k (after_in literal (book_of t) (live_of marks) s k (rw made.live at h));
        };
        room = rw wide d.room;
        balance = omega (arith, d.balance, made.count);
      }

  -- a turn that found l, once its clause is marked and once its entry is on the stack too
  module _ {marks : List Bool} {ws : List ℕ} {c : ℕ} (k l : ℕ) (d : Roomy t marks ws c) (e : entry_of k (Some l) ≡ turn literal (book_of t) (live_of marks) k)
      (there : k < length marks) where
    pub turn_pushed : Roomy t (set marks k false) (push ws c k l) (c + 1)
    turn_pushed =
        desk_kept (turn literal (book_of t) (live_of marks) k) d (turn_valid literal (book_of t) (live_of marks) k) (turn_made k l e there)
        (length-set marks k false)

    pub turn_marked : Roomy t (set marks k false) ws c
    turn_marked = record { table_sound = d.table_sound; own = turn_pushed.own; room = d.room; balance = omega (arith, turn_pushed.balance) }

  -- the turns of the clauses 1 to k, and one turn more
  pub turns_none : {marks : List Bool} {ws : List ℕ} {c : ℕ} → Made (turns literal (book_of t) (live_of marks) 0) marks ws c marks ws c
  unfolding turns
  turns_none = made_none

  pub turns_next : {marks : List Bool} {ws : List ℕ} {c : ℕ} {marks' : List Bool} {ws' : List ℕ} {r : ℕ} {marks'' : List Bool} {ws'' : List ℕ} {r' : ℕ} (k : ℕ)
      → Made (turns literal (book_of t) (live_of marks) k) marks ws c marks' ws' r
      → Made (turn literal (book_of t) (live_of marks') (k + 1)) marks' ws' r marks'' ws'' r'
      → Made (turns literal (book_of t) (live_of marks) (k + 1)) marks ws c marks'' ws'' r'
  unfolding turns
  turns_next k a b = rw add-one (made_more a (rw (add-one, a.live) at b))

  pub turns_end : {marks : List Bool} {ws : List ℕ} {c : ℕ} {marks' : List Bool} {ws' : List ℕ} {r : ℕ} (k : ℕ) → k ≤ t.clauses → t.clauses ≤ k
      → Made (turns literal (book_of t) (live_of marks) k) marks ws c marks' ws' r
      → Made (turns literal (book_of t) (live_of marks) t.clauses) marks ws c marks' ws' r
  turns_end k a b made = let e : k ≡ t.clauses = omega arith in rw e at made

  -- the outer loop: what was made so far, and that the sweeps left are enough
  pub record Left (marks : List Bool) (ws : List ℕ) (marks' : List Bool) (ws' : List ℕ) (c : ℕ) : Type 0 where
    pub fuel : ℕ
    pub done : List (Entry literal)
    pub enough : t.clauses < fuel + c
    pub made : Made done marks ws 0 marks' ws' c
    pub rest : sweeps literal (book_of t) (suc t.clauses) (live_of marks) ≡ done ++ sweeps literal (book_of t) fuel (live_of marks')

  pub left_start : {marks : List Bool} {ws : List ℕ} → Left marks ws marks ws 0
  left_start = record { fuel = suc t.clauses; done = []; enough = omega arith; made = made_none; rest = refl }

  module _ {marks' : List Bool} {ws' : List ℕ} {marks'' : List Bool} {ws'' : List ℕ} {c r : ℕ} (d : Roomy t marks' ws' c) (kept : Roomy t marks'' ws'' r)
      (made : Made (turns literal (book_of t) (live_of marks') t.clauses) marks' ws' c marks'' ws'' r) where
    pub left_more : {marks : List Bool} {ws : List ℕ} → (r ≡ c → ⊥) → Left marks ws marks' ws' c → Left marks ws marks'' ws'' r
    left_more {marks} {ws} n l = go l.fuel l.enough l.rest
      where
        go : (f : ℕ) → t.clauses < f + c → sweeps literal (book_of t) (suc t.clauses) (live_of marks) ≡ l.done ++ sweeps literal (book_of t) f (live_of marks')
            → Left marks ws marks'' ws'' r
        go zero e s = absurd (omega (arith, d.balance))
        go (suc f) e s = record {
          fuel = f;
          done = l.done ++ turns literal (book_of t) (live_of marks') t.clauses;
          enough = omega (arith, made.count);
          made = made_more l.made made;
          rest = s ∙ rw (sweeps_more literal (book_of t) f (live_of marks'), ← made.live, append_assoc);
        }

    pub left_less : (r ≡ c → ⊥) → t.clauses - r < t.clauses - c
    left_less n = omega (arith, kept.balance, made.count)

    pub left_end : {marks : List Bool} {ws : List ℕ} → r ≡ c → Left marks ws marks' ws' c
        → Made (sweeps literal (book_of t) (suc t.clauses) (live_of marks)) marks ws 0 marks'' ws'' r
    left_end {marks} {ws} q l =
        let none : turns literal (book_of t) (live_of marks') t.clauses ≡ [] = empty _ (omega (arith, made.count)) in
        subst (λ (s : List (Entry literal)). Made s marks ws 0 marks'' ws'' r)
        (sym (l.rest ∙ rw (sweeps_end literal (book_of t) l.fuel (live_of marks') none, none)))
        (made_more l.made made)
      where
        empty : (s : List (Entry literal)) → length s ≡ 0 → s ≡ []
        empty [] h = refl
        empty (e ∷ s) h = absurd (omega arith)

  -- elimination: every clause is marked at first, and what was made is laid down from the stack's first word on
  pub desk_start : {marks : List Bool} {ws : List ℕ} → sound base t ≡ true → 2 * t.clauses ≤ length ws
      → length marks ≡ 4001 → live_of marks ≡ one_to t.clauses → Roomy t marks ws 0
  unfolding after
  desk_start {marks} {ws} h r l m = record {
    table_sound = h;
    own = record { many = omega (arith, (sound_of t h).clauses); within = live_within t.clauses marks [] m };
    room = r;
    balance = omega (arith, tally_le (live_of marks) t.clauses);
  }

  pub eliminated : {marks : List Bool} {ws : List ℕ} {marks' : List Bool} {ws' : List ℕ} {r : ℕ} → live_of marks ≡ one_to t.clauses → 2 * t.clauses ≤ length ws
      → Made (sweeps literal (book_of t) (suc t.clauses) (live_of marks)) marks ws 0 marks' ws' r
      → (r ≡ length (eliminate literal (book_of t))) × (ws' ≡ lay (words (eliminate literal (book_of t))) ws)
  unfolding eliminate
  eliminated {marks} {ws} {marks'} {ws'} {r} e h made =
      let s : List (Entry literal) = sweeps literal (book_of t) (suc t.clauses) (one_to t.clauses) in
      let few : tally (one_to t.clauses) t.clauses ≡ length s + tally (after literal (one_to t.clauses) s) t.clauses =
      removed literal (book_of t) (one_to t.clauses) s (all_within (book_of t)) (sweeps_valid literal (book_of t) (suc t.clauses) (one_to t.clauses)) in
      let all : Made s marks ws 0 marks' ws' r = rw e at made in
      (omega (arith, all.count), all.stack ∙ push_all_lay ws s (omega (arith, tally_le (one_to t.clauses) t.clauses)))
