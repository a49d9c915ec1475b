-- The lines of a form in their two parts, the live clauses' and then the removed ones': what acceptance asks, said of each part. Assumes nothing.
use mathlib.Core.Path.{◌≡◌, refl, sym, ap, ◌∙◌}
use mathlib.Core.Bool.{true, false}
use mathlib.Core.List.{List, [], ◌∷◌, ◌++◌}
use mathlib.Core.Logic.{◌≢◌, ◌⊎◌, inl, inr, ⊎_elim}
use Prim.Native.Nat.{ℕ, suc, ◌+◌, ◌-◌, ◌*◌, ◌≤◌, ◌<◌}
use native.Mathlib.Nat.{mul-zero, mul-suc}
use native.Mathlib.Omega.{arith}
use lib.ListN.{length, get_or, take, drop, length-append, length-drop, take-append-drop}
use lib.Seq.{length-take-le}
use borrow.Author.Tests.{lt-ltb, le-ltb, ltb-true, not-true}
use Rattle.rules.specs.Clause.{mem}
use Rattle.rules.specs.Blocking.{literal}
use Rattle.rules.specs.Book.{Entry}
use Rattle.rules.proofs.Logic.{differ, not_false}
use Rattle.rules.proofs.Members.{mem_nil, mem_here, mem_skip, mem_cons, mem_append, mem_other, mem_not}
use Rattle.table.specs.Limits.{Limits}
use Rattle.saved.specs.Field.{Layout}
use Rattle.saved.specs.Form.{Head, Line, Form, number_of, blocking_of, heads_at}
use Rattle.saved.specs.Reading.{new_number, entries_of}
use Rattle.saved.proofs.Places.{New}
use Rattle.saved.proofs.Named.{named}
use Rattle.saved.proofs.Lengths.{numbers_in}
use Rattle.saved.proofs.Accepted.{GoodHead, GoodLine, GoodForm, Each, Newly, literals_in}

-- the numbers of the lines' clauses
unfoldable pub numbers : List Line → List ℕ
numbers [] = []
numbers (x ∷ xs) = number_of x ∷ numbers xs

pub length_numbers : (xs : List Line) → length (numbers xs) ≡ length xs
unfolding numbers
length_numbers [] = refl
length_numbers (x ∷ xs) = ap suc (length_numbers xs)

pub numbers_join : (xs ys : List Line) → numbers (xs ++ ys) ≡ numbers xs ++ numbers ys
unfolding numbers
numbers_join [] ys = refl
numbers_join (x ∷ xs) ys = rw (numbers_join xs ys)

-- the entries of lines
unfoldable pub entries_in : List Line → List (Entry literal)
entries_in [] = []
entries_in (x ∷ xs) = (number_of x, blocking_of x) ∷ entries_in xs

pub named_entries : (xs : List Line) → named (entries_in xs) ≡ numbers xs
unfolding named entries_in numbers
named_entries [] = refl
named_entries (x ∷ xs) = rw (named_entries xs)

pub length_entries : (xs : List Line) → length (entries_in xs) ≡ length xs
unfolding entries_in
length_entries [] = refl
length_entries (x ∷ xs) = ap suc (length_entries xs)

-- good lines of one kind
abbrev pub Alike : Limits → Head → ℕ → List Line → Type 0
Alike lim h heads [] = Unit {0}
Alike lim h heads (x ∷ xs) = GoodLine lim h heads x × Alike lim h heads xs

-- lines whose numbers rise from above lo on
abbrev pub Rising : ℕ → List Line → Type 0
Rising lo [] = Unit {0}
Rising lo (x ∷ xs) = (lo < number_of x) × Rising (number_of x) xs

-- lines whose numbers were not met
abbrev pub Unmet : List ℕ → List Line → Type 0
Unmet met [] = Unit {0}
Unmet met (x ∷ xs) = (mem (number_of x) met ≡ false) × Unmet (number_of x ∷ met) xs

-- the numbers met after lines
unfoldable pub onto : List Line → List ℕ → List ℕ
onto [] met = met
onto (x ∷ xs) met = onto xs (number_of x ∷ met)

-- the literals of lines of one kind
unfoldable pub literals_after : ℕ → List Line → ℕ
literals_after heads [] = 0
literals_after heads (x ∷ xs) = (length x - heads) + literals_after heads xs

pub all_numbers : (lim : Limits) (h : Head) (heads : ℕ) (xs : List Line) → Alike lim h heads xs → literals_after heads xs + heads * length xs ≡ numbers_in xs
unfolding literals_after numbers_in
all_numbers lim h heads [] e = omega (arith, mul-zero heads)
all_numbers lim h heads (x ∷ xs) e =
    let i = all_numbers lim h heads xs e.1 in
    let l = e.0.long in
    let m = mul-suc heads (length xs) in
    omega arith

pub record Parted (lim : Limits) (h : Head) (ls gs : List Line) : Type 0 where
  pub gone_count : length gs ≡ h.removals
  pub count : length ls + length gs ≡ h.clauses
  pub live : Alike lim h 1 ls
  pub gone : Alike lim h 2 gs
  pub rising : Rising 0 ls
  pub unmet : Unmet (onto ls []) gs
  pub total : literals_after 1 ls + literals_after 2 gs ≡ h.literals

-- the kinds of the lines
heads_gone : (c r : ℕ) → c < r → heads_at c r ≡ 2
heads_gone c r l = rw (lt-ltb c r l)

heads_live : (ls gs : List Line) (r : ℕ) → length gs ≡ r → heads_at (length (ls ++ gs)) r ≡ 1
heads_live ls gs r e = rw (le-ltb (length (ls ++ gs)) r (omega (arith, length-append ls gs)))

module _ (lim : Limits) (h : Head) (r : ℕ) where
  each_gone : (gs : List Line) → length gs ≤ r → Alike lim h 2 gs → Each lim h r gs
  each_gone [] l e = tt
  each_gone (x ∷ gs) l e = (rw (heads_gone (length gs) r (omega arith)) e.0, each_gone gs (omega arith) e.1)

  gone_each : (gs : List Line) → length gs ≤ r → Each lim h r gs → Alike lim h 2 gs
  gone_each [] l e = tt
  gone_each (x ∷ gs) l e = (rw (heads_gone (length gs) r (omega arith)) at e.0, gone_each gs (omega arith) e.1)

  pub each_join : (ls gs : List Line) → length gs ≡ r → Alike lim h 1 ls → Alike lim h 2 gs → Each lim h r (ls ++ gs)
  each_join [] gs n a b = each_gone gs (omega arith) b
  each_join (x ∷ ls) gs n a b = (rw (heads_live ls gs r n) a.0, each_join ls gs n a.1 b)

  each_part : (ls gs : List Line) → length gs ≡ r → Each lim h r (ls ++ gs) → Alike lim h 1 ls × Alike lim h 2 gs
  each_part [] gs n e = (tt, gone_each gs (omega arith) e)
  each_part (x ∷ ls) gs n e = let i = each_part ls gs n e.1 in ((rw (heads_live ls gs r n) at e.0, i.0), i.1)

module _ (lim : Limits) (lay : Layout) (r : ℕ) where
  newly_gone : (gs : List Line) (met : List ℕ) → length gs ≤ r → Unmet met gs → Newly lim lay r met gs
  unfolding new_number
  newly_gone [] met l e = tt
  newly_gone (x ∷ gs) met l e = (rw (heads_gone (length gs) r (omega arith), e.0), newly_gone gs (number_of x ∷ met) (omega arith) e.1)

  gone_newly : (gs : List Line) (met : List ℕ) → length gs ≤ r → Newly lim lay r met gs → Unmet met gs
  unfolding new_number
  gone_newly [] met l e = tt
  gone_newly (x ∷ gs) met l e =
      (not-true _ (rw (heads_gone (length gs) r (omega arith)) at e.0), gone_newly gs (number_of x ∷ met) (omega arith) e.1)

  newly_join : (ls gs : List Line) (met : List ℕ) → length gs ≡ r → Rising (get_or met 0 0) ls → Unmet (onto ls met) gs → Newly lim lay r met (ls ++ gs)
  unfolding new_number onto
  newly_join [] gs met n a b = newly_gone gs met (omega arith) b
  newly_join (x ∷ ls) gs met n a b =
      (rw (heads_live ls gs r n, lt-ltb (get_or met 0 0) (number_of x) a.0), newly_join ls gs (number_of x ∷ met) n a.1 b)

  newly_part : (ls gs : List Line) (met : List ℕ) → length gs ≡ r → Newly lim lay r met (ls ++ gs) → Rising (get_or met 0 0) ls × Unmet (onto ls met) gs
  unfolding new_number onto
  newly_part [] gs met n e = (tt, gone_newly gs met (omega arith) e)
  newly_part (x ∷ ls) gs met n e =
      let i = newly_part ls gs (number_of x ∷ met) n e.1 in
      ((ltb-true (get_or met 0 0) (number_of x) (rw (heads_live ls gs r n) at e.0), i.0), i.1)

module _ (r : ℕ) where
  literals_gone : (gs : List Line) → length gs ≤ r → literals_in r gs ≡ literals_after 2 gs
  unfolding literals_in literals_after
  literals_gone [] l = refl
  literals_gone (x ∷ gs) l = rw (heads_gone (length gs) r (omega arith), literals_gone gs (omega arith))

  pub literals_join : (ls gs : List Line) → length gs ≡ r → literals_in r (ls ++ gs) ≡ literals_after 1 ls + literals_after 2 gs
  unfolding literals_in literals_after
  literals_join [] gs n = omega (arith, literals_gone gs (omega arith))
  literals_join (x ∷ ls) gs n = rw (heads_live ls gs r n) (omega (arith, literals_join ls gs n))

  entries_gone : (gs : List Line) → length gs ≤ r → entries_of r gs ≡ entries_in gs
  unfolding entries_of entries_in
  entries_gone [] l = refl
  entries_gone (x ∷ gs) l = rw (lt-ltb (length gs) r (omega arith), entries_gone gs (omega arith))

  pub entries_join : (ls gs : List Line) → length gs ≡ r → entries_of r (ls ++ gs) ≡ entries_in gs
  unfolding entries_of
  entries_join [] gs n = entries_gone gs (omega arith)
  entries_join (x ∷ ls) gs n = rw (le-ltb (length (ls ++ gs)) r (omega (arith, length-append ls gs))) (entries_join ls gs n)

-- the two parts of a form
abbrev pub lives : Form → List Line
lives f = take (f.head.clauses - f.head.removals) f.lines

abbrev pub gones : Form → List Line
gones f = drop (f.head.clauses - f.head.removals) f.lines

-- an accepted form is two such parts, and two such parts are an accepted form
abbrev pub joined : Head → List Line → List Line → Form
joined h ls gs = record { head = h; lines = ls ++ gs }

module _ (lim : Limits) (lay : Layout) where
  pub good_joined : (h : Head) (ls gs : List Line) → GoodHead lim h → Parted lim h ls gs → GoodForm lim lay (joined h ls gs)
  good_joined h ls gs g p = record {
    head = g;
    count = length-append ls gs ∙ p.count;
    each = each_join lim h h.removals ls gs p.gone_count p.live p.gone;
    new = newly_join lim lay h.removals ls gs [] p.gone_count p.rising p.unmet;
    total = literals_join h.removals ls gs p.gone_count ∙ p.total;
  }

  pub good_parted : (f : Form) → GoodForm lim lay f → Parted lim f.head (lives f) (gones f)
  good_parted f g =
      let h = f.head in
      let r = h.removals in
      let e = take-append-drop (h.clauses - r) f.lines in
      let u = g.head.removals in
      let c = g.count in
      let n : length (gones f) ≡ r = simp length-drop (omega arith) in
      let m : length (lives f) ≡ h.clauses - r = length-take-le (h.clauses - r) f.lines (omega arith) in
      let a = each_part lim h r (lives f) (gones f) n (rw e g.each) in
      let b = newly_part lim lay r (lives f) (gones f) [] n (rw e g.new) in
      let t : literals_in r (lives f ++ gones f) ≡ h.literals = rw e g.total in
      record {
        gone_count = n;
        count = omega arith;
        live = a.0;
        gone = a.1;
        rising = b.0;
        unmet = b.1;
        total = sym (literals_join r (lives f) (gones f) n) ∙ t;
      }

-- the numbers of two parts are new
pub rising_above : (lo : ℕ) (ls : List Line) (k : ℕ) → Rising lo ls → mem k (numbers ls) ≡ true → lo < k
unfolding numbers
rising_above lo [] k h m = differ m (mem_nil k)
rising_above lo (x ∷ ls) k h m =
    ⊎_elim (λ e. rw e h.0) (λ y. let a = rising_above (number_of x) ls k h.1 y in let b = h.0 in omega arith) (mem_cons k (number_of x) (numbers ls) m)

-- a number met before is not among the unmet ones
fresh : (xs : List Line) (met : List ℕ) (k : ℕ) → mem k met ≡ true → Unmet met xs → mem k (numbers xs) ≡ false
unfolding numbers
fresh [] met k m u = mem_nil k
fresh (x ∷ xs) met k m u =
    let n : k ≢ number_of x = λ e. differ m (rw e u.0) in
    mem_other k (number_of x) (numbers xs) n ∙ fresh xs (number_of x ∷ met) k (mem_skip k (number_of x) met m) u.1

onto_keeps : (xs : List Line) (met : List ℕ) (k : ℕ) → mem k met ≡ true → mem k (onto xs met) ≡ true
unfolding onto
onto_keeps [] met k m = m
onto_keeps (x ∷ xs) met k m = onto_keeps xs (number_of x ∷ met) k (mem_skip k (number_of x) met m)

pub onto_from : (xs : List Line) (met : List ℕ) (k : ℕ) → mem k (onto xs met) ≡ true → (mem k met ≡ true) ⊎ (mem k (numbers xs) ≡ true)
unfolding onto numbers
onto_from [] met k m = inl m
onto_from (x ∷ xs) met k m =
    ⊎_elim
    (λ y. ⊎_elim (λ e. inr (rw e (mem_here (number_of x) (numbers xs)))) (λ z. inl z) (mem_cons k (number_of x) met y))
    (λ y. inr (mem_skip k (number_of x) (numbers xs) y))
    (onto_from xs (number_of x ∷ met) k m)

module _ (lim : Limits) (h : Head) where
  pub new_gone : (heads : ℕ) (gs : List Line) (met : List ℕ) → Alike lim h heads gs → Unmet met gs → New h.clauses (numbers gs)
  unfolding numbers
  new_gone heads [] met a u = tt
  new_gone heads (x ∷ gs) met a u =
      (fresh gs (number_of x ∷ met) (number_of x) (mem_here (number_of x) met) u.1, a.0.low, a.0.high, new_gone heads gs (number_of x ∷ met) a.1 u.1)

  pub new_all : (lo : ℕ) (ls gs : List Line) (met : List ℕ) → Alike lim h 1 ls → Alike lim h 2 gs → Rising lo ls → Unmet (onto ls met) gs
      → New h.clauses (numbers (ls ++ gs))
  unfolding numbers onto
  new_all lo [] gs met a b c u = new_gone 2 gs met b u
  new_all lo (x ∷ ls) gs met a b c u =
      let n : mem (number_of x) (numbers (ls ++ gs)) ≡ false =
      not_false _ (λ m. ⊎_elim
      (λ y. let l = rising_above (number_of x) ls (number_of x) c.1 y in absurd (omega arith))
      (λ y. differ y (fresh gs (onto ls (number_of x ∷ met)) (number_of x) (onto_keeps ls (number_of x ∷ met) (number_of x) (mem_here (number_of x) met)) u))
      (mem_append (number_of x) (numbers ls) (numbers gs) (rw (numbers_join ls gs) at m))) in
      (n, a.0.low, a.0.high, new_all (number_of x) ls gs (number_of x ∷ met) a.1 b c.1 u)

-- and new numbers that were not met are unmet
pub unmet_new : (m : ℕ) (gs : List Line) (met : List ℕ) → New m (numbers gs) → ((k : ℕ) → mem k met ≡ true → mem k (numbers gs) ≡ false) → Unmet met gs
unfolding numbers
unmet_new m [] met n u = tt
unmet_new m (x ∷ gs) met n u = (
  not_false _ (λ y. differ (mem_here (number_of x) (numbers gs)) (u (number_of x) y)),
  unmet_new m gs (number_of x ∷ met) n.3
      (λ k y. ⊎_elim (λ e. rw e n.0) (λ z. (mem_not k (number_of x) (numbers gs) (u k z)).1) (mem_cons k (number_of x) met y)),
)
