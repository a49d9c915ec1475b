-- Entries pushed one after the other: a push is two stores, and pushes from an empty stack on lay the entries' words down. Assumes nothing.
use mathlib.Core.Path.{◌≡◌, refl, sym, ◌∙◌, ap, ap₂}
use mathlib.Core.Bool.{Bool, false}
use mathlib.Core.List.{List, [], ◌∷◌, ◌++◌, append_assoc}
use Prim.Native.Nat.{ℕ, suc, ◌+◌, ◌*◌, ◌≤◌, ◌<◌}
use native.Mathlib.Omega.{arith}
use lib.ListN.{length, set, length-append}
use Rattle.rules.specs.Blocking.{literal}
use Rattle.rules.specs.Book.{Entry, after}
use Rattle.rules.proofs.Sweeps.{after_append}
use Rattle.table.specs.Stack.{words, lay, push}
use Rattle.table.proofs.Stacks.{length_push}
use Rattle.index.specs.Index.{live_of}
use Rattle.index.proofs.Marks.{live_less}
use Rattle.removal.specs.Inner.{push_all, Made}

pub push_all_append : (ws : List ℕ) (c : ℕ) (s t : List (Entry literal)) → push_all ws c (s ++ t) ≡ push_all (push_all ws c s) (c + length s) t
unfolding push_all
push_all_append ws c [] t = let z : c ≡ c + 0 = omega arith in ap (λ (n : ℕ). push_all ws n t) z
push_all_append ws c (e ∷ s) t =
    let z : suc c + length s ≡ c + suc (length s) = omega arith in
    push_all_append (push ws c e.0 e.1) (suc c) s t ∙ ap (λ (n : ℕ). push_all (push_all (push ws c e.0 e.1) (suc c) s) n t) z

pub length_push_all : (ws : List ℕ) (c : ℕ) (s : List (Entry literal)) → length (push_all ws c s) ≡ length ws
unfolding push_all
length_push_all ws c [] = refl
length_push_all ws c (e ∷ s) = length_push_all (push ws c e.0 e.1) (suc c) s ∙ length_push ws c e.0 e.1

-- two stores at the seam
set_two : (a : List ℕ) (x y : ℕ) (d : List ℕ) (k l : ℕ) → set (set (a ++ x ∷ y ∷ d) (length a) k) (suc (length a)) l ≡ a ++ k ∷ l ∷ d
set_two [] x y d k l = refl
set_two (z ∷ a) x y d k l = ap (λ (r : List ℕ). z ∷ r) (set_two a x y d k l)

push_seam : (a : List ℕ) (x y : ℕ) (d : List ℕ) (c k l : ℕ) → length a ≡ 2 * c → push (a ++ x ∷ y ∷ d) c k l ≡ (a ++ k ∷ l ∷ []) ++ d
unfolding push
push_seam a x y d c k l h =
    let z : 2 * c + 1 ≡ suc (length a) = omega arith in
    rw (z, ← h, set_two, append_assoc)

-- pushes behind a laid list lay the words down behind it
lay_behind : (a b : List ℕ) (c : ℕ) (s : List (Entry literal)) → length a ≡ 2 * c → 2 * length s ≤ length b → push_all (a ++ b) c s ≡ a ++ lay (words s) b
unfolding push_all words lay
lay_behind a b c [] h r = refl
lay_behind a [] c (e ∷ s) h r = absurd (omega arith)
lay_behind a (x ∷ []) c (e ∷ s) h r = absurd (omega arith)
lay_behind a (x ∷ y ∷ d) c (e ∷ s) h r =
    let z : length (a ++ e.0 ∷ e.1 ∷ []) ≡ 2 * suc c = length-append a (e.0 ∷ e.1 ∷ []) ∙ omega arith in
    ap (λ (ws : List ℕ). push_all ws (suc c) s) (push_seam a x y d c e.0 e.1 h)
    ∙ lay_behind (a ++ e.0 ∷ e.1 ∷ []) d (suc c) s z (omega arith)
    ∙ append_assoc a (e.0 ∷ e.1 ∷ []) (lay (words s) d)

pub push_all_lay : (ws : List ℕ) (s : List (Entry literal)) → 2 * length s ≤ length ws → push_all ws 0 s ≡ lay (words s) ws
push_all_lay ws s h = lay_behind [] ws 0 s refl h

-- removals made: none, one, and some after others
pub made_none : {marks : List Bool} {ws : List ℕ} {c : ℕ} → Made [] marks ws c marks ws c
unfolding push_all after
made_none {marks} {ws} {c} = record { count = omega arith; stack = refl; live = refl }

pub made_one : {marks : List Bool} {ws : List ℕ} {c : ℕ} (k l : ℕ) → k < length marks → Made ((k, l) ∷ []) marks ws c (set marks k false) (push ws c k l) (c + 1)
unfolding push_all after
made_one {marks} {ws} {c} k l h = record { count = omega arith; stack = refl; live = live_less marks k h }

pub made_more : {s t : List (Entry literal)} {marks : List Bool} {ws : List ℕ} {c : ℕ} {marks' : List Bool} {ws' : List ℕ} {r : ℕ} {marks'' : List Bool} {ws'' : List ℕ} {r' : ℕ}
    → Made s marks ws c marks' ws' r → Made t marks' ws' r marks'' ws'' r' → Made (s ++ t) marks ws c marks'' ws'' r'
made_more {s} {t} {marks} {ws} {c} {marks'} {ws'} {r} {marks''} {ws''} {r'} a b =
    record {
      count = simp length-append (omega (arith, a.count, b.count));
      stack = b.stack ∙ ap₂ (λ (us : List ℕ) (n : ℕ). push_all us n t) a.stack a.count ∙ sym (push_all_append ws c s t);
      live = b.live ∙ ap (λ (L : ℕ → Bool). after literal L t) a.live ∙ sym (after_append literal (record { count = 0; clause = λ k. [] }) (live_of marks) s t);
    }
