-- No second answer meets the contract of `next_token`. Assumes nothing.
use mathlib.Core.Path.{◌≡◌, refl, sym, ◌∙◌, ap, ap₂}
use mathlib.Core.List.{List}
use Prim.Native.Nat.{ℕ, ◌-◌, ◌<◌, ◌≤◌}
use native.Mathlib.Omega.{arith}
use lib.ListN.{length, drop, length-drop}
use lib.Seq.{length-take-le}
use Rattle.std.specs.Prelude.{Option, Some, None}
use Rattle.words.specs.declared.Section.{Section}
use Rattle.words.specs.declared.Span.{Span}
use Rattle.words.specs.Tokens.{Token}
use Rattle.words.specs.Inner.{part, tokens_left, Next}

-- the length of a part
length_part : (s : List ℕ) (a e : ℕ) → a < e → e ≤ length s → length (part s a e) ≡ e - a
length_part s a e l h = length-take-le (e - a) (drop a s) (simp length-drop (omega arith))

pub next_token_once : (section : Section) (s : List ℕ) (start : ℕ) (a b : Option Span) → Next section s start a → Next section s start b → a ≡ b
next_token_once section s start a b h k = go a b (sym h.same ∙ k.same) h k
  where
    go : (a b : Option Span) → tokens_left section s a ≡ tokens_left section s b → Next section s start a → Next section s start b → a ≡ b
    go (Some t) (Some u) w h k =
        let first : ◌≡◌ {A = Token} (record { place = t.place; bytes = part s t.place t.end }) (record { place = u.place; bytes = part s u.place u.end }) = cc in
        let same_place : t.place ≡ u.place = ap (λ (x : Token). x.place) first in
        let same_bytes : part s t.place t.end ≡ part s u.place u.end = ap (λ (x : Token). x.bytes) first in
        let n : length (part s t.place t.end) ≡ length (part s u.place u.end) = ap length same_bytes in
        let same_end : t.end ≡ u.end = omega (arith, length_part s t.place t.end h.placed.1 h.placed.2, length_part s u.place u.end k.placed.1 k.placed.2) in
        ap₂ (λ p e. Some (record { place = p; end = e })) same_place same_end
    go (Some t) None w h k = cc
    go None (Some u) w h k = cc
    go None None w h k = refl
