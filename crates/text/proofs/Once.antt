-- No second answer meets the contract of `read_text`; and a refusal leaves both buffers as they came. Assumes nothing.
use mathlib.Core.Path.{◌≡◌, refl, sym, ◌∙◌, ap, ap₂}
use mathlib.Core.List.{List, [], ◌∷◌}
use Prim.Native.Nat.{ℕ}
use Rattle.table.specs.Limits.{base}
use Rattle.table.specs.Answer.{refused}
use Rattle.table.specs.Table.{Table}
use Rattle.table.proofs.Answers.{paper_one_to_one, not_answered}
use Rattle.table.specs.declared.Refusal.{Refusal}
use Rattle.text.specs.declared.Counts.{Counts}
use Rattle.table.specs.Res.{Res, or_fault}
use Rattle.text.specs.Text.{TableOutcome, table_outcome, read_reply, table_of, reader_tests, left, reading}
use Rattle.std.specs.Prelude.{Result, Ok, Err}

-- the answers are told one to one
pub read_one_to_one : (a b : Result Counts Refusal) → read_reply a ≡ read_reply b → a ≡ b
read_one_to_one (Ok a) (Ok b) h =
    let v : a.variables ≡ b.variables = cc in
    let c : a.clauses ≡ b.clauses = cc in
    ap₂ (λ v c. Ok (record { variables = v; clauses = c })) v c
read_one_to_one (Ok a) (Err r) h = absurd (not_answered r (a.variables ∷ a.clauses ∷ []) h)
read_one_to_one (Err r) (Ok b) h = absurd (not_answered r (b.variables ∷ b.clauses ∷ []) (sym h))
read_one_to_one (Err r) (Err q) h = ap (λ x. Err x) (paper_one_to_one r q h)

pub read_text_once : (s lits offs : List ℕ) (a b : Result Counts Refusal) (l o l' o' : List ℕ)
    → table_outcome (read_reply a) l o ≡ reading base s lits offs → table_outcome (read_reply b) l' o' ≡ reading base s lits offs
    → (a ≡ b) × (l ≡ l') × (o ≡ o')
read_text_once s lits offs a b l o l' o' h k =
    let e = h ∙ sym k in
    (read_one_to_one a b (ap (λ (t : TableOutcome). t.reply) e), ap (λ (t : TableOutcome). t.lits) e, ap (λ (t : TableOutcome). t.offs) e)

left_keeps : (t : Res Table) (lits offs : List ℕ) (n p : ℕ) → (left t lits offs).reply ≡ refused n p → ((left t lits offs).lits ≡ lits) × ((left t lits offs).offs ≡ offs)
left_keeps (Err r) lits offs n p h = (refl, refl)
left_keeps (Ok t) lits offs n p h = (cc, cc)

pub read_text_keeps : (s lits offs : List ℕ) (n p : ℕ) → (reading base s lits offs).reply ≡ refused n p
    → ((reading base s lits offs).lits ≡ lits) × ((reading base s lits offs).offs ≡ offs)
unfolding reading
read_text_keeps s lits offs n p h = left_keeps (or_fault (reader_tests base s lits offs) (table_of base s)) lits offs n p h
