-- Each turn lays the next item down, and an empty text ends the items.
use Rattle.std.proofs.Common.{◌≡◌, ◌<◌, ◌≤◌, ◌∷◌, [], length, map, take, set, sym, ap, ◌∙◌, arith, ℕ, List}
use Rattle.std.proofs.lemmas.List.{length-set, set-get_or, take_all}
use Rattle.lines.specs.Numbers.{number_of}
use Rattle.lines.specs.Pieces.{items_of}
use Rattle.lines.proofs.Items.{at_true, at_false, laid_more, laid_all}
use Rattle.lines.proofs.lay_items.Goals as goal

pub loop-slot-preserved : goal.loop-slot-preserved
loop-slot-preserved g c =
    let e = at_false _ _ _ _ c.parted.ensures (sym c.is_empty.ensures ∙ c.if-is_empty.false) in
    let f : List ℕ → g.row.T.Denot = λ s. g.T.Item.cut (number_of s) in
    let v : c.of.result ≡ f c.parted.result.0.now = c.of.ensures ∙ ap g.T.Item.cut c.number.ensures in
    let d : c.of.result ∷ map f (items_of c.parted.result.1.now) ≡ map f (items_of c.loop-slot.left.now) = rw (e, v) in
    let i = c.loop-slot.invariant in
    let h : c.loop-slot.len < length c.loop-slot.room = omega (arith, i.len) in
    let m = laid_more c.loop-slot.room (map f (items_of c.args.field.now)) (map f (items_of c.parted.result.1.now)) c.loop-slot.len c.of.result h (d ∙ i.left) i.laid in
    record { len = omega (arith, i.len); left = m.0; laid = rw (sym i.len) m.1 }

pub returns-after-loop-slot-clause-laid : goal.returns-after-loop-slot-clause-laid
returns-after-loop-slot-clause-laid g c =
    let f : List ℕ → g.row.T.Denot = λ s. g.T.Item.cut (number_of s) in
    let i = c.loop-slot.invariant in
    let n : c.loop-slot.len ≡ length c.loop-slot.room = omega (arith, i.len) in
    i.laid ∙ ap (λ n. take n (map f (items_of c.args.field.now))) n

pub returns-then-is_empty-clause-laid : goal.returns-then-is_empty-clause-laid
returns-then-is_empty-clause-laid g c =
    let e = at_true _ _ _ _ c.parted.ensures (sym c.is_empty.ensures ∙ c.if-is_empty.true) in
    let f : List ℕ → g.row.T.Denot = λ s. g.T.Item.cut (number_of s) in
    let i = c.loop-slot.invariant in
    let d : [] ≡ map f (items_of c.loop-slot.left.now) = sym (ap (map f) e) in
    let h : c.loop-slot.len ≤ length c.loop-slot.room = omega (arith, i.len) in
    let m = laid_all c.loop-slot.room (map f (items_of c.args.field.now)) c.loop-slot.len h (d ∙ i.left) i.laid in
    rw set-get_or m
