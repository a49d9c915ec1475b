use Rattle.std.proofs.Common.{◌≡◌, take, drop, map}
use Rattle.lines.specs.Numbers.{number_of}
use Rattle.lines.specs.Pieces.{items_of}
use Rattle.lines.proofs.lay_items.Given as goal

abbrev pub invariant-loop-slot : goal.invariant-loop-slot
invariant-loop-slot g l = record {
  len : l.len ≡ l.slot-index;
  left : map (λ s. g.T.Item.cut (number_of s)) (items_of l.left) ≡ drop l.len (map (λ s. g.T.Item.cut (number_of s)) (items_of l.field));
  laid : take l.len l.room ≡ take l.len (map (λ s. g.T.Item.cut (number_of s)) (items_of l.field));
}
