use Rattle.std.proofs.Common.{refl, arith}
use Rattle.table.specs.Table.{row, offset}
use Rattle.table.proofs.Soundness.{climb}
use Rattle.table.proofs.Table.row.Goals as goal

pub slice_bounds-result-count : goal.slice_bounds-result-count
unfolding offset
slice_bounds-result-count c = climb _ c.requires.shape _ _ (omega arith) (omega arith)

pub slice_bounds-result-start : goal.slice_bounds-result-start
unfolding offset
slice_bounds-result-start c = climb _ c.requires.shape _ _ (omega arith) (omega arith)

pub slice_bounds-result-end : goal.slice_bounds-result-end
unfolding offset
slice_bounds-result-end c = c.requires.shape.inside _ (omega arith)

pub returns : goal.returns
unfolding row offset
returns c = record { contents = refl; buffer = refl; start = refl }
