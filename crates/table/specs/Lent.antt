-- A table as the code is lent it. Assumes nothing.
use Rattle.table.specs.declared.Table.{Table as LentTable}
use Rattle.table.specs.Table.{Table, table}

-- the table that is lent: its counts, and what its two buffers hold
abbrev pub lent : LentTable → Table
lent t = table t.variables t.clauses t.lits.now t.offs.now
