-- The one claim of the table of cases, computed over the definitions. Assumes nothing.
use mathlib.Core.Path.{◌≡◌, refl}
use mathlib.Core.Bool.{true}
use Rattle.rules.specs.Walk.{every_to, least, upto}
use Rattle.rules.specs.Clause.{neg, mem, without, tautology, value, holds, flip}
use Rattle.rules.specs.Blocking.{resists}
use Rattle.rules.specs.Book.{one_to, less, after, bars, obstacle, blocks, fault}
use Rattle.rules.specs.Elimination.{first_reason, turn, turns, sweeps, eliminate, next_blocked}
use Rattle.rules.specs.Rebuild.{mended, walk, fails, falsified}
use Rattle.table.specs.Table.{offset, row, distinct, coded, sound_clause, rises, sound_row, sound}
use Rattle.table.specs.Stack.{entries, words, lay, push}
use Rattle.table.specs.Values.{values_of, bytes_of, bad_byte, bad_value}
use Rattle.table.specs.Answer.{same_reply}
use Rattle.stack.specs.Tests.{entry_names, bad_entry, entry_blocks, unblocked_entry, live_after, check}
use Rattle.removal.specs.Removal.{elimination, removal, question}
use Rattle.rebuild.specs.Rebuild.{rebuilt, rebuilding}
use Rattle.saved.specs.Bytes.{digits, bytes_of as number_bytes, numbers_from, numbers_of}
use Rattle.saved.specs.Field.{field, tag_of, length_of, value_of, whole_field}
use Rattle.saved.specs.Form.{head_bytes, lines_bytes, form_bytes, live_lines, removed_lines, form_of, encode}
use Rattle.saved.specs.Reading.{head_of, head_at, head_limits, line_length, line_limits, new_number, line_sound, line_at, read_lines, read_form, literals_of, all_literals, all_offsets, entries_of, table_of, stack_of}
use Rattle.saved.specs.Saved.{writing, unblocked, unpacked, reading}
use Rattle.cases.specs.Cases.{same_outcome, same_loaded, passes, all_pass, k1, k2, old, done, cases}

pub every_case_passes : all_pass cases ≡ true
unfolding every_to least upto neg mem without tautology value holds flip resists one_to less after bars obstacle blocks fault first_reason turn turns sweeps eliminate next_blocked mended walk fails falsified offset row distinct coded sound_clause rises sound_row sound entries words lay push values_of bytes_of bad_byte bad_value entry_names bad_entry entry_blocks unblocked_entry live_after check elimination removal question rebuilt rebuilding digits number_bytes numbers_from numbers_of field tag_of length_of value_of whole_field head_bytes lines_bytes form_bytes live_lines removed_lines form_of encode head_of head_at head_limits line_length line_limits new_number line_sound line_at read_lines read_form literals_of all_literals all_offsets entries_of table_of stack_of writing unblocked unpacked reading k1 k2 same_reply same_outcome same_loaded passes all_pass old done cases
every_case_passes = refl
