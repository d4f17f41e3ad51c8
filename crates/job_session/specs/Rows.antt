-- The table of the rows of a session's wires.
use Rattle.std.specs.Prelude.{◌≡◌, ◌+◌}
use Rattle.session_slots.specs.Sessions.{Session}
use Rattle.session_slots.specs.KeptWires.{IsRowTable, live}
use Rattle.job_session.specs.declared.row_table.RowTable.{RowTable}

-- the table gives each wire its row, and has a row more than wires are kept at most
abbrev pub IsRows : Session → RowTable → Type 0
IsRows s table = IsRowTable s table.rows.items × (table.count ≡ live s + 1)
