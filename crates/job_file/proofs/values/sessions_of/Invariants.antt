use Rattle.std.proofs.Common.{◌≡◌, ◌++◌, map, drop, length}
use Rattle.std.specs.List.{enumerate_from}
use Rattle.toml.specs.View.{view}
use Rattle.toml_fields.specs.Fields.{fields_of}
use Rattle.job_file.specs.Forms.{session_form, session_forms}
use Rattle.job_file.specs.Jobs.{session_view, AreSessions}
use Rattle.job_file.proofs.Readers.{session_of}
use Rattle.job_file.proofs.values.sessions_of.Given as goal

abbrev pub invariant-loop-number : goal.invariant-loop-number
invariant-loop-number l = record {
  form : map session_view l.sessions.items ++ map (λ table. session_form l.version_two l.names table.0 table.1) (enumerate_from l.number (map session_of (drop l.number l.tables)))
      ≡ session_forms l.version_two l.names (map fields_of (map view l.tables));
  parties : AreSessions (length l.names) l.sessions.items;
  count : length l.sessions.items ≡ l.number;
}
