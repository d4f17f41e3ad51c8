use Rattle.std.proofs.Common.{◌≡◌, map, drop}
use Rattle.toml.specs.View.{view}
use Rattle.toml_fields.specs.Fields.{fields_of}
use Rattle.job_file.specs.Faults.{sessions_fault}
use Rattle.job_file.proofs.Readers.{session_of}
use Rattle.job_file.proofs.session.check_sessions.Given as goal

abbrev pub invariant-loop-session : goal.invariant-loop-session
invariant-loop-session l =
    sessions_fault l.version_two l.names 0 (map fields_of (map view l.sessions)) ≡ sessions_fault l.version_two l.names l.session (map session_of (drop l.session l.sessions))
