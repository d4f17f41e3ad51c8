use Rattle.std.proofs.Common.{◌≡◌, map, drop}
use Rattle.toml.specs.View.{view}
use Rattle.toml_fields.specs.Fields.{text_of}
use Rattle.job_file.specs.Faults.{owners_fault}
use Rattle.job_file.proofs.Readers.{text_in}
use Rattle.job_file.proofs.session.check_owners.Given as goal

abbrev pub invariant-loop-at : goal.invariant-loop-at
invariant-loop-at l =
    owners_fault l.version_two l.names l.session 0 (map text_of (map view l.owners)) ≡ owners_fault l.version_two l.names l.session l.at (map text_in (drop l.at l.owners))
