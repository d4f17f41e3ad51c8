use Rattle.std.proofs.Common.{◌≡◌, map, take, drop, []}
use Rattle.toml.specs.View.{view}
use Rattle.toml_fields.specs.Fields.{text_of}
use Rattle.job_file.specs.Faults.{bad_name}
use Rattle.job_file.proofs.Readers.{text_in}
use Rattle.job_file.proofs.parties.bad_name.Given as goal

abbrev pub invariant-loop-at : goal.invariant-loop-at
invariant-loop-at l =
    bad_name l.names [] (map text_of (map view l.texts)) ≡ bad_name l.names (map text_in (take l.at l.texts)) (map text_in (drop l.at l.texts))
