use Rattle.std.proofs.Common.{◌≡◌, map, drop}
use Rattle.toml.specs.View.{view}
use Rattle.toml_fields.specs.Fields.{texts_of}
use Rattle.job_file.specs.Faults.{bad_in_lists}
use Rattle.job_file.proofs.Readers.{readers_of}
use Rattle.job_file.proofs.parties.bad_in_lists.Given as goal

abbrev pub invariant-loop-value : goal.invariant-loop-value
invariant-loop-value l =
    bad_in_lists l.names 0 (map texts_of (map view l.lists)) ≡ bad_in_lists l.names l.value (map readers_of (drop l.value l.lists))
