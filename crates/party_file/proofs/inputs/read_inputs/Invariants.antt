use Rattle.std.proofs.Common.{◌≡◌, map, None}
use Rattle.toml.specs.View.{view}
use Rattle.toml_fields.specs.Fields.{text_of}
use Rattle.plan_model.specs.InputWords.{session_words}
use Rattle.list_laws.specs.Lists.{joined, listed}
use Rattle.list_laws.specs.Checks.{first_fault}
use Rattle.party_file.proofs.SessionInputs.{checks_of, given_of}
use Rattle.party_file.proofs.inputs.read_inputs.Given as goal

abbrev pub invariant-loop-session : goal.invariant-loop-session
invariant-loop-session l = record {
  checked : first_fault (joined l.session (checks_of l.numeric l.plan l.party (map text_of (map view l.items)))) ≡ None;
  read : session_words l.inputs.items ≡ listed l.session (given_of l.numeric l.plan l.party (map text_of (map view l.items)));
}
