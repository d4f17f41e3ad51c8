use Rattle.std.proofs.Common.{◌≡◌, None}
use Rattle.toml.specs.View.{table_view}
use Rattle.list_laws.specs.Lists.{listed}
use Rattle.list_laws.specs.Checks.{first_fault}
use Rattle.plan_model.specs.InputWords.{input_words}
use Rattle.other_file.specs.Table.{party_fault, party_inputs}
use Rattle.other_file.proofs.parties.read_parties.Given as goal

abbrev pub invariant-loop-party : goal.invariant-loop-party
invariant-loop-party l = record {
  passed : first_fault (listed l.party (party_fault l.numeric l.plan l.names (table_view l.given))) ≡ None;
  read : input_words l.words.items ≡ listed l.party (party_inputs l.numeric l.plan l.names l.inputs (table_view l.given));
}
