use Rattle.std.proofs.Common.{◌≡◌, None}
use Rattle.list_laws.specs.Lists.{listed}
use Rattle.list_laws.specs.Checks.{first_fault}
use Rattle.party_file.specs.Table.{number_outside}
use Rattle.party_file.proofs.number_inputs.check_numbers.Given as goal

abbrev pub invariant-loop-place : goal.invariant-loop-place
invariant-loop-place l = first_fault (listed l.place (number_outside l.widths l.session l.numbers)) ≡ None
