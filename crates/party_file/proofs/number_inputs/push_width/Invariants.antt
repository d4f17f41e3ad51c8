use Rattle.std.proofs.Common.{◌≡◌, ◌++◌}
use Rattle.list_laws.specs.Lists.{listed}
use Rattle.party_file.proofs.number_inputs.push_width.Given as goal

abbrev pub invariant-loop : goal.invariant-loop
invariant-loop l = l.widths.items ≡ l.initial.widths.items ++ listed l.counter (λ lane. l.width)
