use Rattle.std.proofs.Common.{◌≡◌, ◌≤◌, length, drop, []}
use Rattle.party_set.specs.Parties.{has_party}
use Rattle.group_formula.proofs.ElementValues.{after_values}
use Rattle.group_formula.proofs.values.evaluate.Given as goal

abbrev pub invariant-loop-element : goal.invariant-loop-element
invariant-loop-element l = record {
  value : after_values (has_party l.group.mask) (drop l.element-index l.elements) l.values ≡ after_values (has_party l.group.mask) l.elements [];
  room : length l.values ≤ l.element-index;
}
