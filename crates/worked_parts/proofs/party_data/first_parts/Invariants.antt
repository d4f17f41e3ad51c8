use Rattle.std.proofs.Common.{◌≡◌, ◌<◌, ◌++◌, All, length, map}
use Rattle.plan_model.specs.InputWords.{input_words}
use Rattle.worked_parts.proofs.FirstParts.{first, inputs_of, tapes_of}
use Rattle.worked_parts.proofs.party_data.first_parts.Given as goal

-- what was taken, and behind it what the parties' data that are left give
abbrev pub invariant-loop-party_data : goal.invariant-loop-party_data
invariant-loop-party_data l = record {
  some : All (λ tapes. 0 < length tapes) (tapes_of l.party_data-iterator.rest.items);
  inputs : input_words l.inputs.items ++ inputs_of l.party_data-iterator.rest.items ≡ inputs_of l.fn.all_data.items;
  pieces : l.pieces.items ++ map first (tapes_of l.party_data-iterator.rest.items) ≡ map first (tapes_of l.fn.all_data.items);
}
