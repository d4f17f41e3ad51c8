use Rattle.std.proofs.Common.{◌≡◌, None, map, take}
use Rattle.std.specs.String.{string_bytes}
use Rattle.party_names.specs.Names.{first_name_fault}
use Rattle.party_names.proofs.names.read_names.Given as goal

abbrev pub invariant-loop-at : goal.invariant-loop-at
invariant-loop-at l = record {
  read : l.names.keys ≡ take l.at (map string_bytes l.texts);
  sound : first_name_fault (map string_bytes l.texts) l.at ≡ None;
}
