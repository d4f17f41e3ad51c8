use Rattle.std.proofs.Common.{◌≡◌, map, take, length}
use Rattle.std.specs.Prelude.{All}
use Rattle.party_set.specs.Parties.{Members}
use Rattle.toml.specs.View.{view}
use Rattle.toml.specs.declared.value.Value.{Value}
use Rattle.toml_fields.specs.Fields.{texts_of}
use Rattle.job_file.specs.Forms.{mask_of}
use Rattle.job_file.proofs.values.groups_of.Given as goal

abbrev pub invariant-loop-readers : goal.invariant-loop-readers
invariant-loop-readers l = record {
  is : map (λ (group : Members). group.mask) l.groups.items ≡ map (λ (v : Value). mask_of l.names (texts_of (view v))) (take l.readers-index l.values);
  parties : All (λ (group : Members). group.parties ≡ length l.names) l.groups.items;
}
