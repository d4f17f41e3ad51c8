use Rattle.std.proofs.Common.{◌≡◌, map, take, length}
use Rattle.std.specs.Prelude.{All}
use Rattle.toml.specs.declared.value.Value.{Value}
use Rattle.job_file.specs.Owners.{IsOwner}
use Rattle.job_file.specs.Forms.{owner_of}
use Rattle.job_file.proofs.Readers.{text_in}
use Rattle.job_file.proofs.values.owners_of.Given as goal

abbrev pub invariant-loop-owner : goal.invariant-loop-owner
invariant-loop-owner l = record {
  is : l.told.items ≡ map (λ (v : Value). owner_of l.version_two l.names l.session (text_in v)) (take l.owner-index l.owners);
  within : All (IsOwner (length l.names) l.session) l.told.items;
}
