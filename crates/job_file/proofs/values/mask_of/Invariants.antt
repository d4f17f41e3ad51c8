use Rattle.std.proofs.Common.{◌≡◌, ◌<◌, ◌^◌, ℕ, map, drop, length}
use Rattle.std.specs.Prelude.{fold, bit_or}
use Rattle.toml.specs.View.{view}
use Rattle.toml.specs.declared.value.Value.{Value}
use Rattle.toml_fields.specs.Fields.{text_of}
use Rattle.job_file.specs.Forms.{party_of, mask_of}
use Rattle.job_file.proofs.values.mask_of.Given as goal

abbrev pub invariant-loop-reader : goal.invariant-loop-reader
invariant-loop-reader l = record {
  is : mask_of l.names (map text_of (map view l.readers)) ≡ fold (λ (mask : ℕ) (reader : Value). bit_or mask (2 ^ party_of l.names (text_of (view reader)))) l.mask (drop l.reader-index l.readers);
  below : l.mask < 2 ^ length l.names;
}
