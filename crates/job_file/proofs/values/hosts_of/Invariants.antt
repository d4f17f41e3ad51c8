use Rattle.std.proofs.Common.{◌≡◌, map, take}
use Rattle.std.specs.String.{string_bytes}
use Rattle.toml.specs.View.{view}
use Rattle.toml.specs.declared.value.Value.{Value}
use Rattle.toml_fields.specs.Fields.{text_of}
use Rattle.job_file.proofs.values.hosts_of.Given as goal

abbrev pub invariant-loop-host : goal.invariant-loop-host
invariant-loop-host l = map string_bytes l.texts.items ≡ map (λ (v : Value). text_of (view v)) (take l.host-index l.hosts)
