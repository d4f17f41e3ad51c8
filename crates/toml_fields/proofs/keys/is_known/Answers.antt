use Rattle.std.proofs.Common.{◌∙◌, sym, Bor, List, ℕ}
use Rattle.std.specs.Str.{bytes_eq}
use Rattle.toml_fields.proofs.Lists.{list_any-map}
use Rattle.toml_fields.proofs.keys.is_known.Goals as goal

pub returns : goal.returns
returns c = c.is_among.ensures ∙ sym (list_any-map (λ other. bytes_eq other c.args.name.now) (λ (other : Bor (List ℕ)). other.now) c.args.known.now)
