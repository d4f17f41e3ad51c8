use Rattle.std.proofs.Common.{◌≡◌, ◌∙◌, sym, map, string_bytes, arith}
use Rattle.std.proofs.lemmas.Grind.{common_steps}
use Rattle.toml.specs.View.{view}
use Rattle.toml.specs.declared.value.Value.{Value}
use Rattle.toml_fields.specs.Fields.{text_of}
use Rattle.toml_fields.proofs.Lists.{map_twice}
use Rattle.toml_fields.proofs.values.texts_of.Goals as goal

pub returns : goal.returns
returns c =
    let whole : map string_bytes c.loop-item.texts.items ≡ map (λ (item : Value). text_of (view item)) c.args.items.now = grind (arith, common_steps) in
    whole ∙ sym (map_twice text_of view c.args.items.now)
