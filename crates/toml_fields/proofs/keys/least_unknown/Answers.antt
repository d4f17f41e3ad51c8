use Rattle.std.proofs.Common.{◌∙◌, ap, option_map, string_bytes, Some}
use Rattle.toml_fields.proofs.UnknownNames.{first_is_least}
use Rattle.toml_fields.proofs.keys.least_unknown.Goals as goal

pub returns-in-Some : goal.returns-in-Some
returns-in-Some c = ap Some c.as_str.ensures.value ∙ ap (option_map string_bytes) c.in-Some.ensures.found ∙ first_is_least _ c.args.table.now.entries c.in-Some.ensures.ordered

pub returns-in-None : goal.returns-in-None
returns-in-None c = ap (option_map string_bytes) c.in-None.ensures.found ∙ first_is_least _ c.args.table.now.entries c.in-None.ensures.ordered
