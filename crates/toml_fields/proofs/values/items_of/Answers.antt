use Rattle.std.proofs.Common.{◌≡◌, ◌∙◌, sym, ap, map, Some, [], List}
use Rattle.std.specs.Option.{option_map_or}
use Rattle.toml.specs.Data.{as_array, Data}
use Rattle.toml.specs.View.{view, array_view}
use Rattle.toml_fields.specs.Fields.{items_of, data_in}
use Rattle.toml_fields.proofs.Lists.{data_in-view}
use Rattle.toml_fields.proofs.values.items_of.Goals as goal

pub returns-in-Some : goal.returns-in-Some
unfolding items_of
returns-in-Some c =
    let none : List Data = [] in
    let found : Some (array_view c.in-Some.items.now) ≡ as_array (view c.args.value.now) = c.in-Some.ensures in
    ap (map view) c.as_slice.ensures.value ∙ sym (data_in-view c.in-Some.items.now.items) ∙ ap (λ o. option_map_or data_in o none) found
