use Rattle.std.proofs.Common.{◌∙◌, sym, ap}
use Rattle.std.specs.List.{list_all}
use Rattle.std.specs.Prelude.{◌&&◌}
use Rattle.std.proofs.lemmas.List.Folds.{list_all-map}
use Rattle.toml.specs.View.{view}
use Rattle.toml_fields.specs.Fields.{is_list_of, is_text, items_of}
use Rattle.toml_fields.proofs.values.are_text_lists.Goals as goal

pub returns-then-is_array : goal.returns-then-is_array
unfolding is_list_of
returns-then-is_array c =
    c.all_text_lists.ensures ∙ sym (list_all-map (is_list_of is_text) view c.items_of.result.now) ∙ ap (list_all (is_list_of is_text)) c.items_of.ensures ∙ ap (λ b. b && list_all (is_list_of is_text) (items_of (view c.args.value.now))) (sym c.if-is_array.true ∙ c.is_array.ensures)
