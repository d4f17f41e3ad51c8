use Rattle.std.proofs.Common.{◌≡◌, ◌∙◌, ◌+◌, ap, sym, map, drop, [], ℕ, List, Some, None, Option}
use Rattle.std.proofs.lemmas.List.{drop_all}
use Rattle.std.specs.Option.{option_or, option_map}
use Rattle.toml.specs.View.{view}
use Rattle.toml.specs.declared.value.Value.{Value}
use Rattle.toml_fields.specs.Fields.{texts_of, text_of}
use Rattle.toml_fields.proofs.Lists.{map_twice}
use Rattle.job_file.specs.Faults.{bad_in_lists, bad_name}
use Rattle.job_file.proofs.Readers.{readers_of, lists_turn}
use Rattle.job_file.proofs.parties.bad_in_lists.Goals as goal

pub loop-value-init : goal.loop-value-init
loop-value-init c = ap (bad_in_lists c.args.names.now 0) (map_twice texts_of view c.args.lists.now)

pub returns-in-Some-clause-is : goal.returns-in-Some-clause-is
unfolding texts_of
returns-in-Some-clause-is c =
    let names : List (List ℕ) = c.args.names.now in
    let vs : List Value = c.args.lists.now in
    let value : ℕ = c.loop-value.value in
    let rest : Option (ℕ × ℕ) = bad_in_lists names (value + 1) (map readers_of (drop (value + 1) vs)) in
    let turn = lists_turn names vs value c.index-lists-value.result c.loop-value-test.true c.index-lists-value.is in
    let same : readers_of c.index-lists-value.result ≡ map text_of (map view c.items_of.result.now) = sym (ap (map text_of) c.items_of.ensures) in
    let bad : bad_name names [] (readers_of c.index-lists-value.result) ≡ Some c.in-Some.at = ap (bad_name names []) same ∙ sym c.in-Some.ensures in
    sym (c.loop-value.invariant ∙ turn ∙ ap (λ o. option_or (option_map (λ at. (value, at)) o) rest) bad)

pub loop-value-preserved : goal.loop-value-preserved
unfolding texts_of
loop-value-preserved c =
    let names : List (List ℕ) = c.args.names.now in
    let vs : List Value = c.args.lists.now in
    let value : ℕ = c.loop-value.value in
    let rest : Option (ℕ × ℕ) = bad_in_lists names (value + 1) (map readers_of (drop (value + 1) vs)) in
    let turn = lists_turn names vs value c.index-lists-value.result c.loop-value-test.true c.index-lists-value.is in
    let same : readers_of c.index-lists-value.result ≡ map text_of (map view c.items_of.result.now) = sym (ap (map text_of) c.items_of.ensures) in
    let good : bad_name names [] (readers_of c.index-lists-value.result) ≡ None = ap (bad_name names []) same ∙ sym c.in_default.ensures in
    c.loop-value.invariant ∙ turn ∙ ap (λ o. option_or (option_map (λ at. (value, at)) o) rest) good

pub returns-clause-is : goal.returns-clause-is
unfolding bad_in_lists
returns-clause-is c = sym (c.loop-value.invariant ∙ ap (λ xs. bad_in_lists c.args.names.now c.loop-value.value (map readers_of xs)) (drop_all c.loop-value.value c.args.lists.now c.loop-value-test.false))
