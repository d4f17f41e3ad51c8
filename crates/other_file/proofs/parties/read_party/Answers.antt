use Rattle.std.proofs.Common.{◌≡◌, ◌⊎◌, [], map, Some, sym, ◌∙◌, subst, inr}
use Rattle.std.proofs.lemmas.Option.{get_or_from_slice_get}
use Rattle.toml.specs.View.{view, table_view}
use Rattle.toml_fields.specs.Fields.{text_of, texts_at}
use Rattle.party_names.specs.Names.{name_at}
use Rattle.party_file.proofs.FaultRows.{texts_at-items}
use Rattle.other_file.specs.Table.{party_fault}
use Rattle.other_file.specs.declared.fault.OtherFault.TheVariants.{Memory}
use Rattle.other_file.proofs.FaultRows.{not_named, of_other_kind, texts_fail, texts_pass, party_told}
use Rattle.other_file.proofs.parties.read_party.Goals as goal

pub returns-then-not-has_field-clause-passed : goal.returns-then-not-has_field-clause-passed
returns-then-not-has_field-clause-passed c =
    let names = c.args.names.now in
    let name = c.name-name.result.now in
    let is : name ≡ name_at names c.args.party = sym (get_or_from_slice_get names c.args.party name [] c.name-name.ensures) in
    let none = not_named c.args.numeric.now c.args.plan.now names c.args.inputs.now (table_view c.args.given.now) c.args.party name is (sym c.has_field.ensures ∙ c.if-not-has_field.true) in
    (none.0, c.in_ok-kept.ensures ∙ none.1)

pub returns-then-is_misfit-clause-fault : goal.returns-then-is_misfit-clause-fault
returns-then-is_misfit-clause-fault c =
    let names = c.args.names.now in
    let name = c.name-name.result.now in
    let is : name ≡ name_at names c.args.party = sym (get_or_from_slice_get names c.args.party name [] c.name-name.ensures) in
    inr (of_other_kind c.args.numeric.now c.args.plan.now names c.args.inputs.now (table_view c.args.given.now) c.args.party name is (sym c.has_field.ensures ∙ c.if-not-has_field.false) (sym c.is_misfit.ensures ∙ c.if-is_misfit.true))

pub returns-in-Ok-clause-passed : goal.returns-in-Ok-clause-passed
returns-in-Ok-clause-passed c =
    let names = c.args.names.now in
    let name = c.name-name.result.now in
    let is : name ≡ name_at names c.args.party = sym (get_or_from_slice_get names c.args.party name [] c.name-name.ensures) in
    let texts = map text_of (map view c.items_at.result.now) in
    let there : texts ≡ texts_at name (table_view c.args.given.now) = texts_at-items name (table_view c.args.given.now) (map view c.items_at.result.now) c.items_at.ensures in
    texts_pass c.args.numeric.now c.args.plan.now names c.args.inputs.now (table_view c.args.given.now) c.args.party name is (sym c.has_field.ensures ∙ c.if-not-has_field.false) (sym c.is_misfit.ensures ∙ c.if-is_misfit.false)
    texts there _ c.in-Ok.ensures.passed.0 c.in-Ok.ensures.passed.1

pub returns-in-Err-clause-fault : goal.returns-in-Err-clause-fault
returns-in-Err-clause-fault c =
    let plan = c.args.plan.now in
    let names = c.args.names.now in
    let given = table_view c.args.given.now in
    let p = c.args.party in
    let name = c.name-name.result.now in
    let is : name ≡ name_at names p = sym (get_or_from_slice_get names p name [] c.name-name.ensures) in
    let texts = map text_of (map view c.items_at.result.now) in
    let there : texts ≡ texts_at name given = texts_at-items name given (map view c.items_at.result.now) c.items_at.ensures in
    let fails = texts_fail c.args.numeric.now plan names c.args.inputs.now given p name is (sym c.has_field.ensures ∙ c.if-not-has_field.false) (sym c.is_misfit.ensures ∙ c.if-is_misfit.false) texts there in
    subst (λ f. (f ≡ Memory) ⊎ (party_fault c.args.numeric.now plan names given p ≡ Some f)) (sym c.of_party.ensures)
    (party_told p c.in-Err.fault _ (party_fault c.args.numeric.now plan names given p) (λ f e. fails f e) c.in-Err.ensures.fault)
