use Rattle.std.proofs.Common.{◌≡◌, Err, sym, ap, subst, ◌∙◌, inl, inr}
use Rattle.std.specs.Option.{option_map}
use Rattle.toml.specs.View.{table_view}
use Rattle.plan_model.specs.InputWords.{AreInputs}
use Rattle.other_file.specs.Table.{other_in}
use Rattle.other_file.specs.declared.fault.OtherFault.TheVariants.{Memory}
use Rattle.list_laws.proofs.FirstFaults.{stops_with}
use Rattle.other_file.proofs.FaultRows.{bytes_none, bytes_fail, bytes_pass}
use Rattle.other_file.proofs.GivenInputs.{given_fit}
use Rattle.other_file.proofs.FaultParties.{exit_below}
use Rattle.other_file.proofs.other.read_other.Goals as goal

pub returns-in_default-clause-fault : goal.returns-in_default-clause-fault
returns-in_default-clause-fault c =
    inr (bytes_none c.args.numeric.now c.args.plan.now c.args.names.now c.args.inputs.now c.args.bytes.now (sym c.in_ok-table.ensures ∙ ap (option_map table_view) c.in_default.is))

pub returns-in_err-words-clause-fault : goal.returns-in_err-words-clause-fault
returns-in_err-words-clause-fault c =
    let plan = c.args.plan.now in
    let names = c.args.names.now in
    let is = sym c.in_ok-table.ensures ∙ ap (option_map table_view) c.in-Some.is in
    stops_with Memory c.from_residual-in_err-words.result _ (λ fault. other_in c.args.numeric.now plan names c.args.inputs.now c.args.bytes.now ≡ Err fault) c.from_residual-in_err-words.ensures.1
    (elim c.in_err-words.ensures.fault [
      | inl memory ↦ inl memory
      | inr fault ↦ inr (bytes_fail c.args.numeric.now plan names c.args.inputs.now c.args.bytes.now (table_view c.in-Some.table) _ is fault)
    ])

pub returns-in_err-words-clause-party : goal.returns-in_err-words-clause-party
returns-in_err-words-clause-party c =
    exit_below c.args.numeric.now c.args.plan.now c.args.names.now (table_view c.in-Some.table) c.from_residual-in_err-words.result _ c.from_residual-in_err-words.ensures.1 c.in_err-words.ensures.fault

pub make-requires : goal.make-requires
make-requires c =
    let is = sym c.in_ok-table.ensures ∙ ap (option_map table_view) c.in-Some.is in
    subst (AreInputs c.args.plan.now) (sym c.in_ok-words.ensures.passed.1) (given_fit c.args.numeric.now c.args.plan.now c.args.names.now c.args.inputs.now (table_view c.in-Some.table) c.requires.inputs c.in_ok-words.ensures.passed.0)

pub returns-clause-given : goal.returns-clause-given
returns-clause-given c =
    bytes_pass c.args.numeric.now c.args.plan.now c.args.names.now c.args.inputs.now c.args.bytes.now (table_view c.in-Some.table) c.make.result (sym c.in_ok-table.ensures ∙ ap (option_map table_view) c.in-Some.is)
    c.in_ok-words.ensures.passed.0 (c.make.ensures ∙ c.in_ok-words.ensures.passed.1)

pub returns-clause-fits : goal.returns-clause-fits
returns-clause-fits c =
    subst (AreInputs c.args.plan.now) (sym (c.make.ensures ∙ c.in_ok-words.ensures.passed.1)) (given_fit c.args.numeric.now c.args.plan.now c.args.names.now c.args.inputs.now (table_view c.in-Some.table) c.requires.inputs c.in_ok-words.ensures.passed.0)
