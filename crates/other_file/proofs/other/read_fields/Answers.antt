use Rattle.std.proofs.Common.{◌≡◌, ◌⊎◌, Some, None, ◌∙◌, sym, subst, inl, inr}
use Rattle.std.proofs.lemmas.Result.{IfOk-weaker, IfErr-weaker}
use Rattle.toml.specs.View.{table_view}
use Rattle.other_file.specs.Table.{other_fault}
use Rattle.other_file.specs.declared.fault.OtherFault.TheVariants.{Memory}
use Rattle.other_file.proofs.FaultRows.{parties_decide, same_inputs, file_fails, file_told}
use Rattle.other_file.proofs.other.read_fields.Goals as goal

pub returns-in-Ok-clause-passed : goal.returns-in-Ok-clause-passed
returns-in-Ok-clause-passed c =
    let fields = table_view c.args.table.now in
    let given = table_view c.inputs_in-given.result.now in
    let is = c.inputs_in-given.ensures in
    IfOk-weaker c.read_parties.result _ _
    (λ words h. (
      parties_decide c.args.numeric.now c.args.plan.now c.args.names.now fields given is c.in-Ok.ensures.passed None h.0,
      h.1 ∙ same_inputs c.args.numeric.now c.args.plan.now c.args.names.now fields given is c.args.inputs.now,
    ))
    c.read_parties.ensures.passed

pub returns-in-Ok-clause-fault : goal.returns-in-Ok-clause-fault
returns-in-Ok-clause-fault c =
    let fields = table_view c.args.table.now in
    let given = table_view c.inputs_in-given.result.now in
    let is = c.inputs_in-given.ensures in
    IfErr-weaker c.read_parties.result _ _
    (λ fault h. elim h [
      | inl memory ↦ inl memory
      | inr e ↦ inr (parties_decide c.args.numeric.now c.args.plan.now c.args.names.now fields given is c.in-Ok.ensures.passed (Some fault) e)
    ])
    c.read_parties.ensures.fault

pub returns-clause-fault : goal.returns-clause-fault
returns-clause-fault c =
    let fields = table_view c.args.table.now in
    let told = file_told c.in-Err.fault _ (other_fault c.args.numeric.now c.args.plan.now c.args.names.now fields) (λ f e. file_fails c.args.numeric.now c.args.plan.now c.args.names.now fields f e) c.in-Err.ensures.fault in
    subst (λ f. (f ≡ Memory) ⊎ (other_fault c.args.numeric.now c.args.plan.now c.args.names.now fields ≡ Some f)) (sym c.of_file.ensures) told
