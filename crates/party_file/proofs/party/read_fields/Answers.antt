use Rattle.std.proofs.Common.{◌∙◌, sym, ap, map}
use Rattle.std.specs.Prelude.{codes}
use Rattle.std.proofs.lemmas.List.{length-map}
use Rattle.toml.specs.View.{view, table_view}
use Rattle.list_laws.specs.Checks.{first_fault}
use Rattle.party_file.specs.Table.{count_checks, input_checks, sessions_given}
use Rattle.party_file.specs.declared.fault.PartyFault.TheVariants.{Memory}
use Rattle.list_laws.proofs.FirstFaults.{stops_by, stops_at, or_fault-ok}
use Rattle.party_file.proofs.FaultRows.{at_version, at_names, at_kinds, at_counts, at_inputs, at_random, counted_items, texts_at-items, form-read}
use Rattle.party_file.proofs.party.read_fields.Goals as goal

pub returns-in_err-check_version-clause-fault : goal.returns-in_err-check_version-clause-fault
returns-in_err-check_version-clause-fault c = stops_at Memory c.from_residual.result _ _ _ c.from_residual.ensures.1 (λ h. at_version _ _ _ _ _ h) c.in_err-check_version.ensures

pub returns-in_err-check_names-clause-fault : goal.returns-in_err-check_names-clause-fault
returns-in_err-check_names-clause-fault c =
    let fields = table_view c.args.table.now in
    let v = (or_fault-ok _ _ _ c.in_ok-check_version.ensures).0 in
    stops_by Memory c.from_residual-in_err-check_names.result _ _ _ c.from_residual-in_err-check_names.ensures.1 (λ h. at_names c.args.numeric.now c.args.plan.now c.args.party fields v _ h) c.in_err-check_names.ensures.fault

pub returns-in_err-check_kinds-clause-fault : goal.returns-in_err-check_kinds-clause-fault
returns-in_err-check_kinds-clause-fault c =
    let fields = table_view c.args.table.now in
    let v = (or_fault-ok _ _ _ c.in_ok-check_version.ensures).0 in
    stops_at Memory c.from_residual-in_err-check_kinds.result _ _ _ c.from_residual-in_err-check_kinds.ensures.1
    (λ h. at_kinds c.args.numeric.now c.args.plan.now c.args.party fields v c.in_ok-check_names.ensures.passed _ h) c.in_err-check_kinds.ensures

pub returns-in_err-check_counts-clause-fault : goal.returns-in_err-check_counts-clause-fault
returns-in_err-check_counts-clause-fault c =
    let fields = table_view c.args.table.now in
    let v = (or_fault-ok _ _ _ c.in_ok-check_version.ensures).0 in
    let k = (or_fault-ok _ _ _ c.in_ok-check_kinds.ensures).0 in
    stops_at Memory c.from_residual-in_err-check_counts.result _ _ _ c.from_residual-in_err-check_counts.ensures.1
    (λ h. at_counts c.args.numeric.now c.args.plan.now c.args.party fields v c.in_ok-check_names.ensures.passed k _ (ap (λ n. first_fault (count_checks n fields)) (sym c.sessions.ensures) ∙ h)) c.in_err-check_counts.ensures

pub read_inputs-requires : goal.read_inputs-requires
read_inputs-requires c =
    let fields = table_view c.args.table.now in
    let counts = (or_fault-ok _ _ _ c.in_ok-check_counts.ensures).0 in
    sym (length-map c.items_at.result.now view) ∙ counted_items _ fields _ c.items_at.ensures counts ∙ c.sessions.ensures

pub returns-in_err-inputs-clause-fault : goal.returns-in_err-inputs-clause-fault
returns-in_err-inputs-clause-fault c =
    let plan = c.args.plan.now in
    let fields = table_view c.args.table.now in
    let v = (or_fault-ok _ _ _ c.in_ok-check_version.ensures).0 in
    let k = (or_fault-ok _ _ _ c.in_ok-check_kinds.ensures).0 in
    let counts = ap (λ n. first_fault (count_checks n fields)) (sym c.sessions.ensures) ∙ (or_fault-ok _ _ _ c.in_ok-check_counts.ensures).0 in
    let texts = texts_at-items (codes "inputs") fields (map view c.items_at.result.now) c.items_at.ensures in
    stops_by Memory c.from_residual-in_err-inputs.result _ _ _ c.from_residual-in_err-inputs.ensures.1
    (λ h. at_inputs c.args.numeric.now plan c.args.party fields v c.in_ok-check_names.ensures.passed k counts _ (ap (λ t. first_fault (input_checks c.args.numeric.now plan c.args.party t)) (sym texts) ∙ h)) c.in_err-inputs.ensures.fault

pub returns-in_err-tapes-clause-fault : goal.returns-in_err-tapes-clause-fault
returns-in_err-tapes-clause-fault c =
    let plan = c.args.plan.now in
    let fields = table_view c.args.table.now in
    let v = (or_fault-ok _ _ _ c.in_ok-check_version.ensures).0 in
    let k = (or_fault-ok _ _ _ c.in_ok-check_kinds.ensures).0 in
    let counts = ap (λ n. first_fault (count_checks n fields)) (sym c.sessions.ensures) ∙ (or_fault-ok _ _ _ c.in_ok-check_counts.ensures).0 in
    let texts = texts_at-items (codes "inputs") fields (map view c.items_at.result.now) c.items_at.ensures in
    let inputs = ap (λ t. first_fault (input_checks c.args.numeric.now plan c.args.party t)) (sym texts) ∙ c.in_ok-inputs.ensures.passed.0 in
    stops_by Memory c.from_residual-in_err-tapes.result _ _ _ c.from_residual-in_err-tapes.ensures.1
    (λ h. at_random c.args.numeric.now plan c.args.party fields v c.in_ok-check_names.ensures.passed k counts _ inputs h) c.in_err-tapes.ensures.fault

pub returns-clause-passed : goal.returns-clause-passed
returns-clause-passed c =
    let plan = c.args.plan.now in
    let fields = table_view c.args.table.now in
    let v = (or_fault-ok _ _ _ c.in_ok-check_version.ensures).0 in
    let k = (or_fault-ok _ _ _ c.in_ok-check_kinds.ensures).0 in
    let counts = ap (λ n. first_fault (count_checks n fields)) (sym c.sessions.ensures) ∙ (or_fault-ok _ _ _ c.in_ok-check_counts.ensures).0 in
    let texts = texts_at-items (codes "inputs") fields (map view c.items_at.result.now) c.items_at.ensures in
    let inputs = ap (λ t. first_fault (input_checks c.args.numeric.now plan c.args.party t)) (sym texts) ∙ c.in_ok-inputs.ensures.passed.0 in (
      at_random c.args.numeric.now plan c.args.party fields v c.in_ok-check_names.ensures.passed k counts _ inputs c.in_ok-tapes.ensures.passed.0,
      form-read c.args.numeric.now plan c.args.party fields _ _ (c.in_ok-inputs.ensures.passed.1 ∙ ap (sessions_given c.args.numeric.now plan c.args.party) texts) c.in_ok-tapes.ensures.passed.1,
    )
