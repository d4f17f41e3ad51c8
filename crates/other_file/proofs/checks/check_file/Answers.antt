use Rattle.std.proofs.Common.{Some, None, Result, Ok, Err, inl, inr}
use Rattle.std.specs.Prelude.{OnOk}
use Rattle.std.proofs.lemmas.Result.{IfErr-weaker}
use Rattle.toml.specs.View.{table_view}
use Rattle.party_file.specs.declared.fault.PartyFault.TheVariants.{Memory}
use Rattle.list_laws.proofs.FirstFaults.{stops_by, stops_at, or_fault-ok}
use Rattle.other_file.proofs.FaultRows.{at_version, at_names, at_kinds, at_parties}
use Rattle.other_file.proofs.checks.check_file.Goals as goal

on_ok : {E : Type 0} (r : Result (Unit {0}) E) (P Q : Type 0) → (P → Q) → OnOk r P → OnOk r Q
on_ok (Ok u) P Q f p = f p
on_ok (Err e) P Q f p = tt

pub returns-in_err-check_version-clause-fault : goal.returns-in_err-check_version-clause-fault
returns-in_err-check_version-clause-fault c =
    stops_at Memory c.from_residual.result _ _ _ c.from_residual.ensures.1 (λ h. at_version c.args.names.now (table_view c.args.table.now) _ h) c.in_err-check_version.ensures

pub returns-in_err-check_names-clause-fault : goal.returns-in_err-check_names-clause-fault
returns-in_err-check_names-clause-fault c =
    let v = (or_fault-ok _ _ _ c.in_ok-check_version.ensures).0 in
    stops_by Memory c.from_residual-in_err-check_names.result _ _ _ c.from_residual-in_err-check_names.ensures.1
    (λ h. at_names c.args.names.now (table_view c.args.table.now) v _ h) c.in_err-check_names.ensures.fault

pub returns-in_err-check_kinds-clause-fault : goal.returns-in_err-check_kinds-clause-fault
returns-in_err-check_kinds-clause-fault c =
    let v = (or_fault-ok _ _ _ c.in_ok-check_version.ensures).0 in
    stops_at Memory c.from_residual-in_err-check_kinds.result _ _ _ c.from_residual-in_err-check_kinds.ensures.1
    (λ h. at_kinds c.args.names.now (table_view c.args.table.now) v c.in_ok-check_names.ensures.passed _ h) c.in_err-check_kinds.ensures

pub returns-clause-passed : goal.returns-clause-passed
returns-clause-passed c =
    let v = (or_fault-ok _ _ _ c.in_ok-check_version.ensures).0 in
    let k = (or_fault-ok _ _ _ c.in_ok-check_kinds.ensures).0 in
    on_ok c.check_parties.result _ _
    (λ h. at_parties c.args.names.now (table_view c.args.table.now) v c.in_ok-check_names.ensures.passed k (table_view c.args.given.now) c.requires None h)
    c.check_parties.ensures.passed

pub returns-clause-fault : goal.returns-clause-fault
returns-clause-fault c =
    let v = (or_fault-ok _ _ _ c.in_ok-check_version.ensures).0 in
    let k = (or_fault-ok _ _ _ c.in_ok-check_kinds.ensures).0 in
    IfErr-weaker c.check_parties.result _ _
    (λ fault h. elim h [
      | inl memory ↦ inl memory
      | inr e ↦ inr (at_parties c.args.names.now (table_view c.args.table.now) v c.in_ok-check_names.ensures.passed k (table_view c.args.given.now) c.requires (Some fault) e)
    ])
    c.check_parties.ensures.fault
