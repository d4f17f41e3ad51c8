use Rattle.std.proofs.Common.{◌∙◌, sym, ap, inr}
use Rattle.std.specs.Option.{option_map}
use Rattle.toml.specs.View.{table_view}
use Rattle.std.proofs.lemmas.Result.{IfOk-weaker, IfErr-weaker}
use Rattle.party_file.proofs.FaultRows.{file-ok, file-none, or_file}
use Rattle.party_file.proofs.PlanFit.{party-fits}
use Rattle.party_file.proofs.party.read_party.Goals as goal

pub returns-in-Some-clause-given : goal.returns-in-Some-clause-given
returns-in-Some-clause-given c =
    IfOk-weaker c.read_fields.result _ _ (λ found h. file-ok c.args.numeric.now c.args.plan.now c.args.party c.args.bytes.now (table_view c.in-Some.table) _ (sym c.in_ok-table.ensures ∙ ap (option_map table_view) c.in-Some.is) h.0 h.1) c.read_fields.ensures.passed

pub returns-in-Some-clause-fits : goal.returns-in-Some-clause-fits
returns-in-Some-clause-fits c =
    IfOk-weaker c.read_fields.result _ _ (λ found h. party-fits c.args.numeric.now c.args.plan.now c.args.party (table_view c.in-Some.table) _ h.0 h.1) c.read_fields.ensures.passed

pub returns-in-Some-clause-fault : goal.returns-in-Some-clause-fault
returns-in-Some-clause-fault c =
    IfErr-weaker c.read_fields.result _ _
    (λ fault h. or_file c.args.numeric.now c.args.plan.now c.args.party c.args.bytes.now (table_view c.in-Some.table) fault (sym c.in_ok-table.ensures ∙ ap (option_map table_view) c.in-Some.is) h) c.read_fields.ensures.fault

pub returns-in-None-clause-fault : goal.returns-in-None-clause-fault
returns-in-None-clause-fault c = inr (file-none c.args.numeric.now c.args.plan.now c.args.party c.args.bytes.now (sym c.in_ok-table.ensures ∙ ap (option_map table_view) c.in-None.is))
