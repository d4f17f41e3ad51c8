use Rattle.std.proofs.Common.{sym, ◌∙◌}
use Rattle.std.proofs.lemmas.Result.{IfOk-weaker}
use Rattle.party_file.proofs.FaultRows.{random_by_seed}
use Rattle.toml.specs.View.{table_view}
use Rattle.party_file.proofs.tapes.read_tapes.Goals as goal

pub returns-then-has_field-clause-passed : goal.returns-then-has_field-clause-passed
returns-then-has_field-clause-passed c =
    IfOk-weaker c.read_seed.result _ _
    (λ tapes h. random_by_seed c.args.plan.now c.args.party (table_view c.args.table.now) _ _ (sym c.has_field.ensures ∙ c.if-has_field.true) c.text_at.ensures h.0 h.1)
    c.read_seed.ensures.passed
