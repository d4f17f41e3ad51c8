use Rattle.std.proofs.Common.{◌∙◌, ap}
use Rattle.std.proofs.lemmas.Result.{err_from_is_err_and}
use Rattle.std.specs.Option.{option_or}
use Rattle.toml.specs.Data.{Members}
use Rattle.toml.specs.View.{table_view}
use Rattle.job_file.proofs.Rows.{at_parties, none_left, rest_rows, session_count}
use Rattle.job_file.proofs.document.read_table.Goals as goal

pub returns-in_err-names-clause-job : goal.returns-in_err-names-clause-job
returns-in_err-names-clause-job c =
    let fields : Members = table_view c.args.table.now in
    let p = err_from_is_err_and c.from_residual-in_err-names.result c.from_residual-in_err-names.ensures.1 in
    rw (p.1, p.2) (λ other. at_parties c.args.node fields c.in_ok-check_head.ensures ∙ ap (λ o. option_or o (rest_rows fields)) (c.in_err-names.ensures other))

pub returns-in_err-check_rest-clause-job : goal.returns-in_err-check_rest-clause-job
returns-in_err-check_rest-clause-job c =
    let fields : Members = table_view c.args.table.now in
    let p = err_from_is_err_and c.from_residual-in_err-check_rest.result c.from_residual-in_err-check_rest.ensures.1 in
    rw (p.1, p.2) (λ other. at_parties c.args.node fields c.in_ok-check_head.ensures ∙ ap (λ o. option_or o (rest_rows fields)) c.in_ok-names.ensures.1 ∙ c.in_err-check_rest.ensures other)

pub job_of-requires-clause-port : goal.job_of-requires-clause-port
job_of-requires-clause-port c = (none_left (table_view c.args.table.now) c.in_ok-check_rest.ensures).1

pub job_of-requires-clause-some : goal.job_of-requires-clause-some
job_of-requires-clause-some c = (session_count _ (none_left (table_view c.args.table.now) c.in_ok-check_rest.ensures).0).0

pub job_of-requires-clause-few : goal.job_of-requires-clause-few
job_of-requires-clause-few c = (session_count _ (none_left (table_view c.args.table.now) c.in_ok-check_rest.ensures).0).1

pub returns-clause-job : goal.returns-clause-job
returns-clause-job c =
    let fields : Members = table_view c.args.table.now in (
      at_parties c.args.node fields c.in_ok-check_head.ensures ∙ ap (λ o. option_or o (rest_rows fields)) c.in_ok-names.ensures.1 ∙ c.in_ok-check_rest.ensures,
      c.in_ok-job_of.ensures.form,
    )
