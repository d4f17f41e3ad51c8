use Rattle.std.proofs.Common.{◌≡◌, ◌∙◌, ◌+◌, ap, sym, map, drop, ℕ, Bool, List, Option}
use Rattle.std.proofs.lemmas.List.{drop_all}
use Rattle.std.proofs.lemmas.Result.{err_from_is_err_and}
use Rattle.std.specs.Option.{option_or, unwrap_or}
use Rattle.toml.specs.Data.{Members, as_table}
use Rattle.toml.specs.View.{view, table_view, members_view}
use Rattle.toml.specs.declared.value.Value.{Value}
use Rattle.toml_fields.specs.Fields.{fields_of}
use Rattle.toml_fields.proofs.Lists.{map_twice}
use Rattle.job_file.specs.declared.fault.JobFault.{JobFault}
use Rattle.job_file.specs.Faults.{sessions_fault, session_values_fault}
use Rattle.job_file.proofs.Readers.{session_of, sessions_turn}
use Rattle.job_file.proofs.session.check_sessions.Goals as goal

pub loop-session-init : goal.loop-session-init
loop-session-init c = ap (sessions_fault c.args.version_two c.args.names.now 0) (map_twice fields_of view c.args.sessions.now)

pub returns-in_err-check_fields : goal.returns-in_err-check_fields
unfolding fields_of
returns-in_err-check_fields c =
    let two : Bool = c.args.version_two in
    let names : List (List ℕ) = c.args.names.now in
    let vs : List Value = c.args.sessions.now in
    let session : ℕ = c.loop-session.session in
    let fields : Members = table_view c.fields_or-table.result.now in
    let same : session_of c.index-sessions-session.result ≡ fields =
    sym (c.fields_or-table.ensures ∙ ap (λ es. unwrap_or (as_table (view c.index-sessions-session.result)) (members_view es)) c.new-empty.ensures.empty) in
    let rest : Option JobFault = sessions_fault two names (session + 1) (map session_of (drop (session + 1) vs)) in
    let turn = sessions_turn two names vs session c.index-sessions-session.result fields c.loop-session-test.true c.index-sessions-session.is same in
    let p = err_from_is_err_and c.from_residual.result c.from_residual.ensures.1 in
    rw (p.1, p.2) (λ other. c.loop-session.invariant ∙ turn ∙ ap (λ o. option_or o (option_or (session_values_fault two names session fields) rest)) (c.in_err-check_fields.ensures other))

pub returns-in_err-check_values : goal.returns-in_err-check_values
unfolding fields_of
returns-in_err-check_values c =
    let two : Bool = c.args.version_two in
    let names : List (List ℕ) = c.args.names.now in
    let vs : List Value = c.args.sessions.now in
    let session : ℕ = c.loop-session.session in
    let fields : Members = table_view c.fields_or-table.result.now in
    let same : session_of c.index-sessions-session.result ≡ fields =
    sym (c.fields_or-table.ensures ∙ ap (λ es. unwrap_or (as_table (view c.index-sessions-session.result)) (members_view es)) c.new-empty.ensures.empty) in
    let rest : Option JobFault = sessions_fault two names (session + 1) (map session_of (drop (session + 1) vs)) in
    let turn = sessions_turn two names vs session c.index-sessions-session.result fields c.loop-session-test.true c.index-sessions-session.is same in
    let p = err_from_is_err_and c.from_residual-in_err-check_values.result c.from_residual-in_err-check_values.ensures.1 in
    rw (p.1, p.2) (λ other. c.loop-session.invariant ∙ turn ∙ ap (λ o. option_or o (option_or (session_values_fault two names session fields) rest)) c.in_ok-check_fields.ensures
    ∙ ap (λ o. option_or o rest) (c.in_err-check_values.ensures other))

pub loop-session-preserved : goal.loop-session-preserved
unfolding fields_of
loop-session-preserved c =
    let two : Bool = c.args.version_two in
    let names : List (List ℕ) = c.args.names.now in
    let vs : List Value = c.args.sessions.now in
    let session : ℕ = c.loop-session.session in
    let fields : Members = table_view c.fields_or-table.result.now in
    let same : session_of c.index-sessions-session.result ≡ fields =
    sym (c.fields_or-table.ensures ∙ ap (λ es. unwrap_or (as_table (view c.index-sessions-session.result)) (members_view es)) c.new-empty.ensures.empty) in
    let rest : Option JobFault = sessions_fault two names (session + 1) (map session_of (drop (session + 1) vs)) in
    let turn = sessions_turn two names vs session c.index-sessions-session.result fields c.loop-session-test.true c.index-sessions-session.is same in
    c.loop-session.invariant ∙ turn ∙ ap (λ o. option_or o (option_or (session_values_fault two names session fields) rest)) c.in_ok-check_fields.ensures
    ∙ ap (λ o. option_or o rest) c.in_ok-check_values.ensures

pub returns : goal.returns
unfolding sessions_fault
returns c = c.loop-session.invariant ∙ ap (λ xs. sessions_fault c.args.version_two c.args.names.now c.loop-session.session (map session_of xs)) (drop_all c.loop-session.session c.args.sessions.now c.loop-session-test.false)
