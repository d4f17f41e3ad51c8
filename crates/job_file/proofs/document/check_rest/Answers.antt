use Rattle.std.proofs.Common.{◌≡◌, ◌∙◌, ℕ, Bool, List, ap, sym, map, length, None}
use Rattle.std.proofs.lemmas.List.{length-map}
use Rattle.std.proofs.lemmas.Result.{err_from_is_err_and}
use Rattle.std.specs.Option.{option_or}
use Rattle.toml.specs.Data.{Members}
use Rattle.toml.specs.View.{view, table_view}
use Rattle.toml.specs.declared.value.Value.{Value}
use Rattle.toml_fields.specs.Fields.{items_at, fields_of}
use Rattle.job_file.specs.declared.field.JobField.TheVariants.{Parties, Session}
use Rattle.job_file.specs.Forms.{is_version_two, items, tables, texts}
use Rattle.job_file.specs.Faults.{count_fault, sessions_fault, views_fault}
use Rattle.job_file.proofs.Rows.{at_count, at_sessions, at_last, form_rows, port_rows, last_rows, session_rows}
use Rattle.job_file.proofs.document.check_rest.Goals as goal

-- what the sessions' values stand for
module _ (fields : Members) (sessions : List Value) (same : map view sessions ≡ items Session fields) where
  counted : count_fault (length sessions) ≡ count_fault (length (items Session fields))
  counted = ap count_fault (sym (length-map sessions view) ∙ ap length same)

  told : (two : Bool) (names : List (List ℕ)) → two ≡ is_version_two fields → names ≡ texts Parties fields
      → sessions_fault two names 0 (map fields_of (map view sessions)) ≡ sessions_fault (is_version_two fields) (texts Parties fields) 0 (tables Session fields)
  told two names version is =
      ap (λ b. sessions_fault b names 0 (map fields_of (map view sessions))) version ∙ ap (λ ns. sessions_fault (is_version_two fields) ns 0 (map fields_of (map view sessions))) is
      ∙ ap (λ ds. sessions_fault (is_version_two fields) (texts Parties fields) 0 (map fields_of ds)) same

pub returns-in_err-check_adversary : goal.returns-in_err-check_adversary
returns-in_err-check_adversary c =
    let fields : Members = table_view c.args.table.now in
    let p = err_from_is_err_and c.from_residual.result c.from_residual.ensures.1 in
    rw (p.1, p.2) (λ other. ap (λ o. option_or o (option_or (count_fault (length (items Session fields))) (session_rows fields))) c.in_err-check_adversary.ensures)

pub returns-in_err-check_count : goal.returns-in_err-check_count
returns-in_err-check_count c =
    let fields : Members = table_view c.args.table.now in
    let same : map view c.items_at-sessions.result.now ≡ items Session fields = c.items_at-sessions.ensures ∙ ap (λ key. items_at key fields) c.text.ensures in
    let p = err_from_is_err_and c.from_residual-in_err-check_count.result c.from_residual-in_err-check_count.ensures.1 in
    rw (p.1, p.2) (λ other. at_count fields c.in_ok-check_adversary.ensures
    ∙ ap (λ o. option_or o (session_rows fields)) (sym (counted fields c.items_at-sessions.result.now same) ∙ c.in_err-check_count.ensures.told))

pub returns-in_err-check_sessions : goal.returns-in_err-check_sessions
returns-in_err-check_sessions c =
    let fields : Members = table_view c.args.table.now in
    let same : map view c.items_at-sessions.result.now ≡ items Session fields = c.items_at-sessions.ensures ∙ ap (λ key. items_at key fields) c.text.ensures in
    let count : count_fault (length (items Session fields)) ≡ None = sym (counted fields c.items_at-sessions.result.now same) ∙ c.in_ok-check_count.ensures.told in
    let p = err_from_is_err_and c.from_residual-in_err-check_sessions.result c.from_residual-in_err-check_sessions.ensures.1 in
    rw (p.1, p.2) (λ other. at_sessions fields c.in_ok-check_adversary.ensures count
    ∙ ap (λ o. option_or o (last_rows fields)) (sym (told fields c.items_at-sessions.result.now same _ _ c.is_version_two.ensures c.requires) ∙ c.in_err-check_sessions.ensures other))

pub returns-in_err-check_hosts : goal.returns-in_err-check_hosts
returns-in_err-check_hosts c =
    let fields : Members = table_view c.args.table.now in
    let same : map view c.items_at-sessions.result.now ≡ items Session fields = c.items_at-sessions.ensures ∙ ap (λ key. items_at key fields) c.text.ensures in
    let count : count_fault (length (items Session fields)) ≡ None = sym (counted fields c.items_at-sessions.result.now same) ∙ c.in_ok-check_count.ensures.told in
    let left = at_last fields c.in_ok-check_adversary.ensures count (sym (told fields c.items_at-sessions.result.now same _ _ c.is_version_two.ensures c.requires) ∙ c.in_ok-check_sessions.ensures) in
    let p = err_from_is_err_and c.from_residual-in_err-check_hosts.result c.from_residual-in_err-check_hosts.ensures.1 in
    rw (p.1, p.2) (λ other. left ∙ ap (λ o. option_or o (port_rows fields)) c.in_err-check_hosts.ensures)

pub returns-in_err-check_port : goal.returns-in_err-check_port
returns-in_err-check_port c =
    let fields : Members = table_view c.args.table.now in
    let same : map view c.items_at-sessions.result.now ≡ items Session fields = c.items_at-sessions.ensures ∙ ap (λ key. items_at key fields) c.text.ensures in
    let count : count_fault (length (items Session fields)) ≡ None = sym (counted fields c.items_at-sessions.result.now same) ∙ c.in_ok-check_count.ensures.told in
    let left = at_last fields c.in_ok-check_adversary.ensures count (sym (told fields c.items_at-sessions.result.now same _ _ c.is_version_two.ensures c.requires) ∙ c.in_ok-check_sessions.ensures) in
    let p = err_from_is_err_and c.from_residual-in_err-check_port.result c.from_residual-in_err-check_port.ensures.1 in
    rw (p.1, p.2) (λ other. left ∙ ap (λ o. option_or o (port_rows fields)) c.in_ok-check_hosts.ensures ∙ ap (λ o. option_or o (form_rows fields)) c.in_err-check_port.ensures)

pub returns-in_err-check_frames : goal.returns-in_err-check_frames
returns-in_err-check_frames c =
    let fields : Members = table_view c.args.table.now in
    let same : map view c.items_at-sessions.result.now ≡ items Session fields = c.items_at-sessions.ensures ∙ ap (λ key. items_at key fields) c.text.ensures in
    let count : count_fault (length (items Session fields)) ≡ None = sym (counted fields c.items_at-sessions.result.now same) ∙ c.in_ok-check_count.ensures.told in
    let left = at_last fields c.in_ok-check_adversary.ensures count (sym (told fields c.items_at-sessions.result.now same _ _ c.is_version_two.ensures c.requires) ∙ c.in_ok-check_sessions.ensures) in
    let p = err_from_is_err_and c.from_residual-in_err-check_frames.result c.from_residual-in_err-check_frames.ensures.1 in
    rw (p.1, p.2) (λ other. left ∙ ap (λ o. option_or o (port_rows fields)) c.in_ok-check_hosts.ensures ∙ ap (λ o. option_or o (form_rows fields)) c.in_ok-check_port.ensures ∙ ap (λ o. option_or o (option_or (views_fault fields) None)) c.in_err-check_frames.ensures)

pub returns-in_err-check_views : goal.returns-in_err-check_views
returns-in_err-check_views c =
    let fields : Members = table_view c.args.table.now in
    let same : map view c.items_at-sessions.result.now ≡ items Session fields = c.items_at-sessions.ensures ∙ ap (λ key. items_at key fields) c.text.ensures in
    let count : count_fault (length (items Session fields)) ≡ None = sym (counted fields c.items_at-sessions.result.now same) ∙ c.in_ok-check_count.ensures.told in
    let left = at_last fields c.in_ok-check_adversary.ensures count (sym (told fields c.items_at-sessions.result.now same _ _ c.is_version_two.ensures c.requires) ∙ c.in_ok-check_sessions.ensures) in
    let p = err_from_is_err_and c.from_residual-in_err-check_views.result c.from_residual-in_err-check_views.ensures.1 in
    rw (p.1, p.2) (λ other. left ∙ ap (λ o. option_or o (port_rows fields)) c.in_ok-check_hosts.ensures ∙ ap (λ o. option_or o (form_rows fields)) c.in_ok-check_port.ensures ∙ ap (λ o. option_or o (option_or (views_fault fields) None)) c.in_ok-check_frames.ensures ∙ ap (λ o. option_or o None) c.in_err-check_views.ensures)

pub returns : goal.returns
returns c =
    let fields : Members = table_view c.args.table.now in
    let same : map view c.items_at-sessions.result.now ≡ items Session fields = c.items_at-sessions.ensures ∙ ap (λ key. items_at key fields) c.text.ensures in
    let count : count_fault (length (items Session fields)) ≡ None = sym (counted fields c.items_at-sessions.result.now same) ∙ c.in_ok-check_count.ensures.told in
    at_last fields c.in_ok-check_adversary.ensures count (sym (told fields c.items_at-sessions.result.now same _ _ c.is_version_two.ensures c.requires) ∙ c.in_ok-check_sessions.ensures)
    ∙ ap (λ o. option_or o (port_rows fields)) c.in_ok-check_hosts.ensures ∙ ap (λ o. option_or o (form_rows fields)) c.in_ok-check_port.ensures ∙ ap (λ o. option_or o (option_or (views_fault fields) None)) c.in_ok-check_frames.ensures ∙ ap (λ o. option_or o None) c.in_ok-check_views.ensures
