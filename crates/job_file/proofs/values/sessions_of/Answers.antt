use Rattle.std.proofs.Common.{◌≡◌, ◌∙◌, ◌+◌, ◌++◌, ℕ, List, ap, sym, map, length, drop, subst, arith}
use Rattle.std.specs.List.{enumerate_from}
use Rattle.std.specs.Option.{unwrap_or}
use Rattle.std.proofs.lemmas.Grind.{common_steps}
use Rattle.toml.specs.Data.{as_table}
use Rattle.toml.specs.View.{view, table_view, members_view}
use Rattle.toml_fields.specs.Fields.{fields_of}
use Rattle.toml_fields.proofs.Lists.{map_twice}
use Rattle.job_file.specs.declared.job.JobSession.{JobSession}
use Rattle.job_file.specs.Forms.{session_form}
use Rattle.job_file.specs.Jobs.{session_view, IsSession, AreSessions}
use Rattle.job_file.proofs.Readers.{session_of}
use Rattle.job_file.proofs.Sessions.{forms_more, forms_end, sessions_more}
use Rattle.job_file.proofs.values.sessions_of.Goals as goal

pub loop-number-init : goal.loop-number-init
loop-number-init c = record {
  form =
      ap (λ done. map session_view done ++ map (λ table. session_form c.args.version_two c.args.names.now table.0 table.1) (enumerate_from 0 (map session_of c.args.tables.now))) c.new-sessions.ensures.items
      ∙ ap (λ tables. map (λ table. session_form c.args.version_two c.args.names.now table.0 table.1) (enumerate_from 0 tables)) (sym (map_twice fields_of view c.args.tables.now));
  parties = λ k d within. absurd (omega (arith, within, ap length c.new-sessions.ensures.items));
  count = grind arith;
}

pub loop-number-preserved : goal.loop-number-preserved
unfolding fields_of
loop-number-preserved c =
    let names : List (List ℕ) = c.args.names.now in
    let i : ℕ = c.loop-number.number in
    let fields : table_view c.fields_or-table.result.now ≡ session_of c.index-tables-number.result =
    c.fields_or-table.ensures ∙ ap (λ es. unwrap_or (as_table (view c.index-tables-number.result)) (members_view es)) c.new-empty.ensures.empty in
    let here : session_view c.in_ok-session_of.field-0 ≡ session_form c.args.version_two names i (session_of c.index-tables-number.result) = c.in_ok-session_of.ensures.form ∙ ap (session_form c.args.version_two names i) fields in
    record {
      form =
          ap (λ done. map session_view done ++ map (λ table. session_form c.args.version_two names table.0 table.1) (enumerate_from (i + 1) (map session_of (drop (i + 1) c.args.tables.now)))) c.in_ok-push.ensures.items
          ∙ forms_more c.args.version_two names c.args.tables.now i c.index-tables-number.result c.loop-number.sessions.items c.in_ok-session_of.field-0 _ c.loop-number-test.true c.index-tables-number.is here c.loop-number.invariant.form;
      parties =
          (let P : List JobSession → Type 0 = AreSessions (length names) in
          subst P (sym c.in_ok-push.ensures.items) (sessions_more (length names) c.loop-number.sessions.items c.in_ok-session_of.field-0 c.loop-number.invariant.parties
          (subst (λ n. IsSession (length names) n c.in_ok-session_of.field-0) (sym c.loop-number.invariant.count) c.in_ok-session_of.ensures.parties)));
      count = grind (arith, common_steps, ap length c.in_ok-push.ensures.items, c.loop-number.invariant.count);
    }

pub returns-clause-form : goal.returns-clause-form
returns-clause-form c = forms_end c.args.version_two c.args.names.now c.args.tables.now c.loop-number.number c.loop-number.sessions.items _ c.loop-number-test.false c.loop-number.invariant.form

pub returns-clause-parties : goal.returns-clause-parties
returns-clause-parties c = c.loop-number.invariant.parties
