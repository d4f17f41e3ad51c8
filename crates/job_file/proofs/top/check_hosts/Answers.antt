use Rattle.std.proofs.Common.{◌≡◌, ◌∙◌, ap, sym, subst, map, Option}
use Rattle.std.proofs.lemmas.Result.{err_from_is_err_and}
use Rattle.std.specs.Option.{option_or}
use Rattle.toml.specs.View.{view, table_view}
use Rattle.toml_fields.specs.Fields.{items_at}
use Rattle.job_file.specs.declared.field.JobField.TheVariants.{Hosts}
use Rattle.job_file.specs.declared.fault.JobFault.{JobFault}
use Rattle.job_file.specs.Answers.{TellsFault}
use Rattle.job_file.specs.Forms.{items}
use Rattle.job_file.specs.Faults.{hosts_fault}
use Rattle.job_file.proofs.Hosts.{hosts_are, text_row}
use Rattle.job_file.proofs.top.check_hosts.Goals as goal

pub returns-in_err-check_host_count : goal.returns-in_err-check_host_count
returns-in_err-check_host_count c =
    let same : map view c.items_at-hosts.result.now ≡ items Hosts (table_view c.args.table.now) = c.items_at-hosts.ensures ∙ ap (λ key. items_at key (table_view c.args.table.now)) c.text.ensures in
    let told = hosts_are (table_view c.args.table.now) c.items_at-hosts.result.now c.args.parties same c.requires in
    let p = err_from_is_err_and c.from_residual.result c.from_residual.ensures.1 in
    rw (p.1, p.2) (told ∙ ap (λ row. option_or row (text_row c.items_at-hosts.result.now)) c.in_err-check_host_count.ensures)

pub returns : goal.returns
returns c =
    let same : map view c.items_at-hosts.result.now ≡ items Hosts (table_view c.args.table.now) = c.items_at-hosts.ensures ∙ ap (λ key. items_at key (table_view c.args.table.now)) c.text.ensures in
    let told = hosts_are (table_view c.args.table.now) c.items_at-hosts.result.now c.args.parties same c.requires in
    let last : hosts_fault (table_view c.args.table.now) ≡ text_row c.items_at-hosts.result.now = told ∙ ap (λ row. option_or row (text_row c.items_at-hosts.result.now)) c.in_ok-check_host_count.ensures in
    let P : Option JobFault → Type 0 = λ wanted. TellsFault c.check_host_texts.result wanted in
    subst P (sym last) c.check_host_texts.ensures
