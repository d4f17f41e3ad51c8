-- The rows on hosts, over the values of the list.
use Rattle.std.proofs.Common.{◌≡◌, ℕ, List, ◌∙◌, ap, sym, map, length, Option, None, not, min}
use Rattle.std.specs.Prelude.{position, ◌==◌, ◌&&◌}
use Rattle.std.proofs.lemmas.List.{length-map}
use Rattle.std.specs.Option.{option_map, option_or}
use Rattle.toml.specs.Data.{Members}
use Rattle.toml.specs.View.{view}
use Rattle.toml.specs.declared.value.Value.{Value}
use Rattle.toml_fields.specs.Fields.{text_of, texts_at}
use Rattle.job_file.specs.declared.field.JobField.TheVariants.{Hosts, Parties}
use Rattle.job_file.specs.declared.fault.JobFault.{JobFault}
use Rattle.job_file.specs.declared.fault.JobFault.TheVariants.{BadHost}
use Rattle.job_file.specs.Names.{is_host}
use Rattle.job_file.specs.Forms.{texts, items}
use Rattle.list_laws.specs.Checks.{◌answers◌}
use Rattle.job_file.specs.Faults.{hosts_fault, is_there}
use Rattle.list_laws.proofs.FirstFaults.{first-one}
use Rattle.job_file.proofs.Lists.{position-texts}

abbrev pub count_row : Members → ℕ → ℕ → Option JobFault
count_row fields hosts parties = (is_there Hosts fields && not (hosts == parties)) answers BadHost (min hosts parties)

abbrev pub text_row : List Value → Option JobFault
text_row hosts = option_map (λ at. BadHost at) (position (λ host. not (is_host (text_of (view host)))) hosts)

pub hosts_are : (fields : Members) (hosts : List Value) (parties : ℕ) → map view hosts ≡ items Hosts fields → parties ≡ length (texts Parties fields)
    → hosts_fault fields ≡ option_or (count_row fields (length hosts) parties) (text_row hosts)
unfolding hosts_fault texts_at
hosts_are fields hosts parties are count =
    let rest : Option JobFault = option_or (option_map (λ at. BadHost at) (position (λ host. not (is_host host)) (texts Hosts fields))) None in
    let listed : texts Hosts fields ≡ map text_of (map view hosts) = ap (map text_of) (sym are) in
    let long : length (texts Hosts fields) ≡ length hosts = ap length listed ∙ length-map (map view hosts) text_of ∙ length-map hosts view in
    let bad : position (λ host. not (is_host host)) (texts Hosts fields) ≡ position (λ v. not (is_host (text_of (view v)))) hosts =
    ap (position (λ host. not (is_host host))) listed ∙ position-texts (λ host. not (is_host host)) hosts in
    ap (λ n. option_or (count_row fields n (length (texts Parties fields))) rest) long
    ∙ ap (λ n. option_or (count_row fields (length hosts) n) rest) (sym count)
    ∙ ap (λ o. option_or (count_row fields (length hosts) parties) (option_or (option_map (λ at. BadHost at) o) None)) bad
    ∙ ap (λ o. option_or (count_row fields (length hosts) parties) o) (first-one (text_row hosts))
