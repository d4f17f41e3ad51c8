use Rattle.std.proofs.Common.{◌≡◌, ◌∙◌, ap, sym, map, string_bytes, inl, inr, Some}
use Rattle.std.specs.Option.{option_map}
use Rattle.toml.specs.View.{table_view}
use Rattle.toml_fields.specs.Fields.{texts_at}
use Rattle.party_names.specs.Names.{names_fault}
use Rattle.job_file.specs.declared.field.JobField.TheVariants.{Parties}
use Rattle.job_file.specs.declared.fault.JobFault.TheVariants.{Names}
use Rattle.job_file.specs.Forms.{texts}
use Rattle.job_file.specs.Faults.{parties_fault}
use Rattle.job_file.proofs.top.read_parties.Goals as goal

pub returns-in-Ok : goal.returns-in-Ok
unfolding parties_fault
returns-in-Ok c =
    let same : map string_bytes c.deref.result.now ≡ texts Parties (table_view c.args.table.now) =
    ap (map string_bytes) c.deref.ensures.value ∙ c.in_ok-texts.ensures ∙ ap (λ key. texts_at key (table_view c.args.table.now)) c.text.ensures in
    (c.in-Ok.ensures.0 ∙ same, ap (option_map (λ fault. Names fault)) (ap names_fault (sym same) ∙ c.in-Ok.ensures.1))

pub returns : goal.returns
unfolding parties_fault
returns c =
    let same : map string_bytes c.deref.result.now ≡ texts Parties (table_view c.args.table.now) =
    ap (map string_bytes) c.deref.ensures.value ∙ c.in_ok-texts.ensures ∙ ap (λ key. texts_at key (table_view c.args.table.now)) c.text.ensures in
    λ other. elim c.in-Err.ensures [
      | inl memory ↦ absurd (other (c.of_names.ensures.memory memory))
      | inr told ↦ ap (option_map (λ fault. Names fault)) (ap names_fault (sym same) ∙ told) ∙ ap Some (sym (c.of_names.ensures.names other))
    ]
