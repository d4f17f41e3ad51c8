-- The file of other inputs: its checks in order, what it gives, and the first fault.
use Rattle.std.specs.Prelude.{ℕ, Bool, not, ◌==◌, List, [], ◌∷◌, ◌++◌, length, slice_index_or, Option, Some, None, Result, Err, if◌then◌else◌, codes}
use Rattle.std.specs.Option.{is_some, unwrap_or, option_map, option_or}
use Rattle.toml.specs.Data.{Members, no_members}
use Rattle.toml_fields.specs.Documents.{document_of}
use Rattle.toml_fields.specs.Fields.{has_field, is_misfit, texts_at, table_at}
use Rattle.toml_fields.specs.Keys.{least_unknown}
use Rattle.toml_fields.specs.declared.kind.Kind.TheVariants as kind
use Rattle.list_laws.specs.Lists.{listed}
use Rattle.list_laws.specs.Checks.{◌answers◌, first_fault, or_fault}
use Rattle.party_names.specs.Names.{name_at}
use Rattle.plan_model.specs.Plans.{Plan}
use Rattle.party_file.specs.Table.{version_checks, input_checks, sessions_given}
use Rattle.party_file.specs.declared.field.PartyField.TheVariants as field
use Rattle.party_file.specs.declared.fault.PartyFault.{PartyFault}
use Rattle.party_file.specs.declared.fault.PartyFault.TheVariants.{NotToml, Missing, Unknown, WrongKind, CountDiffers}
use Rattle.other_file.specs.declared.fault.OtherFault.{OtherFault}
use Rattle.other_file.specs.declared.fault.OtherFault.TheVariants as other
use Rattle.plan_model.specs.InputWords.{InputLists}

-- ---- the fields

-- no field of the table has another name than these; the least one that has is told
unfoldable pub name_checks : List (List ℕ) → Members → List (Option PartyFault)
name_checks known fields =
    (is_some (least_unknown known fields) answers Unknown (unwrap_or (least_unknown known fields) [])) ∷ []

-- the inputs are there, and they are a table
unfoldable pub kind_checks : Members → List (Option PartyFault)
kind_checks fields =
    (not (has_field (codes "inputs") fields) answers Missing field.Inputs)
    ∷ (is_misfit kind.Fields (codes "inputs") fields answers WrongKind field.Inputs)
    ∷ []

-- what stands under `inputs`
abbrev pub inputs_in : Members → Members
inputs_in fields = unwrap_or (table_at (codes "inputs") fields) no_members

-- the checks of the file as such; the last is that the names under `inputs` are the parties'
unfoldable pub file_checks : List (List ℕ) → Members → List (Option PartyFault)
file_checks names fields =
    version_checks fields ++ (name_checks (codes "version" ∷ codes "inputs" ∷ []) fields
    ++ (kind_checks fields ++ name_checks names (inputs_in fields)))

-- ---- the parties

-- the texts of party p: one for each session, and a word for each input wire that it gives
unfoldable pub text_checks : List Bool → Plan → ℕ → List (List ℕ) → List (Option PartyFault)
text_checks numeric plan p texts =
    (not (length texts == length plan.sessions) answers CountDiffers None (length plan.sessions) (length texts))
    ∷ input_checks numeric plan p texts

-- the fault of what this table gives party p, if it names p
unfoldable pub party_fault : List Bool → Plan → List (List ℕ) → Members → ℕ → Option OtherFault
party_fault numeric plan names given p =
    if not (has_field (name_at names p) given) then None
    else if is_misfit kind.Texts (name_at names p) given then Some (other.WrongKind p)
    else option_map (λ fault. other.Inputs p fault)
    (first_fault (text_checks numeric plan p (texts_at (name_at names p) given)))

-- the inputs of party p: those that this table gives, or where it doesn't name p, those of the first run
unfoldable pub party_inputs : List Bool → Plan → List (List ℕ) → InputLists → Members → ℕ → List (List ℕ)
party_inputs numeric plan names inputs given p =
    if has_field (name_at names p) given then sessions_given numeric plan p (texts_at (name_at names p) given)
    else slice_index_or inputs p []

-- ---- the file

-- the first fault of the fields: of the file as such, and then party by party
unfoldable pub other_fault : List Bool → Plan → List (List ℕ) → Members → Option OtherFault
other_fault numeric plan names fields =
    option_or (option_map (λ fault. other.File fault) (first_fault (file_checks names fields)))
    (first_fault (listed plan.parties (party_fault numeric plan names (inputs_in fields))))

unfoldable pub other_inputs : List Bool → Plan → List (List ℕ) → InputLists → Members → InputLists
other_inputs numeric plan names inputs fields =
    listed plan.parties (party_inputs numeric plan names inputs (inputs_in fields))

-- what the fields give, or their first fault
abbrev pub other_in_fields :
    List Bool → Plan → List (List ℕ) → InputLists → Option Members → Result InputLists OtherFault
other_in_fields numeric plan names inputs None = Err (other.File NotToml)
other_in_fields numeric plan names inputs (Some fields) =
    or_fault (other_fault numeric plan names fields) (other_inputs numeric plan names inputs fields)

-- the inputs of all parties that the bytes of a file give beside those of a first run, or its first fault
unfoldable pub other_in :
    List Bool → Plan → List (List ℕ) → InputLists → List ℕ → Result InputLists OtherFault
other_in numeric plan names inputs bytes = other_in_fields numeric plan names inputs (document_of bytes)
