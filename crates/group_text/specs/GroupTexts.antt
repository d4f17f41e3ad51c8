-- The group that a text names.
use Rattle.std.specs.Prelude.{ℕ, ◌==◌, Bool, List, [], length, Result, Ok, if◌then◌else◌, codes}
use Rattle.std.specs.List.{slice_split}
use Rattle.std.specs.Option.{option_map}
use Rattle.std.specs.Str.{bytes_eq}
use Rattle.list_laws.specs.Checks.{or_fault}
use Rattle.party_set.specs.Parties.{Members}
use Rattle.job_file.specs.Faults.{bad_name}
use Rattle.job_file.specs.Forms.{mask_of}
use Rattle.group_text.specs.declared.fault.GroupFault.{GroupFault}
use Rattle.group_text.specs.declared.fault.GroupFault.TheVariants.{BadGroup}

abbrev pub is_plus : ℕ → Bool
is_plus c = c == 43

-- the parts of a text, which `+` joins
abbrev pub parts_of : List ℕ → List (List ℕ)
parts_of text = slice_split is_plus text

abbrev pub no_member : List (List ℕ) → Members
no_member names = record { parties = length names; mask = 0 }

-- the group of these names, or the place of the first that is no party's, or stood before
unfoldable pub group_of : List (List ℕ) → List (List ℕ) → Result Members GroupFault
group_of names parts =
    or_fault (option_map (λ at. BadGroup at) (bad_name names [] parts))
    (record { parties = length names; mask = mask_of names parts })

-- the group that a text names; `0` is the empty group
unfoldable pub group_in : List (List ℕ) → List ℕ → Result Members GroupFault
group_in names text =
    if bytes_eq text (codes "0") then Ok (no_member names) else group_of names (parts_of text)
