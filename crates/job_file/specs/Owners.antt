-- The owners that texts tell.
use Rattle.std.specs.Prelude.{ℕ, ◌<◌, nat_lt, ◌==◌, Bool, ◌&&◌, if◌then◌else◌, List, slice_index, drop, Option, Some, None}
use Rattle.std.specs.List.{before_first, after_first}
use Rattle.std.specs.Option.{option_map, option_zip}
use Rattle.std.specs.Str.Parse.{digits_value}
use Rattle.text_tokens.specs.Numbers.{is_decimal}
use Rattle.party_names.specs.Names.{party_named}
use Rattle.job_file.specs.declared.owner.JobOwner.{JobOwner}
use Rattle.job_file.specs.declared.owner.JobOwner.TheVariants.{Party, Carried}
use Rattle.job_limits.specs.declared.limits.TheConstants.{MOST_VALUES}

-- an owner of this text is to be carried: it begins with `@`, and the file is of version 2
abbrev pub is_carry : Bool → List ℕ → Bool
is_carry version_two text = version_two && (slice_index text 0 == 64)

abbrev pub is_point : ℕ → Bool
is_point c = c == 46

-- the number that a text writes in decimal digits without leading zeros, if it is below the bound
abbrev pub number_below : ℕ → List ℕ → Option ℕ
number_below bound text =
    if is_decimal text && nat_lt (digits_value 10 text) bound then Some (digits_value 10 text) else None

-- the owner that `S.V` tells in the session of this number: output value V, below 1,024, of session S, an earlier one
unfoldable pub carry_in : ℕ → List ℕ → Option JobOwner
carry_in session text =
    option_map (λ carry. Carried carry.0 carry.1)
    (option_zip (number_below session (before_first is_point text))
    (number_below MOST_VALUES (after_first is_point text)))

-- the owner that a text tells in that session: `@S.V` in a file of version 2, or else a party's name
unfoldable pub owner_in : Bool → List (List ℕ) → ℕ → List ℕ → Option JobOwner
owner_in version_two names session text =
    if is_carry version_two text then carry_in session (drop 1 text)
    else option_map (λ party. Party party) (party_named names text)

-- an owner in the session of this number, among `parties` parties: one of them, or such a value of an earlier session
abbrev pub IsOwner : ℕ → ℕ → JobOwner → Type 0
IsOwner parties session (Party party) = party < parties
IsOwner parties session (Carried earlier value) = (earlier < session) × (value < MOST_VALUES)
