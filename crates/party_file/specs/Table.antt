-- The file of a party: its checks in order, what it gives, and the first fault.
use Rattle.std.specs.Prelude.{ℕ, Bool, ◌*◌, ◌^◌, nat_lt, ◌==◌, not, ◌&&◌, ◌||◌, pos, List, [], ◌∷◌, ◌++◌, length, map, sum, slice_index, slice_index_or, Option, Some, None, Result, Err, if◌then◌else◌, codes}
use Rattle.std.specs.List.{filter, position_or_len}
use Rattle.std.specs.Option.{is_some, unwrap_or}
use Rattle.std.specs.Ordering.{int_eq}
use Rattle.std.specs.Result.{is_err, result_unwrap_or}
use Rattle.hex.specs.Hex.{decode_sized}
use Rattle.toml.specs.Data.{Members}
use Rattle.list_laws.specs.Lists.{joined, listed}
use Rattle.plain_text.specs.Words.{numbers_or_fault}
use Rattle.plain_text.specs.declared.fault.WordsFault.{WordsFault}
use Rattle.plain_text.specs.declared.fault.WordsFault.TheVariants.{NotNumber, TooLarge}
use Rattle.tape_words.specs.Cuts.{cut}
use Rattle.tape_words.specs.Seeds.{seed_word}
use Rattle.toml_fields.specs.Documents.{document_of}
use Rattle.toml_fields.specs.Fields.{has_field, is_misfit, integer_at, text_at, texts_at}
use Rattle.toml_fields.specs.Keys.{least_unknown}
use Rattle.toml_fields.specs.declared.kind.Kind.TheVariants as kind
use Rattle.plan_model.specs.Plans.{Plan, session, words}
use Rattle.session_slots.specs.Counts.{owned}
use Rattle.session_slots.specs.Sessions.{Session, given_by, source_from}
use Rattle.session_slots.specs.declared.values.InputValue.{InputValue}
use Rattle.value_words.specs.Turned.{is_numeric, most_bits, wires_of}
use Rattle.list_laws.specs.Checks.{◌answers◌, first_fault, or_fault}
use Rattle.party_file.specs.declared.field.PartyField.TheVariants as field
use Rattle.party_file.specs.declared.fault.WordCause.{WordCause}
use Rattle.party_file.specs.declared.fault.WordCause.TheVariants as cause
use Rattle.party_file.specs.declared.fault.PartyFault.{PartyFault}
use Rattle.party_file.specs.declared.fault.PartyFault.TheVariants.{NotToml, Version, Missing, Unknown, WrongKind, CountDiffers, BadWords, WordOutOfRing, TapeAndSeed, BadSeed, TapeShort}

-- ---- the fields

-- the version is there, an integer, and 1
unfoldable pub version_checks : Members → List (Option PartyFault)
version_checks fields =
    (not (has_field (codes "version") fields) answers Missing field.Version)
    ∷ (is_misfit kind.Integer (codes "version") fields answers WrongKind field.Version)
    ∷ (not (int_eq (integer_at (codes "version") fields) (pos 1)) answers Version (integer_at (codes "version") fields))
    ∷ []

-- the names that fields may have
abbrev pub field_names : List (List ℕ)
field_names = codes "version" ∷ codes "inputs" ∷ codes "tape" ∷ codes "seed" ∷ []

-- no field has another name; the least one that has is told
unfoldable pub name_checks : Members → List (Option PartyFault)
name_checks fields =
    (is_some (least_unknown field_names fields) answers Unknown (unwrap_or (least_unknown field_names fields) [])) ∷ []

-- the inputs are there, and each field is of its kind
unfoldable pub kind_checks : Members → List (Option PartyFault)
kind_checks fields =
    (not (has_field (codes "inputs") fields) answers Missing field.Inputs)
    ∷ (is_misfit kind.Texts (codes "inputs") fields answers WrongKind field.Inputs)
    ∷ (is_misfit kind.Text (codes "tape") fields answers WrongKind field.Tape)
    ∷ (is_misfit kind.Text (codes "seed") fields answers WrongKind field.Seed)
    ∷ []

-- one of tape and seed, and a text of inputs for each of `sessions` sessions
unfoldable pub count_checks : ℕ → Members → List (Option PartyFault)
count_checks sessions fields =
    ((has_field (codes "tape") fields && has_field (codes "seed") fields) answers TapeAndSeed)
    ∷ (not (has_field (codes "tape") fields || has_field (codes "seed") fields) answers Missing field.Tape)
    ∷ (not (length (texts_at (codes "inputs") fields) == sessions) answers CountDiffers None sessions
    (length (texts_at (codes "inputs") fields)))
    ∷ []

-- ---- words

-- the numbers of a text; none, where a word is bad
unfoldable pub numbers_in : List ℕ → List ℕ
numbers_in text = result_unwrap_or (numbers_or_fault text) []

-- where the bad word stands
abbrev pub bad_place : Result (List ℕ) WordsFault → ℕ
bad_place (Err (NotNumber at)) = at
bad_place (Err (TooLarge at)) = at
bad_place _ = 0

-- what is wrong with the bad word
abbrev pub bad_cause : Result (List ℕ) WordsFault → WordCause
bad_cause (Err (TooLarge at)) = cause.TooLarge
bad_cause _ = cause.NotNumber

-- some word of the text is bad
unfoldable pub bad_words : Option ℕ → List ℕ → Option PartyFault
bad_words session text =
    is_err (numbers_or_fault text)
    answers BadWords session (bad_place (numbers_or_fault text)) (bad_cause (numbers_or_fault text))

-- the place of the first word that isn't below q
unfoldable pub first_outside : ℕ → List ℕ → ℕ
first_outside q words = position_or_len (λ word. not (nat_lt word q)) words

-- some word isn't in the ring of `bits` bits
unfoldable pub out_of_ring : ℕ → Option ℕ → List ℕ → Option PartyFault
out_of_ring bits session words =
    nat_lt (first_outside (2 ^ bits) words) (length words) answers WordOutOfRing session
    (first_outside (2 ^ bits) words)

-- ---- inputs

-- there are other than as many words of session s as are wanted
abbrev pub other_count : ℕ → ℕ → List ℕ → Option PartyFault
other_count wanted s words = not (length words == wanted) answers CountDiffers (Some s) wanted (length words)

-- the inputs of session s, a word for each of `wires` wires
unfoldable pub wire_checks : ℕ → ℕ → ℕ → List ℕ → List (Option PartyFault)
wire_checks bits wires s text =
    bad_words (Some s) text ∷ out_of_ring bits (Some s) (numbers_in text) ∷ other_count wires s (numbers_in text) ∷ []

-- party p gives the input value
abbrev pub gives_value : ℕ → InputValue → Bool
gives_value p value = given_by p (source_from value.owner 0)

-- the widths of the input values that party p gives, in their order
abbrev pub given_widths : Session → ℕ → List ℕ
given_widths session p = map (λ (value : InputValue). value.width) (filter (gives_value p) session.inputs)

-- the width of each number's value: there is a number for each lane of each value
abbrev pub number_widths : ℕ → List ℕ → List ℕ
number_widths lanes widths = joined (length widths) (λ value. listed lanes (λ lane. slice_index widths value))

-- the number at this place has more bits than its value has wires; one behind the last value may have all
abbrev pub number_outside : List ℕ → ℕ → List ℕ → ℕ → Option PartyFault
number_outside widths s numbers place =
    not (nat_lt (slice_index numbers place) (2 ^ slice_index_or widths place most_bits)) answers
    WordOutOfRing (Some s) place

-- each of the numbers is looked at
abbrev pub numbers_outside : List ℕ → ℕ → List ℕ → List (Option PartyFault)
numbers_outside widths s numbers = listed (length numbers) (number_outside widths s numbers)

-- the inputs of session s, a number for each lane of each value of these widths
unfoldable pub number_checks : ℕ → List ℕ → ℕ → List ℕ → List (Option PartyFault)
number_checks lanes widths s text =
    bad_words (Some s) text
    ∷ (numbers_outside (number_widths lanes widths) s (numbers_in text)
    ++ (other_count (length widths * lanes) s (numbers_in text) ∷ []))

-- the inputs of party p in session s
abbrev pub session_checks : List Bool → Plan → ℕ → ℕ → List ℕ → List (Option PartyFault)
session_checks numeric plan p s text =
    if is_numeric numeric s then number_checks plan.bits (given_widths (session plan s) p) s text
    else wire_checks plan.bits (owned (session plan s) p) s text

-- and what they give: the words of the input wires that the party gives
abbrev pub session_given : List Bool → Plan → ℕ → ℕ → List ℕ → List ℕ
session_given numeric plan p s text =
    if is_numeric numeric s then wires_of plan.bits (given_widths (session plan s) p) (numbers_in text)
    else numbers_in text

-- the inputs of party p, session by session
unfoldable pub input_checks : List Bool → Plan → ℕ → List (List ℕ) → List (Option PartyFault)
input_checks numeric plan p texts =
    joined (length plan.sessions) (λ s. session_checks numeric plan p s (slice_index_or texts s []))

-- and what they give
abbrev pub sessions_given : List Bool → Plan → ℕ → List (List ℕ) → List (List ℕ)
sessions_given numeric plan p texts =
    listed (length texts) (λ s. session_given numeric plan p s (slice_index_or texts s []))

-- ---- tape or seed

-- how many words party p draws in each session
unfoldable pub word_counts : Plan → ℕ → List ℕ
word_counts plan p = listed (length plan.sessions) (words plan p)

-- a tape of which `wanted` words are drawn
unfoldable pub tape_checks : ℕ → ℕ → List ℕ → List (Option PartyFault)
tape_checks bits wanted text =
    bad_words None text
    ∷ out_of_ring bits None (numbers_in text)
    ∷ (nat_lt (length (numbers_in text)) wanted answers TapeShort wanted (length (numbers_in text)))
    ∷ []

-- 64 hexadecimal digits
unfoldable pub seed_checks : List ℕ → List (Option PartyFault)
seed_checks text = (is_err (decode_sized text 32) answers BadSeed) ∷ []

-- the bytes of a seed; none, where it is bad
unfoldable pub seed_in : List ℕ → List ℕ
seed_in text = result_unwrap_or (decode_sized text 32) []

-- the tape or the seed, whichever stands there
unfoldable pub random_checks : Plan → ℕ → Members → List (Option PartyFault)
random_checks plan p fields =
    if has_field (codes "seed") fields then seed_checks (text_at (codes "seed") fields)
    else tape_checks plan.bits (sum (word_counts plan p)) (text_at (codes "tape") fields)

-- a tape is cut session by session, and a seed has a stream for each session
unfoldable pub tapes_of : Plan → ℕ → Members → List (List ℕ)
tapes_of plan p fields =
    if has_field (codes "seed") fields
    then listed (length plan.sessions) (λ s. listed (words plan p s)
    (seed_word plan.bits (seed_in (text_at (codes "seed") fields)) s))
    else cut (word_counts plan p) (numbers_in (text_at (codes "tape") fields))

-- ---- the file

-- what a party's file gives, by session
pub record PartyForm : Type 0 where
  pub inputs : List (List ℕ)
  pub tapes : List (List ℕ)

-- what the fields give: the words of each session's inputs, and its tape, which is given or made of a seed
unfoldable pub party_given : List Bool → Plan → ℕ → Members → PartyForm
party_given numeric plan p fields =
    record {
      inputs = sessions_given numeric plan p (texts_at (codes "inputs") fields);
      tapes = tapes_of plan p fields;
    }

-- all checks, in order
unfoldable pub party_checks : List Bool → Plan → ℕ → Members → List (Option PartyFault)
party_checks numeric plan p fields =
    version_checks fields ++ (name_checks fields ++ (kind_checks fields ++ (count_checks (length plan.sessions) fields
    ++ (input_checks numeric plan p (texts_at (codes "inputs") fields) ++ random_checks plan p fields))))

-- what the fields stand for, or their first fault
abbrev pub party_in_fields : List Bool → Plan → ℕ → Option Members → Result PartyForm PartyFault
party_in_fields numeric plan p None = Err NotToml
party_in_fields numeric plan p (Some fields) =
    or_fault (first_fault (party_checks numeric plan p fields)) (party_given numeric plan p fields)

-- what the bytes of the file of party p stand for, or their first fault; `numeric` tells of each session whether its
-- words are numbers
unfoldable pub party_in : List Bool → Plan → ℕ → List ℕ → Result PartyForm PartyFault
party_in numeric plan p bytes = party_in_fields numeric plan p (document_of bytes)
