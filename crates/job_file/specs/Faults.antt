-- The faults of a job's file, in the order in which they are checked.
use Rattle.std.specs.Prelude.{ℕ, ◌+◌, nat_lt, ◌==◌, min, Bool, not, ◌&&◌, ◌||◌, if◌then◌else◌, ℤ, pos, int_le, List, [], ◌∷◌, ◌++◌, length, map, position, Option, Some, None, Result, Err}
use Rattle.std.specs.List.{list_any}
use Rattle.std.specs.Option.{is_none, option_map, option_or, option_map_or}
use Rattle.std.specs.Str.{bytes_eq}
use Rattle.list_laws.specs.Checks.{◌answers◌, first_fault, or_fault}
use Rattle.toml.specs.Data.{Members}
use Rattle.toml_fields.specs.Documents.{document_of}
use Rattle.toml_fields.specs.Fields.{has_field, is_misfit}
use Rattle.toml_fields.specs.Keys.{least_unknown}
use Rattle.party_names.specs.Names.{party_named, names_fault}
use Rattle.job_file.specs.declared.field.JobField.{JobField}
use Rattle.job_file.specs.declared.field.JobField.TheVariants.{Version, RingBits, Parties, Tolerated, Hosts, Port, Frames, Views, Session, Circuit, Layout, Products, Order, Owners, Readers}
use Rattle.job_file.specs.declared.fault.JobFault.{JobFault}
use Rattle.job_file.specs.declared.fault.JobFault.TheVariants.{NotToml, Version as OtherVersion, Missing, Unknown, WrongKind, BadRing, Names, SessionCount, BadFileName, BadLayout, BadProducts, BadOrder, BadOwner, BadCarry, BadReader, BadHost, BadPort, BadFrames, BadViews, BadTolerated, TooManyTolerated}
use Rattle.job_file.specs.Names.{field_text, field_kind, top_fields, session_fields, is_file_name, is_host, layout_of}
use Rattle.job_file.specs.Owners.{is_carry, owner_in}
use Rattle.job_file.specs.Forms.{JobForm, TextList, job_form, is_version_two, adversary_field, products_in, layered_gates_in, short_frames_in, own_views_in, integer, text, texts, items, lists, tables}
use Rattle.job_file.specs.declared.limits.TheConstants.{LAST_PORT, MOST_TOLERATED}
use Rattle.job_limits.specs.declared.limits.TheConstants.{MOST_SESSIONS}

-- ---- lists of parties' names

abbrev pub is_no_party : List (List ℕ) → List ℕ → Bool
is_no_party names name = is_none (party_named names name)

-- the place of the first text that is no party's name, or stands before
unfoldable pub bad_name : TextList → TextList → TextList → Option ℕ
bad_name names before [] = None
bad_name names before (text ∷ rest) =
    if is_no_party names text || list_any (λ other. bytes_eq other text) before
    then Some (length before)
    else bad_name names (before ++ text ∷ []) rest

-- the first such text of the lists from this one on: its list, and its place there
unfoldable pub bad_in_lists : TextList → ℕ → List TextList → Option (ℕ × ℕ)
bad_in_lists names value [] = None
bad_in_lists names value (list ∷ rest) =
    option_or (option_map (λ at. (value, at)) (bad_name names [] list))
    (bad_in_lists names (value + 1) rest)

-- ---- rows on one field

abbrev pub is_there : JobField → Members → Bool
is_there field fields = has_field (field_text field) fields

abbrev pub is_of_other_kind : JobField → Members → Bool
is_of_other_kind field fields = is_misfit (field_kind field) (field_text field) fields

-- a field that must be there, in a session or (without one) in the top table
unfoldable pub required_fault : Option ℕ → JobField → Members → Option JobFault
required_fault session field fields = first_fault
    ((not (is_there field fields) answers Missing session field)
    ∷ (is_of_other_kind field fields answers WrongKind session field)
    ∷ [])

-- a field that may be missing
unfoldable pub optional_fault : Option ℕ → JobField → Members → Option JobFault
optional_fault session field fields = is_of_other_kind field fields answers WrongKind session field

-- a field that must be there for a node
abbrev pub node_fault : Bool → JobField → Members → Option JobFault
node_fault node field fields = if node then required_fault None field fields else optional_fault None field fields

-- a field that is not among these, the least by bytes
unfoldable pub unknown_fault : Option ℕ → List JobField → Members → Option JobFault
unknown_fault session known fields =
    option_map (λ name. Unknown session name) (least_unknown (map field_text known) fields)

-- ---- the top table

abbrev pub is_within : ℤ → ℤ → ℤ → Bool
is_within low high z = int_le low z && int_le z high

unfoldable pub version_fault : Members → Option JobFault
version_fault fields = first_fault
    (required_fault None Version fields
    ∷ (not (is_within (pos 1) (pos 2) (integer Version fields))
    answers OtherVersion (integer Version fields))
    ∷ [])

unfoldable pub fields_fault : Bool → Members → Option JobFault
fields_fault node fields = first_fault
    (required_fault None RingBits fields
    ∷ required_fault None Parties fields
    ∷ required_fault None (adversary_field fields) fields
    ∷ node_fault node Hosts fields
    ∷ node_fault node Port fields
    ∷ optional_fault None Frames fields
    ∷ optional_fault None Views fields
    ∷ required_fault None Session fields
    ∷ [])

unfoldable pub ring_fault : Members → Option JobFault
ring_fault fields = not (is_within (pos 1) (pos 64) (integer RingBits fields)) answers BadRing (integer RingBits fields)

unfoldable pub parties_fault : Members → Option JobFault
parties_fault fields = option_map (λ fault. Names fault) (names_fault (texts Parties fields))

-- at most 4,096 tolerated groups, each of different parties
unfoldable pub groups_fault : TextList → List TextList → Option JobFault
groups_fault names groups = first_fault
    ((nat_lt MOST_TOLERATED (length groups) answers TooManyTolerated (length groups))
    ∷ option_map (λ bad. BadTolerated bad.0 bad.1) (bad_in_lists names 0 groups)
    ∷ [])

-- the faults of the field that tells the tolerated groups: a formula's are told later
abbrev pub adversary_fault : Members → Option JobFault
adversary_fault fields =
    if is_version_two fields then groups_fault (texts Parties fields) (lists Tolerated fields) else None

-- 1 to 16 sessions
unfoldable pub count_fault : ℕ → Option JobFault
count_fault count = ((count == 0) || nat_lt MOST_SESSIONS count) answers SessionCount count

-- one host for each party, each well formed
unfoldable pub hosts_fault : Members → Option JobFault
hosts_fault fields = first_fault
    (((is_there Hosts fields && not (length (texts Hosts fields) == length (texts Parties fields))) answers BadHost
    (min (length (texts Hosts fields)) (length (texts Parties fields))))
    ∷ option_map (λ at. BadHost at) (position (λ host. not (is_host host)) (texts Hosts fields))
    ∷ [])

unfoldable pub port_fault : Members → Option JobFault
port_fault fields =
    (is_there Port fields && not (is_within (pos 1) (pos LAST_PORT) (integer Port fields))) answers BadPort
    (integer Port fields)

unfoldable pub frames_fault : Members → Option JobFault
frames_fault fields = is_none (short_frames_in fields) answers BadFrames

unfoldable pub views_fault : Members → Option JobFault
views_fault fields = is_none (own_views_in fields) answers BadViews

-- ---- a session

-- that of the fields of a session, in a file of version 2 or not
unfoldable pub session_fields_fault : Bool → ℕ → Members → Option JobFault
session_fields_fault version_two session fields = first_fault
    (unknown_fault (Some session) (session_fields version_two) fields
    ∷ required_fault (Some session) Circuit fields
    ∷ required_fault (Some session) Layout fields
    ∷ optional_fault (Some session) Products fields
    ∷ optional_fault (Some session) Order fields
    ∷ required_fault (Some session) Owners fields
    ∷ required_fault (Some session) Readers fields
    ∷ [])

-- that of an owner's text in a session, at its place
abbrev pub owner_fault : Bool → List (List ℕ) → ℕ → ℕ → List ℕ → Option JobFault
owner_fault version_two names session at text =
    is_none (owner_in version_two names session text) answers
    (if is_carry version_two text then BadCarry session at else BadOwner session at)

-- that of the first of the owners from this place on that has one
unfoldable pub owners_fault : Bool → List (List ℕ) → ℕ → ℕ → List (List ℕ) → Option JobFault
owners_fault version_two names session at [] = None
owners_fault version_two names session at (text ∷ rest) = first_fault
    (owner_fault version_two names session at text
    ∷ owners_fault version_two names session (at + 1) rest
    ∷ [])

-- that of their values
unfoldable pub session_values_fault : Bool → List (List ℕ) → ℕ → Members → Option JobFault
session_values_fault version_two names session fields = first_fault
    ((not (is_file_name (text Circuit fields)) answers BadFileName session)
    ∷ (is_none (layout_of version_two (text Layout fields)) answers BadLayout session)
    ∷ (is_none (products_in fields) answers BadProducts session)
    ∷ (is_none (layered_gates_in fields) answers BadOrder session)
    ∷ owners_fault version_two names session 0 (texts Owners fields)
    ∷ option_map (λ bad. BadReader session bad.0 bad.1)
    (bad_in_lists names 0 (lists Readers fields))
    ∷ [])

-- the first fault of the sessions from this one on: all of one session's before the next one's
unfoldable pub sessions_fault : Bool → List (List ℕ) → ℕ → List Members → Option JobFault
sessions_fault version_two names session [] = None
sessions_fault version_two names session (fields ∷ rest) = first_fault
    (session_fields_fault version_two session fields
    ∷ session_values_fault version_two names session fields
    ∷ sessions_fault version_two names (session + 1) rest
    ∷ [])

-- ---- the whole file

-- the first fault of a document, read for a node or not
unfoldable pub job_fault : Bool → Members → Option JobFault
job_fault node fields = first_fault
    (version_fault fields
    ∷ unknown_fault None (top_fields (is_version_two fields) (adversary_field fields)) fields
    ∷ fields_fault node fields
    ∷ ring_fault fields
    ∷ parties_fault fields
    ∷ adversary_fault fields
    ∷ count_fault (length (items Session fields))
    ∷ sessions_fault (is_version_two fields) (texts Parties fields) 0 (tables Session fields)
    ∷ hosts_fault fields
    ∷ port_fault fields
    ∷ frames_fault fields
    ∷ views_fault fields
    ∷ [])

-- the job that some bytes stand for, or the first fault
unfoldable pub job_in : Bool → List ℕ → Result JobForm JobFault
job_in node bytes =
    option_map_or (λ fields. or_fault (job_fault node fields) (job_form fields)) (document_of bytes) (Err NotToml)
