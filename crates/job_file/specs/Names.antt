-- The fields of a job's file, their kinds, and the texts that are taken.
use Rattle.std.specs.Prelude.{ℕ, nat_lt, nat_le, ◌==◌, Bool, true, false, not, ◌&&◌, ◌||◌, if◌then◌else◌, List, [], ◌∷◌, length, slice_index, codes, Option, Some, None}
use Rattle.std.specs.Char.{is_ascii_alphanumeric}
use Rattle.std.specs.List.{list_all}
use Rattle.std.specs.Str.{bytes_eq}
use Rattle.toml_fields.specs.declared.kind.Kind.{Kind}
use Rattle.toml_fields.specs.declared.kind.Kind.TheVariants.{Integer, Text, Texts, TextLists, Tables}
use Rattle.job_file.specs.declared.field.JobField.{JobField}
use Rattle.job_file.specs.declared.field.JobField.TheVariants.{Version, RingBits, Parties, Formula, Tolerated, Hosts, Port, Frames, Views, Session, Circuit, Layout, Products, Order, Owners, Readers}
use Rattle.job_file.specs.declared.layout.SessionLayout.{SessionLayout}
use Rattle.job_file.specs.declared.layout.SessionLayout.TheVariants.{Gates, Expressions, Numbers}
use Rattle.job_file.specs.declared.limits.TheConstants.{LONGEST_FILE_NAME, LONGEST_HOST}
use Rattle.circuit_model.specs.declared.layout.CircuitLayout.TheVariants.{Bristol, Ring}

-- how the file names a field
unfoldable pub field_text : JobField → List ℕ
field_text Version = codes "version"
field_text RingBits = codes "ring_bits"
field_text Parties = codes "parties"
field_text Formula = codes "formula"
field_text Tolerated = codes "tolerated"
field_text Hosts = codes "hosts"
field_text Port = codes "port"
field_text Frames = codes "frames"
field_text Views = codes "views"
field_text Session = codes "session"
field_text Circuit = codes "circuit"
field_text Layout = codes "layout"
field_text Products = codes "products"
field_text Order = codes "order"
field_text Owners = codes "owners"
field_text Readers = codes "readers"

unfoldable pub field_kind : JobField → Kind
field_kind Version = Integer
field_kind RingBits = Integer
field_kind Parties = Texts
field_kind Formula = Text
field_kind Tolerated = TextLists
field_kind Hosts = Texts
field_kind Port = Integer
field_kind Frames = Text
field_kind Views = Text
field_kind Session = Tables
field_kind Circuit = Text
field_kind Layout = Text
field_kind Products = Text
field_kind Order = Text
field_kind Owners = Texts
field_kind Readers = TextLists

-- the fields of the top table, in a file of version 2 or not, of which one tells the tolerated groups
abbrev pub top_fields : Bool → JobField → List JobField
top_fields version_two adversary =
    Version ∷ RingBits ∷ Parties ∷ adversary ∷ Hosts ∷ Port ∷ Session
    ∷ (if version_two then Frames ∷ Views ∷ [] else [])

-- the fields of a session, in a file of version 2 or not
abbrev pub session_fields : Bool → List JobField
session_fields version_two = Circuit ∷ Layout ∷ Owners ∷ Readers ∷ (if version_two then Products ∷ Order ∷ [] else [])

-- a letter, a digit, `.`, `_` or `-`
abbrev pub is_file_byte : ℕ → Bool
is_file_byte c = is_ascii_alphanumeric c || ((c == 46) || ((c == 95) || (c == 45)))

-- 1 to 64 such bytes, of which the first is no `.`
unfoldable pub is_file_name : List ℕ → Bool
is_file_name name =
    (nat_lt 0 (length name) && nat_le (length name) LONGEST_FILE_NAME) &&
    (not (slice_index name 0 == 46) && list_all is_file_byte name)

-- a letter, a digit, `.`, `-` or `:`
abbrev pub is_host_byte : ℕ → Bool
is_host_byte c = is_ascii_alphanumeric c || ((c == 46) || ((c == 45) || (c == 58)))

-- 1 to 64 such bytes
unfoldable pub is_host : List ℕ → Bool
is_host host = (nat_lt 0 (length host) && nat_le (length host) LONGEST_HOST) && list_all is_host_byte host

-- the layout of this name, in a file of version 2 or not
unfoldable pub layout_of : Bool → List ℕ → Option SessionLayout
layout_of version_two name =
    if bytes_eq name (codes "bristol") then Some (Gates Bristol)
    else if bytes_eq name (codes "ring") then Some (Gates Ring)
    else if version_two && bytes_eq name (codes "expr") then Some Expressions
    else if version_two && bytes_eq name (codes "numbers") then Some Numbers
    else None

-- whether this text, file or layers, says that gates go in layers
unfoldable pub are_layered : List ℕ → Option Bool
are_layered name =
    if bytes_eq name (codes "file") then Some false
    else if bytes_eq name (codes "layers") then Some true
    else None

-- whether this text, named or short, says that frames are short
unfoldable pub are_short : List ℕ → Option Bool
are_short name =
    if bytes_eq name (codes "named") then Some false
    else if bytes_eq name (codes "short") then Some true
    else None

-- whether this text, none or own, says that each node writes its own view
unfoldable pub are_own : List ℕ → Option Bool
are_own name =
    if bytes_eq name (codes "none") then Some false
    else if bytes_eq name (codes "own") then Some true
    else None
