-- What a job's file gives, where it has no fault: values are total, with a default where there is none.
use Rattle.std.specs.Prelude.{ℕ, ℤ, pos, nat_abs, Bool, false, if◌then◌else◌, List, map, fold, Option, Some}
use Rattle.std.specs.Option.{unwrap_or}
use Rattle.std.specs.List.{enumerate_from}
use Rattle.std.specs.Ordering.{int_eq}
use Rattle.toml.specs.Data.{Data, Members}
use Rattle.toml_fields.specs.Fields.{has_field, integer_at, text_at, items_at, texts_at, texts_of, fields_of}
use Rattle.party_names.specs.Names.{party_named}
use Rattle.job_file.specs.declared.field.JobField.{JobField}
use Rattle.job_file.specs.declared.field.JobField.TheVariants.{Version, RingBits, Parties, Formula, Tolerated, Hosts, Port, Frames, Views, Session, Circuit, Layout, Products as ProductsField, Order, Owners, Readers}
use Rattle.job_file.specs.declared.layout.SessionLayout.{SessionLayout}
use Rattle.job_file.specs.declared.layout.SessionLayout.TheVariants.{Gates}
use Rattle.circuit_model.specs.declared.layout.CircuitLayout.TheVariants.{Ring}
use Rattle.job_file.specs.declared.owner.JobOwner.{JobOwner}
use Rattle.job_file.specs.declared.owner.JobOwner.TheVariants.{Party}
use Rattle.job_file.specs.declared.products.Products.{Products}
use Rattle.job_file.specs.declared.products.Products.TheVariants.{Direct}
use Rattle.job_file.specs.Names.{field_text, layout_of, are_layered, are_short, are_own}
use Rattle.job_file.specs.Owners.{owner_in}
use Rattle.job_file.specs.Products.{products_named}
use Rattle.party_set.specs.Parties.{with_party}

-- a session: the file of its circuit and what that has, how its products are made, whether its gates go in layers,
-- what gives each input value, and for each output value the mask of the parties that read it
pub record SessionForm : Type 0 where
  pub circuit : List ℕ
  pub layout : SessionLayout
  pub products : Products
  pub layered_gates : Bool
  pub owners : List JobOwner
  pub readers : List ℕ

-- what tells the tolerated groups: the text of a formula, or the masks of the listed groups
pub data AdversaryForm : Type 0 where
  by_formula : List ℕ → AdversaryForm
  by_list : List ℕ → AdversaryForm

-- what a job's file says: the ring, the parties, whom they tolerate, where a node finds its peers, whether frames
-- between nodes are short, whether each node writes its own view, and the sessions
pub record JobForm : Type 0 where
  pub bits : ℕ
  pub names : List (List ℕ)
  pub adversary : AdversaryForm
  pub hosts : List (List ℕ)
  pub port : ℕ
  pub short_frames : Bool
  pub own_views : Bool
  pub sessions : List SessionForm

-- ---- the value of a field

abbrev pub TextList : Type 0
TextList = List (List ℕ)

abbrev pub integer : JobField → Members → ℤ
integer field fields = integer_at (field_text field) fields

abbrev pub text : JobField → Members → List ℕ
text field fields = text_at (field_text field) fields

abbrev pub texts : JobField → Members → TextList
texts field fields = texts_at (field_text field) fields

abbrev pub items : JobField → Members → List Data
items field fields = items_at (field_text field) fields

-- the lists of texts
abbrev pub lists : JobField → Members → List TextList
lists field fields = map texts_of (items field fields)

-- the tables
abbrev pub tables : JobField → Members → List Members
tables field fields = map fields_of (items field fields)

-- ---- the job

-- the file is of version 2, which lists the tolerated groups
abbrev pub is_version_two : Members → Bool
is_version_two fields = int_eq (integer Version fields) (pos 2)

-- the field that tells the tolerated groups
abbrev pub adversary_field : Members → JobField
adversary_field fields = if is_version_two fields then Tolerated else Formula

-- how the products of a session are made: they are direct where no field tells
unfoldable pub products_in : Members → Option Products
products_in fields =
    if has_field (field_text ProductsField) fields then products_named (text ProductsField fields) else Some Direct

-- whether the gates of a session go in layers: they keep the file's order where no field tells
unfoldable pub layered_gates_in : Members → Option Bool
layered_gates_in fields = if has_field (field_text Order) fields then are_layered (text Order fields) else Some false

-- whether frames between nodes are short: they name their messages where no field tells
unfoldable pub short_frames_in : Members → Option Bool
short_frames_in fields = if has_field (field_text Frames) fields then are_short (text Frames fields) else Some false

-- whether each node writes its own view: none does where no field tells
unfoldable pub own_views_in : Members → Option Bool
own_views_in fields = if has_field (field_text Views) fields then are_own (text Views fields) else Some false

-- the party of this name
abbrev pub party_of : List (List ℕ) → List ℕ → ℕ
party_of names name = unwrap_or (party_named names name) 0

-- the mask of these parties: the bit of each is 1
unfoldable pub mask_of : List (List ℕ) → List (List ℕ) → ℕ
mask_of names group = fold (λ mask name. with_party mask (party_of names name)) 0 group

-- the owner that a text tells in the session of this number, in a file of version 2 or not
abbrev pub owner_of : Bool → List (List ℕ) → ℕ → List ℕ → JobOwner
owner_of version_two names session text = unwrap_or (owner_in version_two names session text) (Party 0)

-- the session of this number, of this table
unfoldable pub session_form : Bool → List (List ℕ) → ℕ → Members → SessionForm
session_form version_two names session fields = record {
  circuit = text Circuit fields;
  layout = unwrap_or (layout_of version_two (text Layout fields)) (Gates Ring);
  products = unwrap_or (products_in fields) Direct;
  layered_gates = unwrap_or (layered_gates_in fields) false;
  owners = map (owner_of version_two names session) (texts Owners fields);
  readers = map (mask_of names) (lists Readers fields);
}

-- the sessions of these tables, numbered from 0
abbrev pub session_forms : Bool → List (List ℕ) → List Members → List SessionForm
session_forms version_two names tables =
    map (λ table. session_form version_two names table.0 table.1) (enumerate_from 0 tables)

unfoldable pub adversary_form : Members → AdversaryForm
adversary_form fields =
    if is_version_two fields then by_list (map (mask_of (texts Parties fields)) (lists Tolerated fields))
    else by_formula (text Formula fields)

unfoldable pub job_form : Members → JobForm
job_form fields = record {
  bits = nat_abs (integer RingBits fields);
  names = texts Parties fields;
  adversary = adversary_form fields;
  hosts = texts Hosts fields;
  port = nat_abs (integer Port fields);
  short_frames = unwrap_or (short_frames_in fields) false;
  own_views = unwrap_or (own_views_in fields) false;
  sessions = session_forms (is_version_two fields) (texts Parties fields) (tables Session fields);
}
