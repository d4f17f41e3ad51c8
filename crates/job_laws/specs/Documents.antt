-- Jobs within the limits, and the document of each.
use Rattle.std.specs.Prelude.{◌≡◌, ◌≢◌, ◌⊎◌, ℕ, zero, suc, ◌^◌, ◌<◌, ◌≤◌, Bool, true, false, pos, List, [], ◌∷◌, ◌++◌, length, map, codes, decimal, Option, Some, None, Ok}
use Rattle.std.specs.List.{AllByRecursion, enumerate_from}
use Rattle.std.specs.Str.{IsUtf8}
use Rattle.toml.specs.Data.{Data, string, integer, array, table, Items, no_items, item, Members, no_members, member}
use Rattle.toml.specs.Text.{IsDocumentText}
use Rattle.list_laws.specs.Lists.{joined, only_if}
use Rattle.party_set.specs.Parties.{has_party}
use Rattle.party_names.specs.Names.{name_at, AreNames}
use Rattle.circuit_model.specs.declared.layout.CircuitLayout.TheVariants.{Bristol, Ring}
use Rattle.job_file.specs.declared.field.JobField.{JobField}
use Rattle.job_file.specs.declared.field.JobField.TheVariants.{Version, RingBits, Parties, Formula, Tolerated, Hosts, Port, Frames, Views, Session, Circuit, Layout, Products as ProductsField, Order, Owners, Readers}
use Rattle.job_file.specs.declared.layout.SessionLayout.{SessionLayout}
use Rattle.job_file.specs.declared.layout.SessionLayout.TheVariants.{Gates, Expressions, Numbers}
use Rattle.job_file.specs.declared.owner.JobOwner.{JobOwner}
use Rattle.job_file.specs.declared.owner.JobOwner.TheVariants.{Party, Carried}
use Rattle.job_file.specs.declared.products.Products.{Products}
use Rattle.job_file.specs.declared.products.Products.TheVariants.{Direct, Prepared, Ahead}
use Rattle.job_file.specs.Names.{field_text, is_file_name, is_host}
use Rattle.job_file.specs.Owners.{IsOwner}
use Rattle.job_file.specs.Products.{are_prepared}
use Rattle.job_file.specs.Forms.{JobForm, SessionForm, AdversaryForm, by_formula, by_list}
use Rattle.job_file.specs.Faults.{job_in}
use Rattle.job_file.specs.declared.limits.TheConstants.{LAST_PORT, MOST_TOLERATED}
use Rattle.job_limits.specs.declared.limits.TheConstants.{MOST_SESSIONS}

-- ---- values

-- a field, if there is a value for it, before others
abbrev pub with_field : JobField → Option Data → Members → Members
with_field field None rest = rest
with_field field (Some value) rest = member (field_text field) value rest

-- the items of an array
abbrev pub items_from : List Data → Items
items_from [] = no_items
items_from (d ∷ ds) = item d (items_from ds)

-- a list of texts
abbrev pub texts_data : List (List ℕ) → Data
texts_data texts = array (items_from (map (λ text. string text) texts))

-- the names of the members of the group of this mask
abbrev pub member_names : List (List ℕ) → ℕ → List (List ℕ)
member_names names mask = joined (length names) (λ p. only_if (has_party mask p) (name_at names p ∷ []))

-- a list of groups, each by its members' names
abbrev pub groups_data : List (List ℕ) → List ℕ → Data
groups_data names masks = array (items_from (map (λ mask. texts_data (member_names names mask)) masks))

-- ---- a session

-- the name of a layout
abbrev pub layout_text : SessionLayout → List ℕ
layout_text (Gates Bristol) = codes "bristol"
layout_text (Gates Ring) = codes "ring"
layout_text Expressions = codes "expr"
layout_text Numbers = codes "numbers"

-- the text of this name, where a choice is told by it; where it is not made, none is told
abbrev pub choice_data : List ℕ → Bool → Option Data
choice_data name true = Some (string name)
choice_data name false = None

-- the text that tells in which way products are prepared; none tells that they are direct
abbrev pub products_data : Products → Option Data
products_data Direct = None
products_data Prepared = Some (string (codes "prepared"))
products_data Ahead = Some (string (codes "ahead"))

-- the text that tells that gates go in layers, if they do
abbrev pub order_data : Bool → Option Data
order_data layered = choice_data (codes "layers") layered

-- how an owner is named: a party by its name, a carried value by its session and its number there
abbrev pub owner_text : List (List ℕ) → JobOwner → List ℕ
owner_text names (Party party) = name_at names party
owner_text names (Carried session value) = codes "@" ++ (decimal session ++ (codes "." ++ decimal value))

-- the fields of a session's table, in the order of their names' bytes
abbrev pub session_fields_of : List (List ℕ) → SessionForm → Members
session_fields_of names s =
    with_field Circuit (Some (string s.circuit))
    (with_field Layout (Some (string (layout_text s.layout)))
    (with_field Order (order_data s.layered_gates)
    (with_field Owners (Some (texts_data (map (owner_text names) s.owners)))
    (with_field ProductsField (products_data s.products)
    (with_field Readers (Some (groups_data names s.readers)) no_members)))))

-- the tables of sessions
abbrev pub sessions_data : List (List ℕ) → List SessionForm → Data
sessions_data names sessions = array (items_from (map (λ s. table (session_fields_of names s)) sessions))

-- ---- the job

-- a formula is told in version 1, and a list of groups in version 2
abbrev pub version_data : AdversaryForm → Data
version_data (by_formula text) = integer (pos 1)
version_data (by_list masks) = integer (pos 2)

abbrev pub formula_data : AdversaryForm → Option Data
formula_data (by_formula text) = Some (string text)
formula_data (by_list masks) = None

abbrev pub tolerated_data : List (List ℕ) → AdversaryForm → Option Data
tolerated_data names (by_formula text) = None
tolerated_data names (by_list masks) = Some (groups_data names masks)

-- the hosts and the port of the parties, if they are told
abbrev pub hosts_data : List (List ℕ) → Option Data
hosts_data [] = None
hosts_data (host ∷ hosts) = Some (texts_data (host ∷ hosts))

abbrev pub port_data : ℕ → Option Data
port_data zero = None
port_data (suc n) = Some (integer (pos (suc n)))

-- the texts that tell that frames are short and that each node writes its own view, if they are told
abbrev pub frames_data : Bool → Option Data
frames_data short = choice_data (codes "short") short

abbrev pub views_data : Bool → Option Data
views_data own = choice_data (codes "own") own

-- the fields of the file of a job, in the order of their names' bytes
abbrev pub document_of_job : JobForm → Members
document_of_job job =
    with_field Formula (formula_data job.adversary)
    (with_field Frames (frames_data job.short_frames)
    (with_field Hosts (hosts_data job.hosts)
    (with_field Parties (Some (texts_data job.names))
    (with_field Port (port_data job.port)
    (with_field RingBits (Some (integer (pos job.bits)))
    (with_field Session (Some (sessions_data job.names job.sessions))
    (with_field Tolerated (tolerated_data job.names job.adversary)
    (with_field Version (Some (version_data job.adversary))
    (with_field Views (views_data job.own_views) no_members)))))))))

-- ---- the limits

-- expressions and programs of numbers come with listed groups alone, since all of these are of version 2
abbrev pub HasLayout : AdversaryForm → SessionLayout → Type 0
HasLayout (by_formula text) Expressions = ⊥
HasLayout (by_formula text) Numbers = ⊥
HasLayout _ _ = Unit {0}

-- and so do prepared products, gates in layers, short frames and views of nodes
abbrev pub HasChoice : AdversaryForm → Bool → Type 0
HasChoice (by_formula text) true = ⊥
HasChoice _ _ = Unit {0}

-- and so do carried values
abbrev pub HasOwner : AdversaryForm → JobOwner → Type 0
HasOwner (by_formula text) (Carried session value) = ⊥
HasOwner _ _ = Unit {0}

-- the session of this number among n parties
pub record IsSessionForm (n : ℕ) (adversary : AdversaryForm) (number : ℕ) (s : SessionForm) : Type 0 where
  pub circuit : is_file_name s.circuit ≡ true
  pub layout : HasLayout adversary s.layout
  pub products : HasChoice adversary (are_prepared s.products)
  pub order : HasChoice adversary s.layered_gates
  pub owners : AllByRecursion (IsOwner n number) s.owners
  pub carries : AllByRecursion (HasOwner adversary) s.owners
  pub readers : AllByRecursion (λ mask. mask < 2 ^ n) s.readers

-- such sessions, of which the first has this number
abbrev pub AreSessionForms : ℕ → AdversaryForm → ℕ → List SessionForm → Type 0
AreSessionForms n adversary number sessions =
    AllByRecursion (λ session. IsSessionForm n adversary session.0 session.1) (enumerate_from number sessions)

-- at most 4,096 listed groups, of n parties
abbrev pub HasGroups : ℕ → AdversaryForm → Type 0
HasGroups n (by_formula text) = Unit {0}
HasGroups n (by_list masks) = (length masks ≤ MOST_TOLERATED) × AllByRecursion (λ mask. mask < 2 ^ n) masks

-- no hosts, or one for each party
abbrev pub AreHosts : ℕ → List (List ℕ) → Type 0
AreHosts n hosts = (hosts ≡ []) ⊎ ((length hosts ≡ n) × AllByRecursion (λ host. is_host host ≡ true) hosts)

-- hosts and a port are told
pub record HasPeers (job : JobForm) : Type 0 where
  pub hosts : job.hosts ≢ []
  pub port : job.port ≢ 0

-- a job within the limits, for a node or not
pub record IsJobForm (node : Bool) (job : JobForm) : Type 0 where
  pub some_bits : 1 ≤ job.bits
  pub few_bits : job.bits ≤ 64
  pub names : AreNames job.names
  pub groups : HasGroups (length job.names) job.adversary
  pub hosts : AreHosts (length job.names) job.hosts
  pub port : job.port ≤ LAST_PORT
  pub peers : node ≡ true → HasPeers job
  pub frames : HasChoice job.adversary job.short_frames
  pub views : HasChoice job.adversary job.own_views
  pub some_sessions : 1 ≤ length job.sessions
  pub few_sessions : length job.sessions ≤ MOST_SESSIONS
  pub sessions : AreSessionForms (length job.names) job.adversary 0 job.sessions

-- ---- the laws

-- a text that writes the document of such a job is read as this job
abbrev pub DocumentsSayTheirJobs : Type 0
DocumentsSayTheirJobs =
    (node : Bool) (job : JobForm) (text : List ℕ) → IsJobForm node job
    → IsUtf8 text → IsDocumentText false (document_of_job job) text → job_in node text ≡ Ok job

-- and every job that is read is such a job
abbrev pub ReadJobsAreWithin : Type 0
ReadJobsAreWithin = (node : Bool) (bytes : List ℕ) (job : JobForm) → job_in node bytes ≡ Ok job → IsJobForm node job
