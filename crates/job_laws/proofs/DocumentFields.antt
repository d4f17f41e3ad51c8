-- What the fields of a document give, by name; that they ascend, and that each is known.
use Rattle.std.proofs.Common.{◌≡◌, ℕ, ◌≤◌, Bool, true, false, cond, ◌&&◌, List, Ordering, Less, Equal, Greater, Option, None, Some, IfSome, refl, sym, ap, ap₂, ◌∙◌, arith}
use Rattle.std.specs.Ordering.{nat_cmp, is_eq, is_lt, match_ordering}
use Rattle.std.specs.Cmp.Lexicographic.{slice_cmp}
use Rattle.std.specs.Str.{bytes_eq}
use Rattle.std.proofs.lemmas.Map.Text.{is_eq-slice_cmp}
use Rattle.std.proofs.lemmas.Slice.Eq.{bytes_eq-Decides}
use Rattle.toml.specs.Data.{Data, Members, no_members, member, depth, get_member, is_before, members_depth, members_have_valid_dates, members_are_sorted}
use Rattle.toml_fields.specs.Keys.{is_known, lesser, least_unknown}
use Rattle.job_file.specs.declared.field.JobField.{JobField}
use Rattle.job_file.specs.declared.field.JobField.TheVariants.{Version, RingBits, Parties, Formula, Tolerated, Hosts, Port, Frames, Views, Session, Circuit, Layout, Products, Order, Owners, Readers}
use Rattle.job_file.specs.Names.{field_text}
use Rattle.job_laws.specs.Documents.{with_field}
use Rattle.job_laws.proofs.DocumentShapes.{IsPlain, max_below}

-- ---- look-ups

other : {X : Type 0} (r : Ordering) (a b : X) → is_eq r ≡ false → match_ordering r a b a ≡ a
other Less a b e = refl
other Equal a b e = cc
other Greater a b e = refl

same : {X : Type 0} (r : Ordering) (a b : X) → is_eq r ≡ true → match_ordering r a b a ≡ b
same Less a b e = cc
same Equal a b e = refl
same Greater a b e = cc

abbrev are_same : JobField → JobField → Bool
are_same f g = is_eq (slice_cmp nat_cmp (field_text f) (field_text g))

-- the value of a field
abbrev pub value_of : JobField → Members → Option Data
value_of field ms = get_member (field_text field) ms

past : (wanted field : JobField) (o : Option Data) (rest : Members) → are_same wanted field ≡ false → value_of wanted (with_field field o rest) ≡ value_of wanted rest
past wanted field None rest e = refl
past wanted field (Some d) rest e = other (slice_cmp nat_cmp (field_text wanted) (field_text field)) (value_of wanted rest) (Some d) e

here : (field : JobField) (d : Data) (rest : Members) → are_same field field ≡ true → value_of field (with_field field (Some d) rest) ≡ Some d
here field d rest e = same (slice_cmp nat_cmp (field_text field) (field_text field)) (value_of field rest) (Some d) e

here_or : (field : JobField) (o : Option Data) (rest : Members) → are_same field field ≡ true → value_of field rest ≡ None → value_of field (with_field field o rest) ≡ o
here_or field None rest e none = none
here_or field (Some d) rest e none = here field d rest e

-- ---- order, depth and dates

pub record AreFields (n : ℕ) (ms : Members) : Type 0 where
  pub deep : members_depth ms ≤ n
  pub dates : members_have_valid_dates ms ≡ true
  pub sorted : members_are_sorted ms ≡ true

before : (first field : JobField) (o : Option Data) (rest : Members) → is_lt (slice_cmp nat_cmp (field_text first) (field_text field)) ≡ true → is_before (field_text first) rest ≡ true
    → is_before (field_text first) (with_field field o rest) ≡ true
before first field None rest e h = h
before first field (Some d) rest e h = e

one_more : (n : ℕ) (field : JobField) (o : Option Data) (rest : Members) → IfSome o (IsPlain n) → is_before (field_text field) rest ≡ true → AreFields n rest → AreFields n (with_field field o rest)
one_more n field None rest plain first are = are
one_more n field (Some d) rest plain first are = record {
  deep = max_below (depth d) (members_depth rest) n plain.deep are.deep;
  dates = ap₂ (λ a b. a && b) plain.dates are.dates;
  sorted = ap₂ (λ a b. a && b) (ap₂ (λ a b. a && b) first plain.sorted) are.sorted;
}

no_more : (n : ℕ) → AreFields n no_members
no_more n = record { deep = omega arith; dates = refl; sorted = refl }

-- ---- known fields

known : (names : List (List ℕ)) (field : JobField) (o : Option Data) (rest : Members) → is_known names (field_text field) ≡ true → least_unknown names rest ≡ None → least_unknown names (with_field field o rest) ≡ None
unfolding least_unknown
known names field None rest e none = none
known names field (Some d) rest e none = ap (λ b. cond b (least_unknown names rest) (Some (lesser (field_text field) (least_unknown names rest)))) e ∙ none

known_if : (names : List (List ℕ)) (field : JobField) (o : Option Data) (rest : Members) → IfSome o (λ d. is_known names (field_text field) ≡ true) → least_unknown names rest ≡ None → least_unknown names (with_field field o rest) ≡ None
known_if names field None rest e none = none
known_if names field (Some d) rest e none = known names field (Some d) rest e none

none_known : (names : List (List ℕ)) → least_unknown names no_members ≡ None
unfolding least_unknown
none_known names = refl

-- where all are known, a name that is not known is that of no field
not_among : (names : List (List ℕ)) (key name : List ℕ) → is_known names key ≡ false → is_known names name ≡ true → bytes_eq key name ≡ false
not_among names key name unknown is = differ (bytes_eq key name) refl
  where
    differ : (b : Bool) → bytes_eq key name ≡ b → bytes_eq key name ≡ false
    differ false e = e
    differ true e = let same : key ≡ name = (bytes_eq-Decides key name).0 e in absurd (let both = sym unknown ∙ ap (is_known names) same ∙ is in cc)

all_known : (names : List (List ℕ)) (name : List ℕ) (d : Data) (rest : Members) → least_unknown names (member name d rest) ≡ None → (is_known names name ≡ true) × (least_unknown names rest ≡ None)
unfolding least_unknown
all_known names name d rest e = each (is_known names name) e
  where
    each : (b : Bool) → cond b (least_unknown names rest) (Some (lesser name (least_unknown names rest))) ≡ None → (b ≡ true) × (least_unknown names rest ≡ None)
    each true e = (refl, e)
    each false e = cc

pub not_known : (names : List (List ℕ)) (key : List ℕ) (ms : Members) → is_known names key ≡ false → least_unknown names ms ≡ None → get_member key ms ≡ None
not_known names key no_members unknown e = refl
not_known names key (member name d rest) unknown e =
    let all = all_known names name d rest e in
    other (slice_cmp nat_cmp key name) (get_member key rest) (Some d) (is_eq-slice_cmp key name ∙ not_among names key name unknown all.0) ∙ not_known names key rest unknown all.1

-- ---- the top table

module _ (formula frames hosts port tolerated views : Option Data) (parties bits session version : Data) where
  abbrev from_views : Members
  from_views = with_field Views views no_members

  abbrev from_version : Members
  from_version = with_field Version (Some version) from_views

  abbrev from_tolerated : Members
  from_tolerated = with_field Tolerated tolerated from_version

  abbrev from_session : Members
  from_session = with_field Session (Some session) from_tolerated

  abbrev from_bits : Members
  from_bits = with_field RingBits (Some bits) from_session

  abbrev from_port : Members
  from_port = with_field Port port from_bits

  abbrev from_parties : Members
  from_parties = with_field Parties (Some parties) from_port

  abbrev from_hosts : Members
  from_hosts = with_field Hosts hosts from_parties

  abbrev from_frames : Members
  from_frames = with_field Frames frames from_hosts

  abbrev pub top : Members
  top = with_field Formula formula from_frames

  pub at_formula : value_of Formula top ≡ formula
  unfolding field_text
  at_formula =
      here_or Formula formula from_frames refl
      (past Formula Frames frames from_hosts refl ∙ past Formula Hosts hosts from_parties refl ∙ past Formula Parties (Some parties) from_port refl ∙ past Formula Port port from_bits refl
      ∙ past Formula RingBits (Some bits) from_session refl ∙ past Formula Session (Some session) from_tolerated refl ∙ past Formula Tolerated tolerated from_version refl
      ∙ past Formula Version (Some version) from_views refl ∙ past Formula Views views no_members refl)

  pub at_frames : value_of Frames top ≡ frames
  unfolding field_text
  at_frames =
      past Frames Formula formula from_frames refl ∙ here_or Frames frames from_hosts refl
      (past Frames Hosts hosts from_parties refl ∙ past Frames Parties (Some parties) from_port refl ∙ past Frames Port port from_bits refl ∙ past Frames RingBits (Some bits) from_session refl
      ∙ past Frames Session (Some session) from_tolerated refl ∙ past Frames Tolerated tolerated from_version refl ∙ past Frames Version (Some version) from_views refl
      ∙ past Frames Views views no_members refl)

  pub at_hosts : value_of Hosts top ≡ hosts
  unfolding field_text
  at_hosts =
      past Hosts Formula formula from_frames refl ∙ past Hosts Frames frames from_hosts refl ∙ here_or Hosts hosts from_parties refl
      (past Hosts Parties (Some parties) from_port refl ∙ past Hosts Port port from_bits refl ∙ past Hosts RingBits (Some bits) from_session refl
      ∙ past Hosts Session (Some session) from_tolerated refl ∙ past Hosts Tolerated tolerated from_version refl ∙ past Hosts Version (Some version) from_views refl
      ∙ past Hosts Views views no_members refl)

  pub at_parties : value_of Parties top ≡ Some parties
  unfolding field_text
  at_parties =
      past Parties Formula formula from_frames refl ∙ past Parties Frames frames from_hosts refl ∙ past Parties Hosts hosts from_parties refl ∙ here Parties parties from_port refl

  pub at_port : value_of Port top ≡ port
  unfolding field_text
  at_port =
      past Port Formula formula from_frames refl ∙ past Port Frames frames from_hosts refl ∙ past Port Hosts hosts from_parties refl ∙ past Port Parties (Some parties) from_port refl
      ∙ here_or Port port from_bits refl
      (past Port RingBits (Some bits) from_session refl ∙ past Port Session (Some session) from_tolerated refl ∙ past Port Tolerated tolerated from_version refl
      ∙ past Port Version (Some version) from_views refl ∙ past Port Views views no_members refl)

  pub at_bits : value_of RingBits top ≡ Some bits
  unfolding field_text
  at_bits =
      past RingBits Formula formula from_frames refl ∙ past RingBits Frames frames from_hosts refl ∙ past RingBits Hosts hosts from_parties refl
      ∙ past RingBits Parties (Some parties) from_port refl ∙ past RingBits Port port from_bits refl ∙ here RingBits bits from_session refl

  pub at_session : value_of Session top ≡ Some session
  unfolding field_text
  at_session =
      past Session Formula formula from_frames refl ∙ past Session Frames frames from_hosts refl ∙ past Session Hosts hosts from_parties refl ∙ past Session Parties (Some parties) from_port refl
      ∙ past Session Port port from_bits refl ∙ past Session RingBits (Some bits) from_session refl ∙ here Session session from_tolerated refl

  pub at_tolerated : value_of Tolerated top ≡ tolerated
  unfolding field_text
  at_tolerated =
      past Tolerated Formula formula from_frames refl ∙ past Tolerated Frames frames from_hosts refl ∙ past Tolerated Hosts hosts from_parties refl
      ∙ past Tolerated Parties (Some parties) from_port refl ∙ past Tolerated Port port from_bits refl ∙ past Tolerated RingBits (Some bits) from_session refl
      ∙ past Tolerated Session (Some session) from_tolerated refl ∙ here_or Tolerated tolerated from_version refl
      (past Tolerated Version (Some version) from_views refl ∙ past Tolerated Views views no_members refl)

  pub at_version : value_of Version top ≡ Some version
  unfolding field_text
  at_version =
      past Version Formula formula from_frames refl ∙ past Version Frames frames from_hosts refl ∙ past Version Hosts hosts from_parties refl ∙ past Version Parties (Some parties) from_port refl
      ∙ past Version Port port from_bits refl ∙ past Version RingBits (Some bits) from_session refl ∙ past Version Session (Some session) from_tolerated refl
      ∙ past Version Tolerated tolerated from_version refl ∙ here Version version from_views refl

  pub at_views : value_of Views top ≡ views
  unfolding field_text
  at_views =
      past Views Formula formula from_frames refl ∙ past Views Frames frames from_hosts refl ∙ past Views Hosts hosts from_parties refl ∙ past Views Parties (Some parties) from_port refl
      ∙ past Views Port port from_bits refl ∙ past Views RingBits (Some bits) from_session refl ∙ past Views Session (Some session) from_tolerated refl
      ∙ past Views Tolerated tolerated from_version refl ∙ past Views Version (Some version) from_views refl ∙ here_or Views views no_members refl refl

  pub record TopIsPlain : Type 0 where
    pub formula_is : IfSome formula (IsPlain 4)
    pub frames_are : IfSome frames (IsPlain 4)
    pub hosts_are : IfSome hosts (IsPlain 4)
    pub parties_are : IsPlain 4 parties
    pub port_is : IfSome port (IsPlain 4)
    pub bits_are : IsPlain 4 bits
    pub sessions_are : IsPlain 4 session
    pub groups_are : IfSome tolerated (IsPlain 4)
    pub version_is : IsPlain 4 version
    pub views_are : IfSome views (IsPlain 4)

  pub top_plain : TopIsPlain → AreFields 4 top
  unfolding field_text
  top_plain p =
      one_more 4 Formula formula from_frames p.formula_is (before Formula Frames frames from_hosts refl (before Formula Hosts hosts from_parties refl refl))
      (one_more 4 Frames frames from_hosts p.frames_are (before Frames Hosts hosts from_parties refl refl)
      (one_more 4 Hosts hosts from_parties p.hosts_are refl
      (one_more 4 Parties (Some parties) from_port p.parties_are (before Parties Port port from_bits refl refl)
      (one_more 4 Port port from_bits p.port_is refl
      (one_more 4 RingBits (Some bits) from_session p.bits_are refl
      (one_more 4 Session (Some session) from_tolerated p.sessions_are (before Session Tolerated tolerated from_version refl refl)
      (one_more 4 Tolerated tolerated from_version p.groups_are refl
      (one_more 4 Version (Some version) from_views p.version_is (before Version Views views no_members refl refl)
      (one_more 4 Views views no_members p.views_are refl (no_more 4))))))))))

  pub top_known : (names : List (List ℕ))
      → IfSome formula (λ d. is_known names (field_text Formula) ≡ true) → IfSome frames (λ d. is_known names (field_text Frames) ≡ true) → is_known names (field_text Hosts) ≡ true
      → is_known names (field_text Parties) ≡ true → is_known names (field_text Port) ≡ true → is_known names (field_text RingBits) ≡ true
      → is_known names (field_text Session) ≡ true → IfSome tolerated (λ d. is_known names (field_text Tolerated) ≡ true) → is_known names (field_text Version) ≡ true
      → IfSome views (λ d. is_known names (field_text Views) ≡ true) → least_unknown names top ≡ None
  top_known names f fr h pa po b s t v vi =
      known_if names Formula formula from_frames f
      (known_if names Frames frames from_hosts fr
      (known names Hosts hosts from_parties h
      (known names Parties (Some parties) from_port pa
      (known names Port port from_bits po
      (known names RingBits (Some bits) from_session b
      (known names Session (Some session) from_tolerated s
      (known_if names Tolerated tolerated from_version t
      (known names Version (Some version) from_views v
      (known_if names Views views no_members vi (none_known names))))))))))

-- ---- the table of a session

module _ (circuit layout : Data) (order : Option Data) (owners : Data) (products : Option Data) (readers : Data) where
  abbrev from_readers : Members
  from_readers = with_field Readers (Some readers) no_members

  abbrev from_products : Members
  from_products = with_field Products products from_readers

  abbrev from_owners : Members
  from_owners = with_field Owners (Some owners) from_products

  abbrev from_order : Members
  from_order = with_field Order order from_owners

  abbrev from_layout : Members
  from_layout = with_field Layout (Some layout) from_order

  abbrev pub session_table : Members
  session_table = with_field Circuit (Some circuit) from_layout

  pub at_circuit : value_of Circuit session_table ≡ Some circuit
  unfolding field_text
  at_circuit = here Circuit circuit from_layout refl

  pub at_layout : value_of Layout session_table ≡ Some layout
  unfolding field_text
  at_layout = past Layout Circuit (Some circuit) from_layout refl ∙ here Layout layout from_order refl

  pub at_order : value_of Order session_table ≡ order
  unfolding field_text
  at_order =
      past Order Circuit (Some circuit) from_layout refl ∙ past Order Layout (Some layout) from_order refl
      ∙ here_or Order order from_owners refl
      (past Order Owners (Some owners) from_products refl ∙ past Order Products products from_readers refl ∙ past Order Readers (Some readers) no_members refl)

  pub at_owners : value_of Owners session_table ≡ Some owners
  unfolding field_text
  at_owners = past Owners Circuit (Some circuit) from_layout refl ∙ past Owners Layout (Some layout) from_order refl ∙ past Owners Order order from_owners refl ∙ here Owners owners from_products refl

  pub at_products : value_of Products session_table ≡ products
  unfolding field_text
  at_products =
      past Products Circuit (Some circuit) from_layout refl ∙ past Products Layout (Some layout) from_order refl ∙ past Products Order order from_owners refl ∙ past Products Owners (Some owners) from_products refl
      ∙ here_or Products products from_readers refl (past Products Readers (Some readers) no_members refl)

  pub at_readers : value_of Readers session_table ≡ Some readers
  unfolding field_text
  at_readers =
      past Readers Circuit (Some circuit) from_layout refl ∙ past Readers Layout (Some layout) from_order refl ∙ past Readers Order order from_owners refl ∙ past Readers Owners (Some owners) from_products refl
      ∙ past Readers Products products from_readers refl ∙ here Readers readers no_members refl

  pub session_plain : IsPlain 2 circuit → IsPlain 2 layout → IfSome order (IsPlain 2) → IsPlain 2 owners → IfSome products (IsPlain 2) → IsPlain 2 readers → AreFields 2 session_table
  unfolding field_text
  session_plain c l w o p r =
      one_more 2 Circuit (Some circuit) from_layout c refl
      (one_more 2 Layout (Some layout) from_order l (before Layout Order order from_owners refl refl)
      (one_more 2 Order order from_owners w refl
      (one_more 2 Owners (Some owners) from_products o (before Owners Products products from_readers refl refl)
      (one_more 2 Products products from_readers p refl
      (one_more 2 Readers (Some readers) no_members r refl (no_more 2))))))

  pub session_known : (names : List (List ℕ)) → is_known names (field_text Circuit) ≡ true → is_known names (field_text Layout) ≡ true → IfSome order (λ d. is_known names (field_text Order) ≡ true)
      → is_known names (field_text Owners) ≡ true → IfSome products (λ d. is_known names (field_text Products) ≡ true) → is_known names (field_text Readers) ≡ true → least_unknown names session_table ≡ None
  session_known names c l w o p r =
      known names Circuit (Some circuit) from_layout c
      (known names Layout (Some layout) from_order l
      (known_if names Order order from_owners w
      (known names Owners (Some owners) from_products o
      (known_if names Products products from_readers p
      (known names Readers (Some readers) no_members r (none_known names))))))
