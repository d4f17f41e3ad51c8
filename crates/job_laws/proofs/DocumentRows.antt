-- The document of a job has no fault, and is read as the job.
use Rattle.std.proofs.Common.{◌≡◌, ◌≢◌, inl, inr, ℕ, zero, suc, ◌+◌, ◌≤◌, nat_lt, Bool, true, false, cond, not, ◌||◌, ◌&&◌, ◌==◌, ℤ, pos, nat_abs, List, [], ◌∷◌, length, map, Option, None, Some, IfSome, Ok, Err, refl, ap, ap₂, ◌∙◌, arith}
use Rattle.std.specs.Prelude.{codes, position}
use Rattle.std.specs.List.{AllByRecursion, enumerate_from}
use Rattle.std.specs.Option.{is_none, is_some, unwrap_or, option_map, option_map_or, option_or}
use Rattle.std.specs.Str.{IsUtf8}
use Rattle.std.specs.Ordering.{int_eq}
use Rattle.std.proofs.lemmas.Bool.{le-leb, le-ltb, ne_eqb, eq-eqb}
use Rattle.std.proofs.lemmas.Str.{is_utf8-from_IsUtf8}
use Rattle.toml.specs.Data.{Data, string, integer, table, Members}
use Rattle.toml.specs.Parse.{parse_document}
use Rattle.toml.specs.Text.{IsDocumentText}
use Rattle.toml.proofs.ReadBack.{parse_document-printed}
use Rattle.toml_fields.specs.Documents.{document_of}
use Rattle.toml_fields.specs.Keys.{is_known, least_unknown}
use Rattle.toml_fields.specs.declared.kind.Kind.{Kind}
use Rattle.toml_fields.specs.declared.kind.Kind.TheVariants as kinds
use Rattle.toml_fields.specs.Fields.{items_of, text_of, texts_of, fields_of, integer_of, has_field, is_misfit, integer_at, text_at, items_at, texts_at, is_of_kind}
use Rattle.list_laws.specs.Checks.{◌answers◌, or_fault}
use Rattle.party_names.specs.Names.{names_fault, AreNames}
use Rattle.party_names.proofs.NameFaults.{no_fault_from}
use Rattle.circuit_model.specs.declared.layout.CircuitLayout.TheVariants.{Bristol, Ring}
use Rattle.job_file.specs.declared.field.JobField.{JobField}
use Rattle.job_file.specs.declared.field.JobField.TheVariants.{Version, RingBits, Parties, Formula, Tolerated, Hosts, Port, Frames, Views, Session, Circuit, Layout, Products as ProductsField, Order, Owners, Readers}
use Rattle.job_file.specs.declared.fault.JobFault.{JobFault}
use Rattle.job_file.specs.declared.fault.JobFault.TheVariants.{NotToml, Unknown}
use Rattle.job_file.specs.declared.layout.SessionLayout.{SessionLayout}
use Rattle.job_file.specs.declared.layout.SessionLayout.TheVariants.{Gates, Expressions, Numbers}
use Rattle.job_file.specs.declared.products.Products.{Products}
use Rattle.job_file.specs.declared.products.Products.TheVariants.{Direct, Prepared, Ahead}
use Rattle.job_file.specs.Products.{are_prepared, products_named}
use Rattle.job_file.specs.Names.{field_text, field_kind, top_fields, session_fields, is_file_name, is_host, layout_of, are_layered, are_short, are_own}
use Rattle.job_file.specs.Forms as forms
use Rattle.job_file.specs.Forms.{JobForm, SessionForm, AdversaryForm, by_formula, by_list, is_version_two, adversary_field, products_in, layered_gates_in, short_frames_in, own_views_in, owner_of, session_form, session_forms, adversary_form, job_form, mask_of}
use Rattle.job_file.specs.Faults.{bad_in_lists, owners_fault, is_within, required_fault, optional_fault, unknown_fault, version_fault, fields_fault, ring_fault, parties_fault, groups_fault, adversary_fault, count_fault, hosts_fault, port_fault, frames_fault, views_fault, node_fault, session_fields_fault, session_values_fault, sessions_fault, job_fault, job_in}
use Rattle.job_laws.specs.Documents.{texts_data, groups_data, member_names, layout_text, choice_data, products_data, order_data, session_fields_of, sessions_data, version_data, formula_data, tolerated_data, hosts_data, port_data, frames_data, views_data, document_of_job, owner_text, HasLayout, HasChoice, IsSessionForm, AreSessionForms, HasGroups, AreHosts, HasPeers, IsJobForm, DocumentsSayTheirJobs}
use Rattle.job_laws.proofs.MemberNames.{good_lists, masks_back}
use Rattle.job_laws.proofs.OwnerTexts.{two_of, owners_back, owners_pass}
use Rattle.job_laws.proofs.DocumentShapes.{IsPlain, string_plain, texts_plain, groups_plain, list_plain, texts_listed, groups_back, sessions_back, items_back, length_same, are_texts, are_groups, are_sessions, nowhere}
use Rattle.job_laws.proofs.DocumentFields as table_of
use Rattle.job_laws.proofs.DocumentFields.{value_of}

-- ---- checks

then_none : {first rest : Option JobFault} → first ≡ None → rest ≡ None → option_or first rest ≡ None
then_none {first} {rest} e f = ap (λ o. option_or o rest) e ∙ f

passed : {b : Bool} (fault : JobFault) → b ≡ false → (b answers fault) ≡ None
passed {b} fault e = ap (λ b. b answers fault) e

no_map : {A : Type 0} (f : A → JobFault) {o : Option A} → o ≡ None → option_map f o ≡ None
no_map {A} f {o} e = ap (option_map f) e

-- ---- what fields give

integer_is : (field : JobField) (ms : Members) (z : ℤ) → value_of field ms ≡ Some (integer z) → forms.integer field ms ≡ z
unfolding integer_at integer_of
integer_is field ms z at = ap (λ o. option_map_or integer_of o (pos 0)) at

text_is : (field : JobField) (ms : Members) (text : List ℕ) → value_of field ms ≡ Some (string text) → forms.text field ms ≡ text
unfolding text_at text_of
text_is field ms text at = ap (λ o. option_map_or text_of o []) at

items_is : (field : JobField) (ms : Members) (d : Data) → value_of field ms ≡ Some d → forms.items field ms ≡ items_of d
unfolding items_at
items_is field ms d at = ap (λ o. option_map_or items_of o []) at

texts_are : (field : JobField) (ms : Members) (texts : List (List ℕ)) → value_of field ms ≡ Some (texts_data texts) → forms.texts field ms ≡ texts
unfolding texts_at
texts_are field ms texts at = ap (map text_of) (items_is field ms (texts_data texts) at) ∙ texts_listed texts

lists_are : (field : JobField) (ms : Members) (names : List (List ℕ)) (masks : List ℕ) → value_of field ms ≡ Some (groups_data names masks) → forms.lists field ms ≡ map (member_names names) masks
lists_are field ms names masks at = ap (map texts_of) (items_is field ms (groups_data names masks) at) ∙ groups_back names masks

tables_are : (field : JobField) (ms : Members) (names : List (List ℕ)) (sessions : List SessionForm) → value_of field ms ≡ Some (sessions_data names sessions) → forms.tables field ms ≡ map (session_fields_of names) sessions
tables_are field ms names sessions at = ap (map fields_of) (items_is field ms (sessions_data names sessions) at) ∙ sessions_back names sessions

-- ---- whether fields are there, and of their kinds

misfits : (kind : Kind) (o : Option Data) → IfSome o (λ d. is_of_kind kind d ≡ true) → option_map_or (λ d. not (is_of_kind kind d)) o false ≡ false
misfits kind None h = refl
misfits kind (Some d) h = ap not h

fits : (field : JobField) (ms : Members) (o : Option Data) → value_of field ms ≡ o → IfSome o (λ d. is_of_kind (field_kind field) d ≡ true) → is_misfit (field_kind field) (field_text field) ms ≡ false
unfolding is_misfit
fits field ms o at kind = ap (λ o. option_map_or (λ d. not (is_of_kind (field_kind field) d)) o false) at ∙ misfits (field_kind field) o kind

there : (field : JobField) (ms : Members) (d : Data) → value_of field ms ≡ Some d → has_field (field_text field) ms ≡ true
unfolding has_field
there field ms d at = ap is_some at

not_there : (field : JobField) (ms : Members) → value_of field ms ≡ None → has_field (field_text field) ms ≡ false
unfolding has_field
not_there field ms at = ap is_some at

required : (session : Option ℕ) (field : JobField) (ms : Members) (d : Data) → value_of field ms ≡ Some d → is_of_kind (field_kind field) d ≡ true → required_fault session field ms ≡ None
unfolding required_fault
required session field ms d at kind = then_none (passed _ (ap not (there field ms d at)))
    (then_none (passed _ (fits field ms (Some d) at kind))
    refl)

optional : (session : Option ℕ) (field : JobField) (ms : Members) (o : Option Data) → value_of field ms ≡ o → IfSome o (λ d. is_of_kind (field_kind field) d ≡ true) → optional_fault session field ms ≡ None
unfolding optional_fault
optional session field ms o at kind = passed _ (fits field ms o at kind)

-- ---- a session

layout_back : (adversary : AdversaryForm) (layout : SessionLayout) → HasLayout adversary layout → layout_of (two_of adversary) (layout_text layout) ≡ Some layout
unfolding layout_of
layout_back (by_formula text) (Gates Bristol) h = refl
layout_back (by_formula text) (Gates Ring) h = refl
layout_back (by_formula text) Expressions h = absurd h
layout_back (by_formula text) Numbers h = absurd h
layout_back (by_list masks) (Gates Bristol) h = refl
layout_back (by_list masks) (Gates Ring) h = refl
layout_back (by_list masks) Expressions h = refl
layout_back (by_list masks) Numbers h = refl

products_known : (adversary : AdversaryForm) (products : Products) → HasChoice adversary (are_prepared products)
    → IfSome (products_data products) (λ d. is_known (map field_text (session_fields (two_of adversary))) (field_text ProductsField) ≡ true)
unfolding field_text
products_known adversary Direct h = tt
products_known (by_formula text) Prepared h = absurd h
products_known (by_formula text) Ahead h = absurd h
products_known (by_list masks) Prepared h = refl
products_known (by_list masks) Ahead h = refl

products_kind : (products : Products) → IfSome (products_data products) (λ d. is_of_kind kinds.Text d ≡ true)
unfolding is_of_kind
products_kind Direct = tt
products_kind Prepared = refl
products_kind Ahead = refl

choice_kind : (name : List ℕ) (told : Bool) → IfSome (choice_data name told) (λ d. is_of_kind kinds.Text d ≡ true)
unfolding is_of_kind
choice_kind name true = refl
choice_kind name false = tt

products_told : (name : List ℕ) (ms : Members) → value_of ProductsField ms ≡ Some (string name) → products_in ms ≡ products_named name
unfolding products_in
products_told name ms at = ap₂ (λ told text. cond told (products_named text) (Some Direct)) (there ProductsField ms _ at) (text_is ProductsField ms name at)

products_back : (products : Products) (ms : Members) → value_of ProductsField ms ≡ products_data products → products_in ms ≡ Some products
unfolding products_in products_named
products_back Direct ms at = ap (λ told. cond told (products_named (forms.text ProductsField ms)) (Some Direct)) (not_there ProductsField ms at)
products_back Prepared ms at = products_told (codes "prepared") ms at
products_back Ahead ms at = products_told (codes "ahead") ms at

order_known : (adversary : AdversaryForm) (layered : Bool) → HasChoice adversary layered
    → IfSome (order_data layered) (λ d. is_known (map field_text (session_fields (two_of adversary))) (field_text Order) ≡ true)
unfolding field_text
order_known (by_formula text) true h = absurd h
order_known (by_formula text) false h = tt
order_known (by_list masks) true h = refl
order_known (by_list masks) false h = tt

order_back : (layered : Bool) (ms : Members) → value_of Order ms ≡ order_data layered → layered_gates_in ms ≡ Some layered
unfolding layered_gates_in are_layered
order_back true ms at = ap₂ (λ told text. cond told (are_layered text) (Some false)) (there Order ms _ at) (text_is Order ms (codes "layers") at)
order_back false ms at = ap (λ told. cond told (are_layered (forms.text Order ms)) (Some false)) (not_there Order ms at)

module _ (names : List (List ℕ)) (are : AreNames names) (adversary : AdversaryForm) (n : ℕ) (early : n ≤ 16) (s : SessionForm) (is : IsSessionForm (length names) adversary n s) where
  abbrev ms : Members
  ms = session_fields_of names s

  at_circuit : value_of Circuit ms ≡ Some (string s.circuit)
  at_circuit = table_of.at_circuit (string s.circuit) (string (layout_text s.layout)) (order_data s.layered_gates) (texts_data (map (owner_text names) s.owners)) (products_data s.products) (groups_data names s.readers)

  at_layout : value_of Layout ms ≡ Some (string (layout_text s.layout))
  at_layout = table_of.at_layout (string s.circuit) (string (layout_text s.layout)) (order_data s.layered_gates) (texts_data (map (owner_text names) s.owners)) (products_data s.products) (groups_data names s.readers)

  at_owners : value_of Owners ms ≡ Some (texts_data (map (owner_text names) s.owners))
  at_owners = table_of.at_owners (string s.circuit) (string (layout_text s.layout)) (order_data s.layered_gates) (texts_data (map (owner_text names) s.owners)) (products_data s.products) (groups_data names s.readers)

  at_products : value_of ProductsField ms ≡ products_data s.products
  at_products = table_of.at_products (string s.circuit) (string (layout_text s.layout)) (order_data s.layered_gates) (texts_data (map (owner_text names) s.owners)) (products_data s.products) (groups_data names s.readers)

  at_order : value_of Order ms ≡ order_data s.layered_gates
  at_order = table_of.at_order (string s.circuit) (string (layout_text s.layout)) (order_data s.layered_gates) (texts_data (map (owner_text names) s.owners)) (products_data s.products) (groups_data names s.readers)

  at_readers : value_of Readers ms ≡ Some (groups_data names s.readers)
  at_readers = table_of.at_readers (string s.circuit) (string (layout_text s.layout)) (order_data s.layered_gates) (texts_data (map (owner_text names) s.owners)) (products_data s.products) (groups_data names s.readers)

  fields_pass : session_fields_fault (two_of adversary) n ms ≡ None
  unfolding session_fields_fault unknown_fault field_text field_kind is_of_kind
  fields_pass = then_none (no_map _ (table_of.session_known (string s.circuit) (string (layout_text s.layout)) (order_data s.layered_gates) (texts_data (map (owner_text names) s.owners)) (products_data s.products) (groups_data names s.readers) (map field_text (session_fields (two_of adversary))) refl refl (order_known adversary s.layered_gates is.order) refl (products_known adversary s.products is.products) refl))
      (then_none (required (Some n) Circuit ms _ at_circuit refl)
      (then_none (required (Some n) Layout ms _ at_layout refl)
      (then_none (optional (Some n) ProductsField ms _ at_products (products_kind s.products))
      (then_none (optional (Some n) Order ms _ at_order (choice_kind (codes "layers") s.layered_gates))
      (then_none (required (Some n) Owners ms _ at_owners (are_texts (map (owner_text names) s.owners)))
      (then_none (required (Some n) Readers ms _ at_readers (are_groups names s.readers))
      refl))))))

  layout_is : layout_of (two_of adversary) (forms.text Layout ms) ≡ Some s.layout
  layout_is = ap (layout_of (two_of adversary)) (text_is Layout ms (layout_text s.layout) at_layout) ∙ layout_back adversary s.layout is.layout

  products_are : products_in ms ≡ Some s.products
  products_are = products_back s.products ms at_products

  order_is : layered_gates_in ms ≡ Some s.layered_gates
  order_is = order_back s.layered_gates ms at_order

  values_pass : session_values_fault (two_of adversary) names n ms ≡ None
  unfolding session_values_fault
  values_pass = then_none (passed _ (ap (λ text. not (is_file_name text)) (text_is Circuit ms s.circuit at_circuit) ∙ ap not is.circuit))
      (then_none (passed _ (ap is_none layout_is))
      (then_none (passed _ (ap is_none products_are))
      (then_none (passed _ (ap is_none order_is))
      (then_none (ap (owners_fault (two_of adversary) names n 0) (texts_are Owners ms (map (owner_text names) s.owners) at_owners) ∙ owners_pass names are n early adversary 0 s.owners is.owners is.carries)
      (then_none (no_map _ (ap (bad_in_lists names 0) (lists_are Readers ms names s.readers at_readers) ∙ good_lists names are 0 s.readers))
      refl)))))

  same_session : (a b : SessionForm) → a.circuit ≡ b.circuit → a.layout ≡ b.layout → a.products ≡ b.products → a.layered_gates ≡ b.layered_gates → a.owners ≡ b.owners → a.readers ≡ b.readers → a ≡ b
  same_session a b c l p w o r i = record { circuit = c i; layout = l i; products = p i; layered_gates = w i; owners = o i; readers = r i }

  session_back : session_form (two_of adversary) names n ms ≡ s
  unfolding session_form
  session_back = same_session _ s
      (text_is Circuit ms s.circuit at_circuit)
      (ap (λ o. unwrap_or o (Gates Ring)) layout_is)
      (ap (λ o. unwrap_or o Direct) products_are)
      (ap (λ o. unwrap_or o false) order_is)
      (ap (map (owner_of (two_of adversary) names n)) (texts_are Owners ms (map (owner_text names) s.owners) at_owners) ∙ owners_back names are n early adversary s.owners is.owners is.carries)
      (ap (map (mask_of names)) (lists_are Readers ms names s.readers at_readers) ∙ masks_back names are s.readers is.readers)

module _ (names : List (List ℕ)) (are : AreNames names) (adversary : AdversaryForm) where
  sessions_pass : (n : ℕ) (sessions : List SessionForm) → n + length sessions ≤ 16 → AreSessionForms (length names) adversary n sessions → sessions_fault (two_of adversary) names n (map (session_fields_of names) sessions) ≡ None
  unfolding sessions_fault
  sessions_pass n [] few h = refl
  sessions_pass n (s ∷ sessions) few h = then_none (fields_pass names are adversary n (omega (arith, few)) s h.0)
      (then_none (values_pass names are adversary n (omega (arith, few)) s h.0)
      (then_none (sessions_pass (n + 1) sessions (omega (arith, few)) h.1)
      refl))

  forms_back : (n : ℕ) (sessions : List SessionForm) → n + length sessions ≤ 16 → AreSessionForms (length names) adversary n sessions
      → map (λ (t : ℕ × Members). session_form (two_of adversary) names t.0 t.1) (enumerate_from n (map (session_fields_of names) sessions)) ≡ sessions
  forms_back n [] few h = refl
  forms_back n (s ∷ sessions) few h = ap₂ (λ a b. a ∷ b) (session_back names are adversary n (omega (arith, few)) s h.0) (forms_back (n + 1) sessions (omega (arith, few)) h.1)

-- ---- hosts and port

hosts_kind : (hosts : List (List ℕ)) → IfSome (hosts_data hosts) (λ d. is_of_kind kinds.Texts d ≡ true)
unfolding is_of_kind
hosts_kind [] = tt
hosts_kind (host ∷ hosts) = are_texts (host ∷ hosts)

port_kind : (port : ℕ) → IfSome (port_data port) (λ d. is_of_kind kinds.Integer d ≡ true)
unfolding is_of_kind
port_kind zero = tt
port_kind (suc n) = refl

told_hosts : (hosts : List (List ℕ)) → hosts ≢ [] → hosts_data hosts ≡ Some (texts_data hosts)
told_hosts [] some = absurd (some refl)
told_hosts (host ∷ hosts) some = refl

told_port : (port : ℕ) → port ≢ 0 → port_data port ≡ Some (integer (pos port))
told_port zero some = absurd (some refl)
told_port (suc n) some = refl

module _ (ms : Members) where
  hosts_are : (hosts : List (List ℕ)) → value_of Hosts ms ≡ hosts_data hosts → forms.texts Hosts ms ≡ hosts
  unfolding texts_at items_at
  hosts_are [] at = ap (λ o. map text_of (option_map_or items_of o [])) at
  hosts_are (host ∷ hosts) at = texts_are Hosts ms (host ∷ hosts) at

  port_is : (port : ℕ) → value_of Port ms ≡ port_data port → forms.integer Port ms ≡ pos port
  unfolding integer_at
  port_is zero at = ap (λ o. option_map_or integer_of o (pos 0)) at
  port_is (suc n) at = integer_is Port ms (pos (suc n)) at

  inside : (low high n : ℕ) → low ≤ n → n ≤ high → is_within (pos low) (pos high) (pos n) ≡ true
  inside low high n l h = ap₂ (λ a b. a && b) (le-leb low n l) (le-leb n high h)

  port_passes : (port : ℕ) → value_of Port ms ≡ port_data port → port ≤ 65392 → port_fault ms ≡ None
  unfolding port_fault
  port_passes zero at few = passed _ (ap (λ b. b && not (is_within (pos 1) (pos 65392) (forms.integer Port ms))) (not_there Port ms at))
  port_passes (suc n) at few =
      passed _ (ap₂ (λ b z. b && not (is_within (pos 1) (pos 65392) z)) (there Port ms _ at) (port_is (suc n) at) ∙ ap not (inside 1 65392 (suc n) (omega arith) few))

  bad_hosts : (hosts : List (List ℕ)) → AllByRecursion (λ host. is_host host ≡ true) hosts → AllByRecursion (λ host. not (is_host host) ≡ false) hosts
  bad_hosts [] h = tt
  bad_hosts (host ∷ hosts) h = (ap not h.0, bad_hosts hosts h.1)

  none_told : (hosts : List (List ℕ)) → value_of Hosts ms ≡ hosts_data hosts → hosts ≡ [] → value_of Hosts ms ≡ None
  none_told hosts at none = at ∙ ap hosts_data none

  hosts_pass : (names hosts : List (List ℕ)) → value_of Parties ms ≡ Some (texts_data names) → value_of Hosts ms ≡ hosts_data hosts → AreHosts (length names) hosts → hosts_fault ms ≡ None
  unfolding hosts_fault
  hosts_pass names hosts parties at (inl none) = then_none (passed _ (ap (λ b. b && not (length (forms.texts Hosts ms) == length (forms.texts Parties ms))) (not_there Hosts ms (none_told hosts at none))))
      (then_none (no_map _ (ap (position (λ host. not (is_host host))) (hosts_are hosts at ∙ none)))
      refl)
  hosts_pass names hosts parties at (inr (long, good)) = then_none (passed _ (ap₂ (λ a b. has_field (field_text Hosts) ms && not (length a == length b)) (hosts_are hosts at) (texts_are Parties ms names parties)
      ∙ ap (λ b. has_field (field_text Hosts) ms && not b) (eq-eqb (length hosts) (length names) long) ∙ never (has_field (field_text Hosts) ms)))
      (then_none (no_map _ (ap (position (λ host. not (is_host host))) (hosts_are hosts at) ∙ nowhere (λ host. not (is_host host)) hosts (bad_hosts hosts good)))
      refl)
    where
      never : (b : Bool) → (b && false) ≡ false
      never true = refl
      never false = refl

-- ---- frames and views

frames_back : (short : Bool) (ms : Members) → value_of Frames ms ≡ frames_data short → short_frames_in ms ≡ Some short
unfolding short_frames_in are_short
frames_back true ms at = ap₂ (λ told text. cond told (are_short text) (Some false)) (there Frames ms _ at) (text_is Frames ms (codes "short") at)
frames_back false ms at = ap (λ told. cond told (are_short (forms.text Frames ms)) (Some false)) (not_there Frames ms at)

views_back : (own : Bool) (ms : Members) → value_of Views ms ≡ views_data own → own_views_in ms ≡ Some own
unfolding own_views_in are_own
views_back true ms at = ap₂ (λ told text. cond told (are_own text) (Some false)) (there Views ms _ at) (text_is Views ms (codes "own") at)
views_back false ms at = ap (λ told. cond told (are_own (forms.text Views ms)) (Some false)) (not_there Views ms at)

-- ---- the whole file

module _ (node : Bool) (job : JobForm) (is : IsJobForm node job) where
  abbrev fields : Members
  fields = document_of_job job

  abbrev two : Bool
  two = two_of job.adversary

  at_formula : value_of Formula fields ≡ formula_data job.adversary
  at_formula = table_of.at_formula (formula_data job.adversary) (frames_data job.short_frames) (hosts_data job.hosts) (port_data job.port) (tolerated_data job.names job.adversary) (views_data job.own_views) (texts_data job.names) (integer (pos job.bits)) (sessions_data job.names job.sessions) (version_data job.adversary)

  at_hosts : value_of Hosts fields ≡ hosts_data job.hosts
  at_hosts = table_of.at_hosts (formula_data job.adversary) (frames_data job.short_frames) (hosts_data job.hosts) (port_data job.port) (tolerated_data job.names job.adversary) (views_data job.own_views) (texts_data job.names) (integer (pos job.bits)) (sessions_data job.names job.sessions) (version_data job.adversary)

  at_parties : value_of Parties fields ≡ Some (texts_data job.names)
  at_parties = table_of.at_parties (formula_data job.adversary) (frames_data job.short_frames) (hosts_data job.hosts) (port_data job.port) (tolerated_data job.names job.adversary) (views_data job.own_views) (texts_data job.names) (integer (pos job.bits)) (sessions_data job.names job.sessions) (version_data job.adversary)

  at_port : value_of Port fields ≡ port_data job.port
  at_port = table_of.at_port (formula_data job.adversary) (frames_data job.short_frames) (hosts_data job.hosts) (port_data job.port) (tolerated_data job.names job.adversary) (views_data job.own_views) (texts_data job.names) (integer (pos job.bits)) (sessions_data job.names job.sessions) (version_data job.adversary)

  at_bits : value_of RingBits fields ≡ Some (integer (pos job.bits))
  at_bits = table_of.at_bits (formula_data job.adversary) (frames_data job.short_frames) (hosts_data job.hosts) (port_data job.port) (tolerated_data job.names job.adversary) (views_data job.own_views) (texts_data job.names) (integer (pos job.bits)) (sessions_data job.names job.sessions) (version_data job.adversary)

  at_session : value_of Session fields ≡ Some (sessions_data job.names job.sessions)
  at_session = table_of.at_session (formula_data job.adversary) (frames_data job.short_frames) (hosts_data job.hosts) (port_data job.port) (tolerated_data job.names job.adversary) (views_data job.own_views) (texts_data job.names) (integer (pos job.bits)) (sessions_data job.names job.sessions) (version_data job.adversary)

  at_tolerated : value_of Tolerated fields ≡ tolerated_data job.names job.adversary
  at_tolerated = table_of.at_tolerated (formula_data job.adversary) (frames_data job.short_frames) (hosts_data job.hosts) (port_data job.port) (tolerated_data job.names job.adversary) (views_data job.own_views) (texts_data job.names) (integer (pos job.bits)) (sessions_data job.names job.sessions) (version_data job.adversary)

  at_version : value_of Version fields ≡ Some (version_data job.adversary)
  at_version = table_of.at_version (formula_data job.adversary) (frames_data job.short_frames) (hosts_data job.hosts) (port_data job.port) (tolerated_data job.names job.adversary) (views_data job.own_views) (texts_data job.names) (integer (pos job.bits)) (sessions_data job.names job.sessions) (version_data job.adversary)

  at_frames : value_of Frames fields ≡ frames_data job.short_frames
  at_frames = table_of.at_frames (formula_data job.adversary) (frames_data job.short_frames) (hosts_data job.hosts) (port_data job.port) (tolerated_data job.names job.adversary) (views_data job.own_views) (texts_data job.names) (integer (pos job.bits)) (sessions_data job.names job.sessions) (version_data job.adversary)

  at_views : value_of Views fields ≡ views_data job.own_views
  at_views = table_of.at_views (formula_data job.adversary) (frames_data job.short_frames) (hosts_data job.hosts) (port_data job.port) (tolerated_data job.names job.adversary) (views_data job.own_views) (texts_data job.names) (integer (pos job.bits)) (sessions_data job.names job.sessions) (version_data job.adversary)

  names_are : forms.texts Parties fields ≡ job.names
  names_are = texts_are Parties fields job.names at_parties

  -- ---- the version

  abbrev number : AdversaryForm → ℕ
  number (by_formula text) = 1
  number (by_list masks) = 2

  version_told : (a : AdversaryForm) → value_of Version fields ≡ Some (version_data a) → forms.integer Version fields ≡ pos (number a)
  version_told (by_formula text) at = integer_is Version fields (pos 1) at
  version_told (by_list masks) at = integer_is Version fields (pos 2) at

  version_kind : (a : AdversaryForm) → is_of_kind kinds.Integer (version_data a) ≡ true
  unfolding is_of_kind
  version_kind (by_formula text) = refl
  version_kind (by_list masks) = refl

  version_inside : (a : AdversaryForm) → is_within (pos 1) (pos 2) (pos (number a)) ≡ true
  version_inside (by_formula text) = refl
  version_inside (by_list masks) = refl

  version_passes : version_fault fields ≡ None
  unfolding version_fault field_kind
  version_passes = then_none (required None Version fields (version_data job.adversary) at_version (version_kind job.adversary))
      (then_none (passed _ (ap (λ z. not (is_within (pos 1) (pos 2) z)) (version_told job.adversary at_version) ∙ ap not (version_inside job.adversary)))
      refl)

  is_two : is_version_two fields ≡ two
  is_two = ap (λ z. int_eq z (pos 2)) (version_told job.adversary at_version) ∙ told job.adversary
    where
      told : (a : AdversaryForm) → int_eq (pos (number a)) (pos 2) ≡ two_of a
      told (by_formula text) = refl
      told (by_list masks) = refl

  abbrev field_of : AdversaryForm → JobField
  field_of (by_formula text) = Formula
  field_of (by_list masks) = Tolerated

  adversary_is : adversary_field fields ≡ field_of job.adversary
  adversary_is = ap (λ b. cond b Tolerated Formula) is_two ∙ told job.adversary
    where
      told : (a : AdversaryForm) → cond (two_of a) Tolerated Formula ≡ field_of a
      told (by_formula text) = refl
      told (by_list masks) = refl

  -- ---- fields

  -- a field of version 2 alone is known wherever it is told
  choice_known : (a : AdversaryForm) (field : JobField) (name : List ℕ) (told : Bool) → HasChoice a told → is_known (map field_text (top_fields true Tolerated)) (field_text field) ≡ true
      → IfSome (choice_data name told) (λ d. is_known (map field_text (top_fields (two_of a) (field_of a))) (field_text field) ≡ true)
  choice_known (by_formula text) field name true h e = absurd h
  choice_known (by_formula text) field name false h e = tt
  choice_known (by_list masks) field name true h e = e
  choice_known (by_list masks) field name false h e = tt

  known_fields : (a : AdversaryForm) (short own : Bool) (hosts port : Option Data) (parties bits session : Data) → HasChoice a short → HasChoice a own
      → option_map {U = JobFault} (λ name. Unknown None name)
      (least_unknown (map field_text (top_fields (two_of a) (field_of a))) (table_of.top (formula_data a) (frames_data short) hosts port (tolerated_data job.names a) (views_data own) parties bits session (version_data a))) ≡ None
  unfolding field_text
  known_fields (by_formula text) short own hosts port parties bits session s o =
      no_map _ (table_of.top_known (Some (string text)) (frames_data short) hosts port None (views_data own) parties bits session (integer (pos 1)) (map field_text (top_fields false Formula))
      refl (choice_known (by_formula text) Frames (codes "short") short s refl) refl refl refl refl refl tt refl (choice_known (by_formula text) Views (codes "own") own o refl))
  known_fields (by_list masks) short own hosts port parties bits session s o =
      no_map _ (table_of.top_known None (frames_data short) hosts port (Some (groups_data job.names masks)) (views_data own) parties bits session (integer (pos 2)) (map field_text (top_fields true Tolerated))
      tt (choice_known (by_list masks) Frames (codes "short") short s refl) refl refl refl refl refl refl refl (choice_known (by_list masks) Views (codes "own") own o refl))

  unknown_passes : unknown_fault None (top_fields (is_version_two fields) (adversary_field fields)) fields ≡ None
  unfolding unknown_fault
  unknown_passes =
      ap₂ (λ b f. option_map (λ name. Unknown None name) (least_unknown (map field_text (top_fields b f)) fields)) is_two adversary_is
      ∙ known_fields job.adversary job.short_frames job.own_views (hosts_data job.hosts) (port_data job.port) (texts_data job.names) (integer (pos job.bits)) (sessions_data job.names job.sessions) is.frames is.views

  adversary_there : (a : AdversaryForm) → value_of Formula fields ≡ formula_data a → value_of Tolerated fields ≡ tolerated_data job.names a → required_fault None (field_of a) fields ≡ None
  unfolding field_kind is_of_kind
  adversary_there (by_formula text) at_f at_t = required None Formula fields (string text) at_f refl
  adversary_there (by_list masks) at_f at_t = required None Tolerated fields (groups_data job.names masks) at_t (are_groups job.names masks)

  hosts_there : (b : Bool) → (b ≡ true → HasPeers job) → node_fault b Hosts fields ≡ None
  unfolding field_kind is_of_kind
  hosts_there true peers = required None Hosts fields (texts_data job.hosts) (at_hosts ∙ told_hosts job.hosts (peers refl).hosts) (are_texts job.hosts)
  hosts_there false peers = optional None Hosts fields (hosts_data job.hosts) at_hosts (hosts_kind job.hosts)

  port_there : (b : Bool) → (b ≡ true → HasPeers job) → node_fault b Port fields ≡ None
  unfolding field_kind is_of_kind
  port_there true peers = required None Port fields (integer (pos job.port)) (at_port ∙ told_port job.port (peers refl).port) refl
  port_there false peers = optional None Port fields (port_data job.port) at_port (port_kind job.port)

  fields_there : fields_fault node fields ≡ None
  unfolding fields_fault field_kind is_of_kind
  fields_there = then_none (required None RingBits fields _ at_bits refl)
      (then_none (required None Parties fields _ at_parties (are_texts job.names))
      (then_none (ap (λ f. required_fault None f fields) adversary_is ∙ adversary_there job.adversary at_formula at_tolerated)
      (then_none (hosts_there node is.peers)
      (then_none (port_there node is.peers)
      (then_none (optional None Frames fields _ at_frames (choice_kind (codes "short") job.short_frames))
      (then_none (optional None Views fields _ at_views (choice_kind (codes "own") job.own_views))
      (then_none (required None Session fields _ at_session (are_sessions job.names job.sessions))
      refl)))))))

  -- ---- values

  bits_are : forms.integer RingBits fields ≡ pos job.bits
  bits_are = integer_is RingBits fields (pos job.bits) at_bits

  ring_passes : ring_fault fields ≡ None
  unfolding ring_fault
  ring_passes = passed _ (ap (λ z. not (is_within (pos 1) (pos 64) z)) bits_are ∙ ap not (inside fields 1 64 job.bits is.some_bits is.few_bits))

  parties_pass : parties_fault fields ≡ None
  unfolding parties_fault
  parties_pass = no_map _ (ap names_fault names_are ∙ no_fault_from job.names is.names)

  groups_pass : (a : AdversaryForm) → value_of Tolerated fields ≡ tolerated_data job.names a → HasGroups (length job.names) a
      → cond (two_of a) (groups_fault (forms.texts Parties fields) (forms.lists Tolerated fields)) None ≡ None
  unfolding groups_fault
  groups_pass (by_formula text) at few = refl
  groups_pass (by_list masks) at few =
      let lists = lists_are Tolerated fields job.names masks at in
      then_none (passed _ (ap (λ ls. nat_lt 4096 (length ls)) lists ∙ le-ltb 4096 (length (map (member_names job.names) masks)) (omega (arith, few.0, length_same (member_names job.names) masks))))
      (then_none (no_map _ (ap₂ (λ names ls. bad_in_lists names 0 ls) names_are lists ∙ good_lists job.names is.names 0 masks))
      refl)

  adversary_passes : adversary_fault fields ≡ None
  adversary_passes = ap (λ b. cond b (groups_fault (forms.texts Parties fields) (forms.lists Tolerated fields)) None) is_two ∙ groups_pass job.adversary at_tolerated is.groups

  sessions_are : forms.tables Session fields ≡ map (session_fields_of job.names) job.sessions
  sessions_are = tables_are Session fields job.names job.sessions at_session

  count_is : length (forms.items Session fields) ≡ length job.sessions
  count_is =
      ap length (items_is Session fields (sessions_data job.names job.sessions) at_session ∙ items_back (map (λ s. table (session_fields_of job.names s)) job.sessions))
      ∙ length_same (λ s. table (session_fields_of job.names s)) job.sessions

  count_passes : count_fault (length (forms.items Session fields)) ≡ None
  unfolding count_fault
  count_passes =
      passed _ (ap (λ n. (n == 0) || nat_lt 16 n) count_is
      ∙ ap₂ (λ a b. a || b) (ne_eqb (length job.sessions) 0 (λ e. let some = is.some_sessions in omega arith)) (le-ltb 16 (length job.sessions) is.few_sessions))

  frames_are : short_frames_in fields ≡ Some job.short_frames
  frames_are = frames_back job.short_frames fields at_frames

  frames_pass : frames_fault fields ≡ None
  unfolding frames_fault
  frames_pass = passed _ (ap is_none frames_are)

  views_are : own_views_in fields ≡ Some job.own_views
  views_are = views_back job.own_views fields at_views

  views_pass : views_fault fields ≡ None
  unfolding views_fault
  views_pass = passed _ (ap is_none views_are)

  no_fault : job_fault node fields ≡ None
  unfolding job_fault
  no_fault = then_none (version_passes)
      (then_none (unknown_passes)
      (then_none (fields_there)
      (then_none (ring_passes)
      (then_none (parties_pass)
      (then_none (adversary_passes)
      (then_none (count_passes)
      (then_none (ap₂ (λ b names. sessions_fault b names 0 (forms.tables Session fields)) is_two names_are ∙ ap (sessions_fault two job.names 0) sessions_are ∙ sessions_pass job.names is.names job.adversary 0 job.sessions (let few = is.few_sessions in omega (arith, few)) is.sessions)
      (then_none (hosts_pass fields job.names job.hosts at_parties at_hosts is.hosts)
      (then_none (port_passes fields job.port at_port is.port)
      (then_none (frames_pass)
      (then_none (views_pass)
      refl)))))))))))

  -- ---- the job

  adversary_back : (a : AdversaryForm) → value_of Formula fields ≡ formula_data a → value_of Tolerated fields ≡ tolerated_data job.names a → HasGroups (length job.names) a
      → cond (two_of a) (by_list (map (mask_of (forms.texts Parties fields)) (forms.lists Tolerated fields))) (by_formula (forms.text Formula fields)) ≡ a
  adversary_back (by_formula text) at_f at_t few = ap by_formula (text_is Formula fields text at_f)
  adversary_back (by_list masks) at_f at_t few =
      ap by_list (ap₂ (λ names ls. map (mask_of names) ls) names_are (lists_are Tolerated fields job.names masks at_t) ∙ masks_back job.names is.names masks few.1)

  same_job : (a b : JobForm) → a.bits ≡ b.bits → a.names ≡ b.names → a.adversary ≡ b.adversary → a.hosts ≡ b.hosts → a.port ≡ b.port → a.short_frames ≡ b.short_frames → a.own_views ≡ b.own_views
      → a.sessions ≡ b.sessions → a ≡ b
  same_job a b e n v h p f o s i = record { bits = e i; names = n i; adversary = v i; hosts = h i; port = p i; short_frames = f i; own_views = o i; sessions = s i }

  job_back : job_form fields ≡ job
  unfolding job_form adversary_form
  job_back = same_job _ job
      (ap nat_abs bits_are)
      names_are
      (ap (λ b. cond b (by_list (map (mask_of (forms.texts Parties fields)) (forms.lists Tolerated fields))) (by_formula (forms.text Formula fields))) is_two ∙ adversary_back job.adversary at_formula at_tolerated is.groups)
      (hosts_are fields job.hosts at_hosts)
      (ap nat_abs (port_is fields job.port at_port))
      (ap (λ o. unwrap_or o false) frames_are)
      (ap (λ o. unwrap_or o false) views_are)
      (ap₂ (λ b names. session_forms b names (forms.tables Session fields)) is_two names_are
      ∙ ap (session_forms two job.names) sessions_are ∙ forms_back job.names is.names job.adversary 0 job.sessions (let few = is.few_sessions in omega (arith, few)) is.sessions)

  -- ---- the text

  wider : (m n : ℕ) (d : Data) → m ≤ n → IsPlain m d → IsPlain n d
  wider m n d l p = record { deep = (let deep = p.deep in omega arith); dates = p.dates; sorted = p.sorted }

  integer_plain : (z : ℤ) → IsPlain 4 (integer z)
  integer_plain z = record { deep = omega arith; dates = refl; sorted = refl }

  hosts_plain : (hosts : List (List ℕ)) → IfSome (hosts_data hosts) (IsPlain 4)
  hosts_plain [] = tt
  hosts_plain (host ∷ hosts) = wider 1 4 _ (omega arith) (texts_plain (host ∷ hosts))

  port_plain : (port : ℕ) → IfSome (port_data port) (IsPlain 4)
  port_plain zero = tt
  port_plain (suc n) = integer_plain (pos (suc n))

  formula_plain : (a : AdversaryForm) → IfSome (formula_data a) (IsPlain 4)
  formula_plain (by_formula text) = wider 0 4 _ (omega arith) (string_plain text)
  formula_plain (by_list masks) = tt

  tolerated_plain : (a : AdversaryForm) → IfSome (tolerated_data job.names a) (IsPlain 4)
  tolerated_plain (by_formula text) = tt
  tolerated_plain (by_list masks) = wider 2 4 _ (omega arith) (groups_plain job.names masks)

  version_plain : (a : AdversaryForm) → IsPlain 4 (version_data a)
  version_plain (by_formula text) = integer_plain (pos 1)
  version_plain (by_list masks) = integer_plain (pos 2)

  choice_plain : (n : ℕ) (name : List ℕ) (told : Bool) → IfSome (choice_data name told) (IsPlain n)
  choice_plain n name true = wider 0 n _ (omega arith) (string_plain name)
  choice_plain n name false = tt

  products_plain : (products : Products) → IfSome (products_data products) (IsPlain 2)
  products_plain Direct = tt
  products_plain Prepared = wider 0 2 _ (omega arith) (string_plain (codes "prepared"))
  products_plain Ahead = wider 0 2 _ (omega arith) (string_plain (codes "ahead"))

  session_plain : (s : SessionForm) → IsPlain 3 (table (session_fields_of job.names s))
  session_plain s =
      let all = table_of.session_plain (string s.circuit) (string (layout_text s.layout)) (order_data s.layered_gates) (texts_data (map (owner_text job.names) s.owners)) (products_data s.products) (groups_data job.names s.readers) (wider 0 2 _ (omega arith) (string_plain s.circuit)) (wider 0 2 _ (omega arith) (string_plain (layout_text s.layout))) (choice_plain 2 (codes "layers") s.layered_gates)
      (wider 1 2 _ (omega arith) (texts_plain (map (owner_text job.names) s.owners))) (products_plain s.products) (groups_plain job.names s.readers) in
      record { deep = (let deep = all.deep in omega arith); dates = all.dates; sorted = all.sorted }

  pub read_back : (text : List ℕ) → IsUtf8 text → IsDocumentText false fields text → job_in node text ≡ Ok job
  unfolding job_in document_of
  read_back text utf8 written =
      let plain = table_of.top_plain (formula_data job.adversary) (frames_data job.short_frames) (hosts_data job.hosts) (port_data job.port) (tolerated_data job.names job.adversary) (views_data job.own_views) (texts_data job.names) (integer (pos job.bits)) (sessions_data job.names job.sessions) (version_data job.adversary) (record {
        formula_is = formula_plain job.adversary;
        frames_are = choice_plain 4 (codes "short") job.short_frames;
        hosts_are = hosts_plain job.hosts;
        parties_are = wider 1 4 _ (omega arith) (texts_plain job.names);
        port_is = port_plain job.port;
        bits_are = integer_plain (pos job.bits);
        sessions_are = list_plain 3 (λ s. table (session_fields_of job.names s)) session_plain job.sessions;
        groups_are = tolerated_plain job.adversary;
        version_is = version_plain job.adversary;
        views_are = choice_plain 4 (codes "own") job.own_views;
      }) in
      let parsed : document_of text ≡ Some fields =
      ap (λ b. cond b (parse_document text) None) (is_utf8-from_IsUtf8 text utf8) ∙ parse_document-printed false fields text written (let deep = plain.deep in omega arith) plain.dates plain.sorted in
      ap (λ o. option_map_or (λ ms. or_fault (job_fault node ms) (job_form ms)) o (Err NotToml)) parsed ∙ ap₂ or_fault no_fault job_back

pub says_its_job : DocumentsSayTheirJobs
says_its_job node job text is utf8 written = read_back node job is text utf8 written
