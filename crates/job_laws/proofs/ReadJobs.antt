-- A job that is read is within the limits.
use Rattle.std.proofs.Common.{◌≡◌, ◌≢◌, inl, inr, ℕ, ◌+◌, ◌^◌, ◌<◌, ◌≤◌, Bool, true, false, cond, not, ◌||◌, ◌&&◌, ◌==◌, nat_lt, ℤ, pos, negsuc, nat_abs, List, [], ◌∷◌, ◌++◌, length, map, Option, None, Some, IfSome, Ok, Err, refl, sym, ap, subst, ◌∙◌, arith}
use Rattle.std.specs.Prelude.{codes, fold, bit_or, position, int_le, min}
use Rattle.std.specs.List.{AllByRecursion, list_any, position_or_len, enumerate_from}
use Rattle.std.specs.Option.{is_none, is_some, unwrap_or, option_map, option_map_or, option_or}
use Rattle.std.specs.Str.{bytes_eq}
use Rattle.std.proofs.lemmas.Bool.{leb-true, ltb-false, eqb-true, and_parts}
use Rattle.std.proofs.lemmas.List.Sums.{fails_before_first}
use Rattle.std.proofs.lemmas.List.FromFn.{length-enumerate_from}
use Rattle.std.proofs.lemmas.List.Elements.{recursion_from_All}
use Rattle.std.proofs.lemmas.Nat.{pow_pos, or_lt}
use Rattle.std.proofs.Math.Pow.{pow-lt}
use Rattle.toml.specs.Data.{Data, Members, get_member}
use Rattle.toml_fields.specs.Documents.{document_of}
use Rattle.toml_fields.specs.Keys.{is_known, least_unknown}
use Rattle.toml_fields.specs.Fields.{items_of, text_of, integer_of, fields_of, has_field, integer_at, items_at, texts_at}
use Rattle.list_laws.specs.Checks.{◌answers◌, first_fault, or_fault}
use Rattle.list_laws.proofs.FirstFaults.{or_fault-ok, not_failed, passed-three}
use Rattle.party_names.specs.Names.{party_named, names_fault, AreNames}
use Rattle.party_names.proofs.NameFaults.{no_fault_tells}
use Rattle.circuit_model.specs.declared.layout.CircuitLayout.TheVariants.{Bristol, Ring}
use Rattle.job_file.specs.declared.field.JobField.{JobField}
use Rattle.job_file.specs.declared.field.JobField.TheVariants.{RingBits, Parties, Formula, Tolerated, Hosts, Port, Frames, Views, Session, Circuit, Layout, Products as ProductsField, Order, Owners, Readers}
use Rattle.job_file.specs.declared.fault.JobFault.{JobFault}
use Rattle.job_file.specs.declared.fault.JobFault.TheVariants.{NotToml, BadRing, BadFileName, BadLayout, BadProducts, BadOrder, BadOwner, BadCarry, BadReader, BadHost, BadPort, BadTolerated, TooManyTolerated, Missing, Unknown, WrongKind, Names}
use Rattle.job_file.specs.declared.layout.SessionLayout.TheVariants.{Gates, Expressions, Numbers}
use Rattle.job_file.specs.declared.owner.JobOwner.{JobOwner}
use Rattle.job_file.specs.declared.owner.JobOwner.TheVariants.{Party}
use Rattle.job_file.specs.Owners.{is_carry, owner_in, IsOwner}
use Rattle.job_file.specs.declared.products.Products.{Products}
use Rattle.job_file.specs.declared.products.Products.TheVariants.{Direct}
use Rattle.job_file.specs.Products.{are_prepared, products_named}
use Rattle.job_file.specs.Names.{field_text, top_fields, session_fields, is_file_name, is_host, layout_of, are_layered, are_short, are_own}
use Rattle.job_file.specs.Forms.{JobForm, AdversaryForm, by_formula, by_list, integer, text, texts, items, lists, tables, is_version_two, adversary_field, products_in, layered_gates_in, short_frames_in, own_views_in, owner_of, session_form, session_forms, adversary_form, job_form, party_of, mask_of}
use Rattle.job_file.specs.Faults.{is_no_party, bad_name, bad_in_lists, owner_fault, owners_fault, is_there, is_of_other_kind, is_within, required_fault, optional_fault, unknown_fault, version_fault, fields_fault, ring_fault, parties_fault, groups_fault, adversary_fault, count_fault, hosts_fault, port_fault, frames_fault, views_fault, session_fields_fault, session_values_fault, sessions_fault, job_fault, job_in}
use Rattle.job_file.proofs.Rows.{session_count}
use Rattle.job_file.proofs.Owners.{named_below, owner_within}
use Rattle.job_laws.specs.Documents.{HasLayout, HasChoice, HasOwner, IsSessionForm, AreSessionForms, HasGroups, AreHosts, IsJobForm}
use Rattle.job_laws.proofs.DocumentShapes.{length_same}
use Rattle.job_laws.proofs.DocumentFields.{not_known}
use Rattle.job_laws.proofs.OwnerTexts.{two_of}

-- ---- checks that passed

pub head_passed : {F : Type 0} (a : Option F) (rest : List (Option F)) → first_fault (a ∷ rest) ≡ None → (a ≡ None) × (first_fault rest ≡ None)
head_passed None rest e = (refl, e)
head_passed (Some f) rest e = cc

pub map_none : {A B : Type 0} (f : A → B) (o : Option A) → option_map f o ≡ None → o ≡ None
map_none f None e = refl
map_none f (Some a) e = cc

pub or_none : {A : Type 0} (a b : Option A) → option_or a b ≡ None → (a ≡ None) × (b ≡ None)
or_none None b e = (refl, e)
or_none (Some x) b e = cc

not_false : (b : Bool) → not b ≡ false → b ≡ true
not_false true e = refl
not_false false e = cc

no_place : {A : Type 0} (b : Bool) (x : A) → cond b (Some x) None ≡ None → b ≡ false
no_place false x e = refl
no_place true x e = cc

all_fail : (test : List ℕ → Bool) (xs : List (List ℕ)) → position test xs ≡ None → AllByRecursion (λ x. test x ≡ false) xs
all_fail test xs e =
    let past : length xs ≤ position_or_len test xs = ltb-false (position_or_len test xs) (length xs) (no_place (nat_lt (position_or_len test xs) (length xs)) (position_or_len test xs) e) in
    recursion_from_All (λ x. test x ≡ false) xs (λ k d l. fails_before_first test xs k d (omega (arith, l, past)))

-- ---- parties by name

some_below : (n : ℕ) (o : Option ℕ) → ((p : ℕ) → o ≡ Some p → p < n) → is_none o ≡ false → unwrap_or o 0 < n
some_below n None h e = cc
some_below n (Some p) h e = h p refl

party_below : (names : List (List ℕ)) (text : List ℕ) → is_no_party names text ≡ false → party_of names text < length names
party_below names text e = some_below (length names) (party_named names text) (named_below names text) e

bad_step : (a b : Bool) (n : ℕ) (rest : Option ℕ) → cond (a || b) (Some n) rest ≡ None → (a ≡ false) × (rest ≡ None)
bad_step true b n rest e = cc
bad_step false true n rest e = cc
bad_step false false n rest e = (refl, e)

-- the texts of a list without a bad name are parties' names
pub list_named : (names before texts : List (List ℕ)) → bad_name names before texts ≡ None → AllByRecursion (λ text. is_no_party names text ≡ false) texts
unfolding bad_name
list_named names before [] e = tt
list_named names before (text ∷ rest) e =
    let step = bad_step (is_no_party names text) (list_any (λ other. bytes_eq other text) before) (length before) (bad_name names (before ++ text ∷ []) rest) e in
    (step.0, list_named names (before ++ text ∷ []) rest step.1)

fold_below : (names texts : List (List ℕ)) (mask : ℕ) → mask < 2 ^ length names → AllByRecursion (λ text. is_no_party names text ≡ false) texts
    → fold (λ mask name. bit_or mask (2 ^ party_of names name)) mask texts < 2 ^ length names
fold_below names [] mask l h = l
fold_below names (text ∷ rest) mask l h =
    fold_below names rest (bit_or mask (2 ^ party_of names text)) (or_lt (length names) mask (2 ^ party_of names text) l (pow-lt {i = party_of names text} {j = length names} (party_below names text h.0))) h.1

pub mask_below : (names texts : List (List ℕ)) → bad_name names [] texts ≡ None → mask_of names texts < 2 ^ length names
unfolding mask_of
mask_below names texts e = fold_below names texts 0 (pow_pos (length names)) (list_named names [] texts e)

masks_below : (names : List (List ℕ)) (value : ℕ) (lists : List (List (List ℕ))) → bad_in_lists names value lists ≡ None → AllByRecursion (λ mask. mask < 2 ^ length names) (map (mask_of names) lists)
unfolding bad_in_lists
masks_below names value [] e = tt
masks_below names value (texts ∷ rest) e =
    let both = or_none (option_map (λ at. (value, at)) (bad_name names [] texts)) (bad_in_lists names (value + 1) rest) e in
    (mask_below names texts (map_none (λ at. (value, at)) (bad_name names [] texts) both.0), masks_below names (value + 1) rest both.1)

-- ---- a session

layout_fits : (adversary : AdversaryForm) (name : List ℕ) → HasLayout adversary (unwrap_or (layout_of (two_of adversary) name) (Gates Ring))
unfolding layout_of
layout_fits (by_list masks) name = tt
layout_fits (by_formula formula) name = fits (bytes_eq name (codes "bristol")) (bytes_eq name (codes "ring")) (bytes_eq name (codes "expr")) (bytes_eq name (codes "numbers"))
  where
    fits : (a b c d : Bool) → HasLayout (by_formula formula) (unwrap_or (cond a (Some (Gates Bristol)) (cond b (Some (Gates Ring)) (cond (false && c) (Some Expressions) (cond (false && d) (Some Numbers) None)))) (Gates Ring))
    fits true b c d = tt
    fits false true c d = tt
    fits false false c d = tt

-- what no field tells is not chosen
no_choice : (adversary : AdversaryForm) (o : Option Data) (told : Option Bool) → o ≡ None → HasChoice adversary (unwrap_or (cond (is_some o) told (Some false)) false)
no_choice adversary o told none = subst (λ o. HasChoice adversary (unwrap_or (cond (is_some o) told (Some false)) false)) (sym none) (not_chosen adversary)
  where
    not_chosen : (adversary : AdversaryForm) → HasChoice adversary false
    not_chosen (by_formula text) = tt
    not_chosen (by_list masks) = tt

-- no field tells of products in version 1
products_fit : (adversary : AdversaryForm) (s : ℕ) (fields : Members) → unknown_fault (Some s) (session_fields (two_of adversary)) fields ≡ None → HasChoice adversary (are_prepared (unwrap_or (products_in fields) Direct))
unfolding unknown_fault products_in has_field field_text
products_fit (by_list masks) s fields e = tt
products_fit (by_formula formula) s fields e =
    let known = map_none (λ name. Unknown (Some s) name) (least_unknown (map field_text (session_fields false)) fields) e in
    direct (products_named (text ProductsField fields)) (not_known (map field_text (session_fields false)) (field_text ProductsField) fields refl known)
  where
    direct : (told : Option Products) → get_member (field_text ProductsField) fields ≡ None → HasChoice (by_formula formula) (are_prepared (unwrap_or (cond (is_some (get_member (field_text ProductsField) fields)) told (Some Direct)) Direct))
    direct told none = subst (λ (o : Option Data). HasChoice (by_formula formula) (are_prepared (unwrap_or (cond (is_some o) told (Some Direct)) Direct))) (sym none) tt

-- nor of an order of gates
order_fits : (adversary : AdversaryForm) (s : ℕ) (fields : Members) → unknown_fault (Some s) (session_fields (two_of adversary)) fields ≡ None → HasChoice adversary (unwrap_or (layered_gates_in fields) false)
unfolding unknown_fault layered_gates_in has_field field_text
order_fits (by_list masks) s fields e = tt
order_fits (by_formula formula) s fields e =
    let known = map_none (λ name. Unknown (Some s) name) (least_unknown (map field_text (session_fields false)) fields) e in
    no_choice (by_formula formula) (get_member (field_text Order) fields) (are_layered (text Order fields)) (not_known (map field_text (session_fields false)) (field_text Order) fields refl known)

-- an owner is told, where there is no fault
told_within : (P : JobOwner → Type 0) (o : Option JobOwner) (fault : JobFault) → (is_none o answers fault) ≡ None → IfSome o P → P (unwrap_or o (Party 0))
told_within P None fault e h = cc
told_within P (Some owner) fault e h = h

owners_within : (two : Bool) (names : List (List ℕ)) (s at : ℕ) (texts : List (List ℕ)) → owners_fault two names s at texts ≡ None
    → AllByRecursion (IsOwner (length names) s) (map (owner_of two names s) texts)
unfolding owners_fault
owners_within two names s at [] e = tt
owners_within two names s at (text ∷ texts) e =
    let one = head_passed (owner_fault two names s at text) (owners_fault two names s (at + 1) texts ∷ []) e in
    let two_passed = head_passed (owners_fault two names s (at + 1) texts) [] one.1 in (
      told_within (IsOwner (length names) s) (owner_in two names s text) (cond (is_carry two text) (BadCarry s at) (BadOwner s at)) one.0 (owner_within two names s text),
      owners_within two names s (at + 1) texts two_passed.0,
    )

-- none is carried in version 1
party_fits : (formula : List ℕ) (o : Option ℕ) → HasOwner (by_formula formula) (unwrap_or (option_map (λ party. Party party) o) (Party 0))
party_fits formula None = tt
party_fits formula (Some p) = tt

owners_fit : (adversary : AdversaryForm) (names : List (List ℕ)) (s : ℕ) (texts : List (List ℕ)) → AllByRecursion (HasOwner adversary) (map (owner_of (two_of adversary) names s) texts)
unfolding owner_in
owners_fit adversary names s [] = tt
owners_fit (by_list masks) names s (text ∷ texts) = (tt, owners_fit (by_list masks) names s texts)
owners_fit (by_formula formula) names s (text ∷ texts) = (party_fits formula (party_named names text), owners_fit (by_formula formula) names s texts)

module _ (adversary : AdversaryForm) (names : List (List ℕ)) where
  fields_known : (s : ℕ) (fields : Members) → session_fields_fault (two_of adversary) s fields ≡ None → unknown_fault (Some s) (session_fields (two_of adversary)) fields ≡ None
  unfolding session_fields_fault
  fields_known s fields e =
      (head_passed (unknown_fault (Some s) (session_fields (two_of adversary)) fields)
      (required_fault (Some s) Circuit fields ∷ required_fault (Some s) Layout fields ∷ optional_fault (Some s) ProductsField fields ∷ optional_fault (Some s) Order fields ∷ required_fault (Some s) Owners fields ∷ required_fault (Some s) Readers fields ∷ []) e).0

  session_within : (s : ℕ) (fields : Members) → session_fields_fault (two_of adversary) s fields ≡ None → session_values_fault (two_of adversary) names s fields ≡ None → IsSessionForm (length names) adversary s (session_form (two_of adversary) names s fields)
  unfolding session_values_fault session_form
  session_within s fields there e =
      let name : Option JobFault = not (is_file_name (text Circuit fields)) answers BadFileName s in
      let layout : Option JobFault = is_none (layout_of (two_of adversary) (text Layout fields)) answers BadLayout s in
      let products : Option JobFault = is_none (products_in fields) answers BadProducts s in
      let order : Option JobFault = is_none (layered_gates_in fields) answers BadOrder s in
      let owners : Option JobFault = owners_fault (two_of adversary) names s 0 (texts Owners fields) in
      let readers : Option JobFault = option_map (λ bad. BadReader s bad.0 bad.1) (bad_in_lists names 0 (lists Readers fields)) in
      let one = head_passed name (layout ∷ products ∷ order ∷ owners ∷ readers ∷ []) e in
      let two = head_passed layout (products ∷ order ∷ owners ∷ readers ∷ []) one.1 in
      let three = head_passed products (order ∷ owners ∷ readers ∷ []) two.1 in
      let four = head_passed order (owners ∷ readers ∷ []) three.1 in
      let five = head_passed owners (readers ∷ []) four.1 in
      let six = head_passed readers [] five.1 in
      record {
        circuit = not_false (is_file_name (text Circuit fields)) (not_failed (not (is_file_name (text Circuit fields))) (BadFileName s) one.0);
        layout = layout_fits adversary (text Layout fields);
        products = products_fit adversary s fields (fields_known s fields there);
        order = order_fits adversary s fields (fields_known s fields there);
        owners = owners_within (two_of adversary) names s 0 (texts Owners fields) five.0;
        carries = owners_fit adversary names s (texts Owners fields);
        readers = masks_below names 0 (lists Readers fields) (map_none (λ bad. BadReader s bad.0 bad.1) (bad_in_lists names 0 (lists Readers fields)) six.0);
      }

  sessions_within : (s : ℕ) (all : List Members) → sessions_fault (two_of adversary) names s all ≡ None
      → AreSessionForms (length names) adversary s (map (λ (t : ℕ × Members). session_form (two_of adversary) names t.0 t.1) (enumerate_from s all))
  unfolding sessions_fault
  sessions_within s [] e = tt
  sessions_within s (fields ∷ rest) e =
      let each = passed-three (session_fields_fault (two_of adversary) s fields) (session_values_fault (two_of adversary) names s fields) (sessions_fault (two_of adversary) names (s + 1) rest) e in
      (session_within s fields each.0 each.1, sessions_within (s + 1) rest each.2)

-- ---- numbers

number_within : (high : ℕ) (z : ℤ) → is_within (pos 1) (pos high) z ≡ true → (1 ≤ nat_abs z) × (nat_abs z ≤ high)
number_within high (pos n) e = let both = and_parts (int_le (pos 1) (pos n)) (int_le (pos n) (pos high)) e in (leb-true 1 n both.0, leb-true n high both.1)
number_within high (negsuc n) e = cc

-- ---- whether a field is there

none_of : (o : Option Data) → is_some o ≡ false → o ≡ None
none_of None e = refl
none_of (Some d) e = cc

module _ (fields : Members) where
  no_texts : (field : JobField) → is_there field fields ≡ false → texts field fields ≡ []
  unfolding has_field texts_at items_at
  no_texts field e = ap (λ o. map text_of (option_map_or items_of o [])) (none_of _ e)

  no_integer : (field : JobField) → is_there field fields ≡ false → integer field fields ≡ pos 0
  unfolding has_field integer_at
  no_integer field e = ap (λ o. option_map_or integer_of o (pos 0)) (none_of _ e)

  is_required : (field : JobField) → required_fault None field fields ≡ None → is_there field fields ≡ true
  unfolding required_fault
  is_required field e =
      let first = head_passed (not (is_there field fields) answers Missing None field) ((is_of_other_kind field fields answers WrongKind None field) ∷ []) e in
      not_false (is_there field fields) (not_failed (not (is_there field fields)) (Missing None field) first.0)

  -- ---- hosts and port

  abbrev too_many_or_few : Option JobFault
  too_many_or_few = (is_there Hosts fields && not (length (texts Hosts fields) == length (texts Parties fields))) answers BadHost (min (length (texts Hosts fields)) (length (texts Parties fields)))

  abbrev bad_host : Option JobFault
  bad_host = option_map (λ at. BadHost at) (position (λ host. not (is_host host)) (texts Hosts fields))

  hosts_passed : hosts_fault fields ≡ None → (too_many_or_few ≡ None) × (bad_host ≡ None)
  unfolding hosts_fault
  hosts_passed e = let one = head_passed too_many_or_few (bad_host ∷ []) e in (one.0, (head_passed bad_host [] one.1).0)

  all_hosts : (hosts : List (List ℕ)) → AllByRecursion (λ host. not (is_host host) ≡ false) hosts → AllByRecursion (λ host. is_host host ≡ true) hosts
  all_hosts [] h = tt
  all_hosts (host ∷ hosts) h = (not_false (is_host host) h.0, all_hosts hosts h.1)

  as_many : is_there Hosts fields ≡ true → hosts_fault fields ≡ None → length (texts Hosts fields) ≡ length (texts Parties fields)
  as_many there e =
      let failed = not_failed (is_there Hosts fields && not (length (texts Hosts fields) == length (texts Parties fields))) (BadHost (min (length (texts Hosts fields)) (length (texts Parties fields)))) (hosts_passed e).0 in
      eqb-true (length (texts Hosts fields)) (length (texts Parties fields))
      (not_false (length (texts Hosts fields) == length (texts Parties fields)) (sym (ap (λ b. b && not (length (texts Hosts fields) == length (texts Parties fields))) there) ∙ failed))

  hosts_within : (b : Bool) → is_there Hosts fields ≡ b → hosts_fault fields ≡ None → AreHosts (length (texts Parties fields)) (texts Hosts fields)
  hosts_within false there e = inl (no_texts Hosts there)
  hosts_within true there e =
      inr (as_many there e, all_hosts (texts Hosts fields) (all_fail (λ host. not (is_host host)) (texts Hosts fields) (map_none (λ at. BadHost at) (position (λ host. not (is_host host)) (texts Hosts fields)) (hosts_passed e).1)))

  told_port : is_there Port fields ≡ true → port_fault fields ≡ None → (1 ≤ nat_abs (integer Port fields)) × (nat_abs (integer Port fields) ≤ 65392)
  unfolding port_fault
  told_port there e =
      let failed = not_failed (is_there Port fields && not (is_within (pos 1) (pos 65392) (integer Port fields))) (BadPort (integer Port fields)) e in
      number_within 65392 (integer Port fields)
      (not_false (is_within (pos 1) (pos 65392) (integer Port fields)) (sym (ap (λ b. b && not (is_within (pos 1) (pos 65392) (integer Port fields))) there) ∙ failed))

  port_within : (b : Bool) → is_there Port fields ≡ b → port_fault fields ≡ None → nat_abs (integer Port fields) ≤ 65392
  port_within true there e = (told_port there e).1
  port_within false there e = subst (λ z. nat_abs z ≤ 65392) (sym (no_integer Port there)) (omega arith)

  -- ---- the structure

  adversary_is : (b : Bool) → is_version_two fields ≡ b → two_of (adversary_form fields) ≡ b
  unfolding adversary_form
  adversary_is true e = ap (λ b. two_of (cond b (by_list (map (mask_of (texts Parties fields)) (lists Tolerated fields))) (by_formula (text Formula fields)))) e
  adversary_is false e = ap (λ b. two_of (cond b (by_list (map (mask_of (texts Parties fields)) (lists Tolerated fields))) (by_formula (text Formula fields)))) e

  groups_within : (b : Bool) → cond b (groups_fault (texts Parties fields) (lists Tolerated fields)) None ≡ None
      → HasGroups (length (texts Parties fields)) (cond b (by_list (map (mask_of (texts Parties fields)) (lists Tolerated fields))) (by_formula (text Formula fields)))
  unfolding groups_fault
  groups_within false e = tt
  groups_within true e =
      let many : Option JobFault = nat_lt 4096 (length (lists Tolerated fields)) answers TooManyTolerated (length (lists Tolerated fields)) in
      let bad : Option JobFault = option_map (λ bad. BadTolerated bad.0 bad.1) (bad_in_lists (texts Parties fields) 0 (lists Tolerated fields)) in
      let one = head_passed many (bad ∷ []) e in
      let two = head_passed bad [] one.1 in
      let few : length (lists Tolerated fields) ≤ 4096 = ltb-false 4096 (length (lists Tolerated fields)) (not_failed (nat_lt 4096 (length (lists Tolerated fields))) (TooManyTolerated (length (lists Tolerated fields))) one.0) in (
        omega (arith, few, length_same (mask_of (texts Parties fields)) (lists Tolerated fields)),
        masks_below (texts Parties fields) 0 (lists Tolerated fields) (map_none (λ bad. BadTolerated bad.0 bad.1) (bad_in_lists (texts Parties fields) 0 (lists Tolerated fields)) two.0),
      )

  -- ---- frames and views, of which no field tells in version 1

  abbrev adversary_by : Bool → AdversaryForm
  adversary_by b = cond b (by_list (map (mask_of (texts Parties fields)) (lists Tolerated fields))) (by_formula (text Formula fields))

  untold : (field : JobField) → is_known (map field_text (top_fields false Formula)) (field_text field) ≡ false → unknown_fault None (top_fields false Formula) fields ≡ None → get_member (field_text field) fields ≡ None
  unfolding unknown_fault
  untold field unknown e = not_known (map field_text (top_fields false Formula)) (field_text field) fields unknown (map_none (λ name. Unknown None name) (least_unknown (map field_text (top_fields false Formula)) fields) e)

  frames_within : (b : Bool) → unknown_fault None (top_fields b (cond b Tolerated Formula)) fields ≡ None → HasChoice (adversary_by b) (unwrap_or (short_frames_in fields) false)
  unfolding short_frames_in has_field field_text
  frames_within true e = tt
  frames_within false e = no_choice (adversary_by false) (get_member (field_text Frames) fields) (are_short (text Frames fields)) (untold Frames refl e)

  views_within : (b : Bool) → unknown_fault None (top_fields b (cond b Tolerated Formula)) fields ≡ None → HasChoice (adversary_by b) (unwrap_or (own_views_in fields) false)
  unfolding own_views_in has_field field_text
  views_within true e = tt
  views_within false e = no_choice (adversary_by false) (get_member (field_text Views) fields) (are_own (text Views fields)) (untold Views refl e)

  -- ---- the whole file

  some_hosts : length (texts Hosts fields) ≡ length (texts Parties fields) → 1 ≤ length (texts Parties fields) → texts Hosts fields ≢ []
  some_hosts long some none = omega (arith, long, some, ap length none)

  node_there : (node : Bool) → node ≡ true → fields_fault node fields ≡ None → (is_there Hosts fields ≡ true) × (is_there Port fields ≡ true)
  unfolding fields_fault
  node_there false is e = cc
  node_there true is e =
      let hosts : Option JobFault = required_fault None Hosts fields in
      let port : Option JobFault = required_fault None Port fields in
      let session : Option JobFault = required_fault None Session fields in
      let adversary : Option JobFault = required_fault None (adversary_field fields) fields in
      let rest : List (Option JobFault) = optional_fault None Frames fields ∷ optional_fault None Views fields ∷ session ∷ [] in
      let one = head_passed (required_fault None RingBits fields) (required_fault None Parties fields ∷ adversary ∷ hosts ∷ port ∷ rest) e in
      let two = head_passed (required_fault None Parties fields) (adversary ∷ hosts ∷ port ∷ rest) one.1 in
      let three = head_passed adversary (hosts ∷ port ∷ rest) two.1 in
      let four = head_passed hosts (port ∷ rest) three.1 in
      let five = head_passed port rest four.1 in
      (is_required Hosts four.0, is_required Port five.0)

  -- the job of a document without a fault; the fault of the structure is told to those who ask
  pub form_within : (node : Bool) → job_fault node fields ≡ None → IsJobForm node (job_form fields) × (adversary_fault fields ≡ None)
  unfolding job_fault ring_fault parties_fault job_form adversary_form
  form_within node e =
      let version : Option JobFault = version_fault fields in
      let unknown : Option JobFault = unknown_fault None (top_fields (is_version_two fields) (adversary_field fields)) fields in
      let there : Option JobFault = fields_fault node fields in
      let ring : Option JobFault = ring_fault fields in
      let parties : Option JobFault = parties_fault fields in
      let adversary : Option JobFault = adversary_fault fields in
      let count : Option JobFault = count_fault (length (items Session fields)) in
      let sessions : Option JobFault = sessions_fault (is_version_two fields) (texts Parties fields) 0 (tables Session fields) in
      let hosts : Option JobFault = hosts_fault fields in
      let port : Option JobFault = port_fault fields in
      let forms : List (Option JobFault) = frames_fault fields ∷ views_fault fields ∷ [] in
      let one = head_passed version (unknown ∷ there ∷ ring ∷ parties ∷ adversary ∷ count ∷ sessions ∷ hosts ∷ port ∷ forms) e in
      let two = head_passed unknown (there ∷ ring ∷ parties ∷ adversary ∷ count ∷ sessions ∷ hosts ∷ port ∷ forms) one.1 in
      let three = head_passed there (ring ∷ parties ∷ adversary ∷ count ∷ sessions ∷ hosts ∷ port ∷ forms) two.1 in
      let four = head_passed ring (parties ∷ adversary ∷ count ∷ sessions ∷ hosts ∷ port ∷ forms) three.1 in
      let five = head_passed parties (adversary ∷ count ∷ sessions ∷ hosts ∷ port ∷ forms) four.1 in
      let six = head_passed adversary (count ∷ sessions ∷ hosts ∷ port ∷ forms) five.1 in
      let seven = head_passed count (sessions ∷ hosts ∷ port ∷ forms) six.1 in
      let eight = head_passed sessions (hosts ∷ port ∷ forms) seven.1 in
      let nine = head_passed hosts (port ∷ forms) eight.1 in
      let ten = head_passed port forms nine.1 in
      let bits = number_within 64 (integer RingBits fields) (not_false _ (not_failed (not (is_within (pos 1) (pos 64) (integer RingBits fields))) (BadRing (integer RingBits fields)) four.0)) in
      let names : AreNames (texts Parties fields) = no_fault_tells (texts Parties fields) (map_none (λ fault. Names fault) (names_fault (texts Parties fields)) five.0) in
      let sessions_are = session_count (length (items Session fields)) seven.0 in
      let long : length (job_form fields).sessions ≡ length (items Session fields) = length_same (λ (t : ℕ × Members). session_form (is_version_two fields) (texts Parties fields) t.0 t.1) (enumerate_from 0 (tables Session fields)) ∙ length-enumerate_from 0 (tables Session fields) ∙ length_same fields_of (items Session fields) in
      let same = adversary_is (is_version_two fields) refl in (
        record {
          some_bits = bits.0;
          few_bits = bits.1;
          names = names;
          groups = groups_within (is_version_two fields) six.0;
          hosts = hosts_within (is_there Hosts fields) refl nine.0;
          port = port_within (is_there Port fields) refl ten.0;
          peers = λ is. let told = node_there node is three.0 in record {
            hosts = some_hosts (as_many told.0 nine.0) names.some;
            port = λ zero. let some = (told_port told.1 ten.0).0 in omega (arith, zero, some);
          };
          frames = frames_within (is_version_two fields) two.0;
          views = views_within (is_version_two fields) two.0;
          some_sessions = omega (arith, sessions_are.0, long);
          few_sessions = omega (arith, sessions_are.1, long);
          sessions = subst (λ b. AreSessionForms (length (texts Parties fields)) (adversary_form fields) 0 (session_forms b (texts Parties fields) (tables Session fields))) same
              (sessions_within (adversary_form fields) (texts Parties fields) 0 (tables Session fields)
              (subst (λ b. sessions_fault b (texts Parties fields) 0 (tables Session fields) ≡ None) (sym same) eight.0));
        },
        six.0,
      )

-- what the document of a job's file says, where it has no fault
pub record IsGoodDocument (node : Bool) (bytes : List ℕ) (job : JobForm) : Type 0 where
  pub fields : Members
  pub parsed : document_of bytes ≡ Some fields
  pub is : job ≡ job_form fields
  pub no_fault : job_fault node fields ≡ None

good_fields : (node : Bool) (bytes : List ℕ) (job : JobForm) (d : Option Members) → document_of bytes ≡ d
    → option_map_or (λ fields. or_fault (job_fault node fields) (job_form fields)) d (Err NotToml) ≡ Ok job → IsGoodDocument node bytes job
good_fields node bytes job None is e = cc
good_fields node bytes job (Some fields) is e =
    let both = or_fault-ok (job_fault node fields) (job_form fields) job (sym e) in
    record { fields = fields; parsed = is; is = both.1; no_fault = both.0 }

pub good_document : (node : Bool) (bytes : List ℕ) (job : JobForm) → job_in node bytes ≡ Ok job → IsGoodDocument node bytes job
unfolding job_in
good_document node bytes job e = good_fields node bytes job (document_of bytes) refl e

pub good_job : (node : Bool) (bytes : List ℕ) (job : JobForm) → job_in node bytes ≡ Ok job → IsJobForm node job
good_job node bytes job e =
    let good = good_document node bytes job e in
    subst (IsJobForm node) (sym good.is) (form_within good.fields node good.no_fault).0
