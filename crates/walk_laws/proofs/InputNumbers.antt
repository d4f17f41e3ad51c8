-- The numbers of a session's input values are those of the parties' files.
use Rattle.std.proofs.Common.{◌≡◌, ℕ, ◌+◌, ◌*◌, ◌<◌, nat_lt, Bool, true, List, [], length, Option, None, Some, Ok, refl, sym, ap, ◌∙◌, subst, arith}
use Rattle.std.specs.Prelude.{slice_index, slice_index_or}
use Rattle.std.specs.Option.{unwrap_or}
use Rattle.std.proofs.lemmas.List.{length-map}
use Rattle.std.proofs.lemmas.Bool.{cond-true, eq-eqb, lt-ltb}
use Rattle.list_laws.specs.Lists.{total}
use Rattle.toml.specs.Data.{Members as Fields}
use Rattle.toml_fields.specs.Documents.{document_of}
use Rattle.session_slots.specs.declared.source.Source.{Source}
use Rattle.session_slots.specs.declared.source.Source.TheVariants.{Given}
use Rattle.session_slots.specs.declared.values.InputValue.{InputValue}
use Rattle.session_slots.specs.declared.values.Owner.{Owner}
use Rattle.session_slots.specs.declared.values.Owner.TheVariants.{Party}
use Rattle.session_slots.specs.Sessions.{given_by, owners, source, source_from}
use Rattle.plan_model.specs.Plans.{Plan, session, plan_of}
use Rattle.session_slots.specs.Carries.{keeping}
use Rattle.value_words.specs.Turned.{column, is_numeric}
use Rattle.value_words.proofs.Turns.{column_eq}
use Rattle.party_file.specs.Table.{PartyForm, given_widths, gives_value, party_in, party_in_fields}
use Rattle.party_file.specs.GivenNumbers.{StandFor}
use Rattle.party_file.proofs.ReadNumbers.{inputs_stand}
use Rattle.share_world.specs.Worlds.{World, first_values, plain, source_input, source_value}
use Rattle.job_walk.specs.Names as file_names
use Rattle.job_walk.specs.Verdict.{accepted, Then}
use Rattle.job_walk.specs.JobOf.{Contents, PartyAt, file_at, numeric_sessions}
use Rattle.mpc_top.specs.WholeJobs.{WholeJob, JobAt}
use Rattle.mpc_top.proofs.WholeWorlds.{no_form, was_ok}
use Rattle.walk_laws.specs.Numbers.{AreOfFiles, file_numbers, given_among, input_number, no_value, told_numbers, widths_of}
use Rattle.walk_laws.proofs.FileCircuits.{bytes_there}
use Rattle.walk_laws.proofs.NodeWorlds.{IsMade, form_of_all, forms_count, inputs_are, made}
use Rattle.walk_laws.proofs.NumberColumns.{number_column, numbers_at}
use Rattle.walk_laws.proofs.GivenPlaces.{given_place, given_width, given_within, its_widths, wire_of_value, wire_within}

-- ---- the file of a party

-- a file that is accepted is a document
has_document : (numeric : List Bool) (plan : Plan) (p : ℕ) (d : Option Fields) (form : PartyForm) → party_in_fields numeric plan p d ≡ Ok form → (fields : Fields) × (d ≡ Some fields)
has_document numeric plan p None form e = cc
has_document numeric plan p (Some fields) form e = (fields, refl)

-- what a party gives in a session of numbers stands for the numbers of its file
party_stands : (files : Contents) (dir : List ℕ) (numeric : List Bool) (plan : Plan) (p : ℕ) (name : List ℕ) (form : PartyForm) (s : ℕ) → PartyAt files dir numeric plan p name (accepted form) → s < length plan.sessions → is_numeric numeric s ≡ true
    → StandFor plan.bits (given_widths (session plan s) p) (slice_index_or form.inputs s []) (told_numbers (document_of (unwrap_or (files (file_names.path_of dir (file_names.party_file name))) [])) s)
unfolding PartyAt Then file_at party_in
party_stands files dir numeric plan p name form s (bytes, there, e) l numbers =
    let is : party_in numeric plan p bytes ≡ Ok form = was_ok _ (party_in numeric plan p bytes) form e in
    let file : files (file_names.path_of dir (file_names.party_file name)) ≡ Some bytes = bytes_there (files (file_names.path_of dir (file_names.party_file name))) (file_names.party_file name) bytes (sym there) in
    let document = has_document numeric plan p (document_of bytes) form is in
    let found : document_of (unwrap_or (files (file_names.path_of dir (file_names.party_file name))) []) ≡ Some document.0 = ap (λ (o : Option (List ℕ)). document_of (unwrap_or o [])) file ∙ document.1 in
    subst (λ d. StandFor plan.bits (given_widths (session plan s) p) (slice_index_or form.inputs s []) (told_numbers d s)) (sym found)
    (inputs_stand numeric plan p bytes document.0 form document.1 is s l numbers)

-- ---- the input values of a session

module _ (w : World) (s i p : ℕ) (widths numbers : List ℕ) (one : w.plan.bits ≡ 1) (low : (v : ℕ) → first_values w (plain w) s v < 2) (are : widths ≡ widths_of (session w.plan s).inputs)
    (stand : StandFor w.plan.bits (given_widths (session w.plan s) p) (slice_index_or (slice_index_or w.inputs p []) s []) numbers) (l : i < length (session w.plan s).inputs)
    (owner : (slice_index_or (session w.plan s).inputs i no_value).owner ≡ Party p) where
  abbrev values : List InputValue
  values = (session w.plan s).inputs

  abbrev words : List ℕ
  words = slice_index_or (slice_index_or w.inputs p []) s []

  abbrev place : ℕ
  place = given_among p values i

  abbrev first : ℕ
  first = total i (slice_index (widths_of values))

  own : gives_value p (slice_index_or values i no_value) ≡ true
  own = ap (λ (o : Owner). given_by p (source_from o 0)) owner ∙ eq-eqb p p refl

  -- the word of a wire of the value
  word_is : (j : ℕ) → j < slice_index (widths_of values) i → first_values w (plain w) s (first + j) ≡ slice_index words (total place (slice_index (its_widths p values)) + j)
  word_is j m =
      let v : ℕ = first + j in
      let from : source (session w.plan s) v ≡ Given p = wire_of_value values i j l m ∙ ap (λ (o : Owner). source_from o j) owner in
      cond-true (nat_lt v (length (owners (session w.plan s)))) _ 0 (lt-ltb v (length (owners (session w.plan s))) (wire_within values i j l m))
      ∙ ap (source_value w (plain w) s v) from ∙ ap (source_input w s v) from ∙ ap (slice_index words) (given_place p values i j l own (omega (arith, m)))

  long : i < length widths
  long = omega (arith, l, ap length are, length-map values (λ (value : InputValue). value.width))

  same_first : (n : ℕ) → 0 + total i (slice_index widths) + n ≡ first + n
  same_first n = (let e = ap (λ ws. total i (slice_index ws)) are in omega (arith, e))

  pub number_is : input_number w s widths i ≡ slice_index numbers place
  number_is =
      let f : ℕ → ℕ = first_values w (plain w) s in
      let width : slice_index widths i ≡ slice_index (widths_of values) i = ap (λ ws. slice_index ws i) are in
      let in_file = stand.each place 0 (given_within p values i l own) (omega (arith, one)) in
      numbers_at f 0 widths i long
      ∙ number_column f low (0 + total i (slice_index widths)) (slice_index widths i)
      ∙ ap (λ k. column k (λ j. f (0 + total i (slice_index widths) + j)) 0) width
      ∙ column_eq (slice_index (widths_of values) i) (λ j. f (0 + total i (slice_index widths) + j)) (λ j. slice_index words (total place (slice_index (its_widths p values)) + j)) 0 (λ j m. ap f (same_first j) ∙ word_is j m)
      ∙ ap (λ k. column k (λ j. slice_index words (total place (slice_index (its_widths p values)) + j)) 0) (sym (given_width p values i l own))
      ∙ in_file ∙ ap (slice_index numbers) (let e : place * w.plan.bits + 0 ≡ place = ap (λ n. place * n + 0) one ∙ omega arith in e)

-- ---- the job

pub inputs_are_of_files : (files : Contents) (dir : List ℕ) (asked : Option (List ℕ)) (whole : WholeJob) (s : ℕ) (widths : List ℕ) → JobAt files dir asked (accepted whole) → s < length whole.world.plan.sessions → is_numeric whole.numeric s ≡ true → whole.world.plan.bits ≡ 1
    → ((v : ℕ) → first_values whole.world (plain whole.world) s v < 2) → widths ≡ widths_of (session whole.world.plan s).inputs → AreOfFiles files dir whole s (input_number whole.world s widths)
inputs_are_of_files files dir asked whole s widths at within numeric one low are i p l known owner =
    let m : IsMade files dir whole = made files dir asked whole at in
    let plan : Plan = plan_of m.form.bits m.groups (keeping m.sessions) in
    let plan_is : plan ≡ whole.world.plan = ap (λ (w : World). w.plan) (sym m.is) in
    let there : p < length m.form.names = omega (arith, known, ap length m.names) in
    let count : p < length m.forms = omega (arith, there, forms_count files dir (numeric_sessions m.form) plan [] m.form.names m.forms m.parties) in
    let party : PartyAt files dir (numeric_sessions m.form) plan p (slice_index_or m.form.names p []) (accepted (slice_index_or m.forms p no_form)) = form_of_all files dir (numeric_sessions m.form) plan m.form.names m.forms m.parties p there in
    let stands = party_stands files dir (numeric_sessions m.form) plan p (slice_index_or m.form.names p []) (slice_index_or m.forms p no_form) s party (subst (λ (x : Plan). s < length x.sessions) (sym plan_is) within) (ap (λ ns. is_numeric ns s) (sym m.numeric) ∙ numeric) in
    let given : (slice_index_or m.forms p no_form).inputs ≡ slice_index_or whole.world.inputs p [] = sym (inputs_are plan m.forms p count) ∙ ap (λ (w : World). slice_index_or w.inputs p []) (sym m.is) in
    let of_words = subst (λ (xs : List (List ℕ)). StandFor plan.bits (given_widths (session plan s) p) (slice_index_or xs s []) (file_numbers files dir m.form.names p s)) given stands in
    let of_plan = subst (λ (x : Plan). StandFor x.bits (given_widths (session x s) p) (slice_index_or (slice_index_or whole.world.inputs p []) s []) (file_numbers files dir m.form.names p s)) plan_is of_words in
    number_is whole.world s i p widths (file_numbers files dir m.form.names p s) one low are of_plan l owner ∙ ap (λ names. slice_index (file_numbers files dir names p s) (given_among p (session whole.world.plan s).inputs i)) (sym m.names)
