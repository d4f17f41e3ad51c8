-- The job of accepted files is a whole world.
use Rattle.std.proofs.Common.{◌≡◌, ℕ, zero, suc, ◌+◌, ◌^◌, ◌<◌, ◌≤◌, Bool, true, false, if◌then◌else◌, List, [], ◌∷◌, ◌++◌, length, map, Option, None, Some, Result, Ok, Err, inl, inr, refl, sym, ap, ◌∙◌, subst, arith, append_assoc}
use Rattle.std.specs.Prelude.{All, slice_index, slice_index_or, nat_le, not}
use Rattle.std.specs.Option.{option_or}
use Rattle.std.specs.List.{AllByRecursion, concat}
use Rattle.std.proofs.lemmas.Bool.{cases_lt, leb-true}
use Rattle.std.proofs.lemmas.Nat.{pow_pos}
use Rattle.std.proofs.lemmas.List.{append-nil, get_or-map, get_or_past, get_or_append_left, get_or_push, length-append, length-map}
use Rattle.std.proofs.lemmas.List.Elements.{All-from_get_or, All-from_recursion, All-map, recursion_from_All}
use Rattle.toml.specs.Data.{Members as Fields}
use Rattle.list_laws.specs.Lists.{joined, total}
use Rattle.list_laws.proofs.JoinedLists.{length-joined, every_joined, every_at}
use Rattle.list_laws.proofs.Totals.{total_eq}
use Rattle.list_laws.proofs.FirstFaults.{or_fault-ok}
use Rattle.list_laws.specs.Checks.{first_fault}
use Rattle.party_set.specs.Parties.{Structure, Members, IsAntichain, IsQ2}
use Rattle.party_names.specs.Names.{AreNames}
use Rattle.circuit_model.specs.Netlists.{Netlist, IsCircuit}
use Rattle.circuit_file.specs.CircuitFiles.{circuit_in}
use Rattle.circuit_file.proofs.FileLaws.{file_grounded}
use Rattle.layer_order.specs.Orders.{ordered}
use Rattle.layer_order.proofs.SortedGates.{ordered_valid}
use Rattle.number_compiler.proofs.ValidCircuits.{compiled_right}
use Rattle.expr_circuit.proofs.ValidPrograms.{valid_program}
use Rattle.maximal_groups.specs.Families.{IsFamily, maximal_structure}
use Rattle.maximal_groups.proofs.FoundGroups.{antichain}
use Rattle.maximal_groups.proofs.Lists.{list_is_family}
use Rattle.group_formula.specs.Trees.{Meaning, IsSoundTree, is_tolerated}
use Rattle.group_formula.specs.Formulas.{IsFormula, reading}
use Rattle.group_formula.specs.Grammar.{shape}
use Rattle.group_formula.proofs.Meaning.{sound, parties_below}
use Rattle.group_formula.proofs.Monotonicity.{family_of}
use Rattle.plan_faults.specs.declared.part_fault.PartFault.{PartFault}
use Rattle.plan_faults.specs.Counts.{counts_fault}
use Rattle.session_slots.specs.Sessions.{Session, no_session, session_at}
use Rattle.session_slots.specs.declared.values.OutputValue.{OutputValue}
use Rattle.session_slots.specs.declared.values.Owner.{Owner}
use Rattle.session_slots.specs.Carries.{kept_from, CarriesFit, AllFit, keeping}
use Rattle.job_session.specs.Parts.{carries_fault, session_of, part_fault, output_values}
use Rattle.session_slots.specs.SoundSessions.{IsSoundSession, IsWired}
use Rattle.job_session.proofs.CarriedValues.{carries_fit}
use Rattle.job_session.proofs.CircuitSessions.{sound_session, sound_with, counts_agree}
use Rattle.plan_model.specs.Plans.{Plan, plan_of, words}
use Rattle.session_slots.proofs.KeptSessions.{are_kept, carries_earlier, keeping_at, keeping_fits, keeps_carried, length_keeping}
use Rattle.plan_model.specs.Sound.{IsSound}
use Rattle.job_plan.specs.Limits.{IsPlanWithin}
use Rattle.plan_model.specs.InputWords.{AreInputs, given}
use Rattle.plan_model.specs.Tallies.{tape_length}
use Rattle.job_file.specs.Forms.{JobForm, SessionForm, AdversaryForm, by_formula, by_list}
use Rattle.job_file.specs.Faults.{job_in}
use Rattle.job_file.specs.declared.layout.SessionLayout.{SessionLayout}
use Rattle.job_file.specs.declared.layout.SessionLayout.TheVariants.{Gates, Expressions, Numbers}
use Rattle.job_file.specs.Owners.{IsOwner}
use Rattle.job_file.specs.Products.{are_prepared, come_ahead}
use Rattle.job_laws.specs.Documents.{AreSessionForms, IsSessionForm, IsJobForm}
use Rattle.job_laws.proofs.ReadJobs.{good_job}
use Rattle.party_file.specs.Table.{PartyForm, party_in, party_in_fields, party_checks, party_given}
use Rattle.party_file.specs.Forms.{FitsPlan}
use Rattle.party_file.proofs.PlanFit.{party-fits}
use Rattle.toml_fields.specs.Documents.{document_of}
use Rattle.share_world.specs.Laws.{IsWhole}
use Rattle.job_run.specs.Parties.{world_of}
use Rattle.mpc_top.specs.WholeJobs.{WholeJob, whole_job, JobAt}
use Rattle.job_walk.specs.Verdict.{accepted, refused, Then, verdict_of, unless}
use Rattle.job_walk.proofs.CarriedValues.{fit_push, owners_among, owners_earlier}
use Rattle.job_walk.specs.JobOf.{has_layers, Contents, FormulaOf, few_groups, groups_of, GroupsOf, Q2Of, StructureOf, groups_in, numeric_sessions, owner_of, part_of, with_products, CircuitOf, ExpressionsOf, ProgramOf, SessionAt, SessionsAfter, PlanOf, Planned, PlannedOf, JobText, PlanAt, PartyAt, PartiesAfter}

-- ---- verdicts

not_false : (b : Bool) → not b ≡ false → b ≡ true
not_false true e = refl
not_false false e = cc

pub accepted_is : {A : Type 0} (a b : A) → accepted a ≡ accepted b → a ≡ b
accepted_is a b e = cc

pub was_ok : {A F : Type 0} (line : F → List ℕ) (r : Result A F) (a : A) → accepted a ≡ verdict_of line r → r ≡ Ok a
was_ok line (Ok b) a e = ap Ok (sym (accepted_is a b e))
was_ok line (Err f) a e = cc

pub was_none : {A F : Type 0} (fault : Option F) (line : F → List ℕ) (a b : A) → accepted a ≡ unless fault line b → (fault ≡ None) × (a ≡ b)
was_none None line a b e = (refl, accepted_is a b e)
was_none (Some f) line a b e = cc

-- ---- what the parties give

fits_fields : (numeric : List Bool) (plan : Plan) (p : ℕ) (form : PartyForm) (d : Option Fields) → party_in_fields numeric plan p d ≡ Ok form → FitsPlan plan p form
fits_fields numeric plan p form None e = cc
fits_fields numeric plan p form (Some fields) e =
    let both = or_fault-ok (first_fault (party_checks numeric plan p fields)) (party_given numeric plan p fields) form (sym e) in
    party-fits numeric plan p fields form both.0 both.1

fits_bytes : (numeric : List Bool) (plan : Plan) (p : ℕ) (bytes : List ℕ) (form : PartyForm) → party_in numeric plan p bytes ≡ Ok form → FitsPlan plan p form
unfolding party_in
fits_bytes numeric plan p bytes form e = fits_fields numeric plan p form (document_of bytes) e

pub party_fits : (files : Contents) (dir : List ℕ) (numeric : List Bool) (plan : Plan) (p : ℕ) (name : List ℕ) (form : PartyForm) → PartyAt files dir numeric plan p name (accepted form) → FitsPlan plan p form
unfolding PartyAt Then
party_fits files dir numeric plan p name form (bytes, there, e) = fits_bytes numeric plan p bytes form (was_ok _ (party_in numeric plan p bytes) form e)

abbrev pub no_form : PartyForm
no_form = record { inputs = []; tapes = [] }

-- each form fits the plan
abbrev pub Fitting : Plan → List PartyForm → Type 0
Fitting plan forms = (p : ℕ) → p < length forms → FitsPlan plan p (slice_index_or forms p no_form)

fitting_push : (plan : Plan) (forms : List PartyForm) (form : PartyForm) → Fitting plan forms → FitsPlan plan (length forms) form → Fitting plan (forms ++ form ∷ [])
fitting_push plan forms form each last p l = elim (cases_lt p (length forms)) [
  | inl before ↦ subst (FitsPlan plan p) (sym (get_or_append_left forms (form ∷ []) no_form p before)) (each p before)
  | inr past ↦
      let same : length forms ≡ p = omega (arith, l, past, length-append forms (form ∷ [])) in
      subst (FitsPlan plan p) (sym (get_or_push forms form no_form p same)) (subst (λ n. FitsPlan plan n form) same last)
]

parties_fit : (files : Contents) (dir : List ℕ) (numeric : List Bool) (plan : Plan) (before : List PartyForm) (names : List (List ℕ)) (forms : List PartyForm) → Fitting plan before
    → PartiesAfter files dir numeric plan before names (accepted forms) → Fitting plan forms × (length forms ≡ length before + length names)
unfolding PartiesAfter Then
parties_fit files dir numeric plan before [] forms each e =
    let same : forms ≡ before = accepted_is forms before e in
    (subst (Fitting plan) (sym same) each, ap length same ∙ omega arith)
parties_fit files dir numeric plan before (name ∷ more) forms each (party, at, rest) =
    let next = parties_fit files dir numeric plan (before ++ party ∷ []) more forms (fitting_push plan before party each (party_fits files dir numeric plan (length before) name party at)) rest in
    (next.0, omega (arith, next.1, length-append before (party ∷ [])))

-- ---- their world

joined-front : {A : Type 0} (n : ℕ) (f : ℕ → List A) → joined (suc n) f ≡ f 0 ++ joined n (λ i. f (suc i))
joined-front zero f = sym (append-nil (f 0))
joined-front (suc n) f = ap (λ z. z ++ f (suc n)) (joined-front n f) ∙ append_assoc (f 0) (joined n (λ i. f (suc i))) (f (suc n))

joined-concat : (parts : List (List ℕ)) → joined (length parts) (λ s. slice_index_or parts s []) ≡ concat parts
joined-concat [] = refl
joined-concat (x ∷ xs) = joined-front (length xs) (λ s. slice_index_or (x ∷ xs) s []) ∙ ap (λ z. x ++ z) (joined-concat xs)

module _ (plan : Plan) (forms : List PartyForm) (count : length forms ≡ plan.parties) (each : Fitting plan forms) where
  abbrev form : ℕ → PartyForm
  form p = slice_index_or forms p no_form

  abbrev inputs : List (List (List ℕ))
  inputs = map (λ party. party.inputs) forms

  abbrev tapes : List (List ℕ)
  tapes = map (λ party. concat party.tapes) forms

  many_inputs : length inputs ≡ plan.parties
  many_inputs = length-map forms (λ party. party.inputs) ∙ count

  many_tapes : length tapes ≡ plan.parties
  many_tapes = length-map forms (λ party. concat party.tapes) ∙ count

  fits : (p : ℕ) → p < plan.parties → FitsPlan plan p (form p)
  fits p l = each p (omega (arith, l, count))

  inputs_at : (p : ℕ) → p < plan.parties → slice_index_or inputs p [] ≡ (form p).inputs
  inputs_at p l = get_or-map (λ (party : PartyForm). party.inputs) forms p no_form [] (omega (arith, count, l))

  tape_at : (p : ℕ) → p < plan.parties → slice_index_or tapes p [] ≡ joined (length (form p).tapes) (λ s. slice_index_or (form p).tapes s [])
  tape_at p l = get_or-map (λ (party : PartyForm). concat party.tapes) forms p no_form [] (omega (arith, count, l)) ∙ sym (joined-concat (form p).tapes)

  below : (p s k : ℕ) → slice_index (given inputs p s) k < 2 ^ plan.bits
  below p s k = elim (cases_lt p plan.parties) [
    | inl l ↦ subst (λ given. slice_index (slice_index_or given s []) k < 2 ^ plan.bits) (sym (inputs_at p l)) ((fits p l).below s k)
    | inr past ↦ subst (λ given. slice_index (slice_index_or given s []) k < 2 ^ plan.bits) (sym (get_or_past inputs p [] (omega (arith, past, many_inputs)))) (pow_pos plan.bits)
  ]

  are_inputs : AreInputs plan inputs
  are_inputs = record {
    parties = many_inputs;
    sessions = λ p l. ap length (inputs_at p l) ∙ (fits p l).sessions;
    counts = λ p s l ls. ap (λ given. length (slice_index_or given s [])) (inputs_at p l) ∙ (fits p l).counts s ls;
    below = below;
  }

  tape_long : (p : ℕ) → p < plan.parties → length (slice_index_or tapes p []) ≡ tape_length plan p
  tape_long p l =
      ap length (tape_at p l) ∙ length-joined (length (form p).tapes) (λ s. slice_index_or (form p).tapes s [])
      ∙ ap (λ n. total n (λ s. length (slice_index_or (form p).tapes s []))) (fits p l).tapes
      ∙ total_eq (length plan.sessions) (λ s. length (slice_index_or (form p).tapes s [])) (words plan p) (λ s ls. (fits p l).lengths s ls)

  small : (p i : ℕ) → slice_index (slice_index_or tapes p []) i < 2 ^ plan.bits
  small p i = elim (cases_lt p plan.parties) [
    | inl l ↦ every_at (λ word. word < 2 ^ plan.bits) (slice_index_or tapes p []) i (pow_pos plan.bits)
        (subst (AllByRecursion (λ word. word < 2 ^ plan.bits)) (sym (tape_at p l))
        (every_joined (λ word. word < 2 ^ plan.bits) (length (form p).tapes) (λ s. slice_index_or (form p).tapes s []) (λ s ls. recursion_from_All (λ word. word < 2 ^ plan.bits) _ ((fits p l).drawn s))))
    | inr past ↦ subst (λ (tape : List ℕ). slice_index tape i < 2 ^ plan.bits) (sym (get_or_past tapes p [] (omega (arith, past, many_tapes)))) (pow_pos plan.bits)
  ]

  pub whole_world : IsSound plan → IsWhole (world_of plan forms)
  whole_world sound = record { sound = sound; inputs = are_inputs; tapes = record { parties = many_tapes; lengths = tape_long; below = small } }

pub parties_make_whole : (files : Contents) (dir : List ℕ) (numeric : List Bool) (plan : Plan) (names : List (List ℕ)) (forms : List PartyForm) → IsSound plan → length names ≡ plan.parties
    → PartiesAfter files dir numeric plan [] names (accepted forms) → IsWhole (world_of plan forms)
parties_make_whole files dir numeric plan names forms sound named is =
    let fit = parties_fit files dir numeric plan [] names forms (λ p l. absurd (omega (arith, l))) is in
    whole_world plan forms (omega (arith, fit.1, named)) fit.0 sound

-- ---- the structure

pub few_are : (s : Structure) (b : Bool) (found : Structure) (status : ℕ) (line : List ℕ) → nat_le (length s.groups) 64 ≡ b → accepted found ≡ (if b then accepted s else refused status line) → (found ≡ s) × (length s.groups ≤ 64)
few_are s true found status line is e = (accepted_is found s e, leb-true (length s.groups) 64 is)
few_are s false found status line is e = cc

groups_are : (n : ℕ) (t : ℕ → Bool) (s : Structure) → 1 ≤ n → n ≤ 12 → t 0 ≡ true → accepted s ≡ groups_of n t → IsAntichain s × (s.parties ≡ n)
unfolding groups_of few_groups
groups_are n t s some few nobody e =
    let found = few_are (maximal_structure n t) (nat_le (length (maximal_structure n t).groups) 64) s _ _ refl e in
    (subst IsAntichain (sym found.0) (antichain n t some few nobody found.1), ap (λ (s : Structure). s.parties) found.0)

pub formula_family : (text : List ℕ) (names : List (List ℕ)) (f : Meaning) → IsFormula text names f → IsFamily f.parties (is_tolerated f)
formula_family text names f is =
    let tree : IsSoundTree (length names) f.tree =
    subst (IsSoundTree (length names)) (sym is.tree) (sound (reading text names) (length names) (parties_below text names) (shape is.expr) is.good) in
    family_of f (subst (λ n. IsSoundTree n f.tree) (sym is.parties) tree)

adversary_groups : (names : List (List ℕ)) (adversary : AdversaryForm) (s : Structure) → 1 ≤ length names → length names ≤ 12 → GroupsOf names adversary (accepted s)
    → IsAntichain s × (s.parties ≡ length names)
unfolding GroupsOf FormulaOf Then
adversary_groups names (by_formula text) s some few (f, is, e) =
    let found = groups_are f.parties (is_tolerated f) s (omega (arith, some, is.parties)) (omega (arith, few, is.parties)) (formula_family text names f is).nobody e in
    (found.0, found.1 ∙ is.parties)
adversary_groups names (by_list masks) s some few e = groups_are (length names) _ s some few (list_is_family (length names) masks).nobody e

-- what a structure is that was accepted
pub record IsFound (names : List (List ℕ)) (s : Structure) : Type 0 where
  pub antichain : IsAntichain s
  pub q2 : IsQ2 s
  pub parties : s.parties ≡ length names

pub structure_found : (job : JobForm) (s : Structure) → 1 ≤ length job.names → length job.names ≤ 12 → StructureOf job (accepted s) → IsFound job.names s
unfolding StructureOf Q2Of Then
structure_found job s some few (groups, is, (same, q2)) =
    let found = adversary_groups job.names job.adversary groups some few is in
    record {
      antichain = subst IsAntichain (sym same) found.0;
      q2 = subst IsQ2 (sym same) q2;
      parties = ap (λ (s : Structure). s.parties) same ∙ found.1;
    }

-- ---- the sessions

outputs_within : (n : ℕ) (ws : List ℕ) (masks : List ℕ) → AllByRecursion (λ mask. mask < 2 ^ n) masks
    → AllByRecursion (λ (value : OutputValue). value.readers.mask < 2 ^ value.readers.parties) (output_values ws (groups_in n masks))
outputs_within n [] masks h = tt
outputs_within n (w ∷ ws) [] h = tt
outputs_within n (w ∷ ws) (mask ∷ masks) h = (h.0, outputs_within n ws masks h.1)

-- neither of two faults is there
pub neither : (a b : Option PartFault) → option_or a b ≡ None → (a ≡ None) × (b ≡ None)
neither None b e = (refl, e)
neither (Some f) b e = cc

-- a session that is made behind those before it is sound, and what it carries fits them
part_fits : (n : ℕ) (adversary : AdversaryForm) (line : PartFault → List ℕ) (c : Netlist) (before : List Session) (form : SessionForm) (s : Session) → IsCircuit c → IsSessionForm n adversary (length before) form
    → accepted s ≡ part_of line c form.products form.owners (groups_in n form.readers) before → IsSoundSession n s × CarriesFit before s
part_fits n adversary line c before form s valid named e =
    let groups : List Members = groups_in n form.readers in
    let owners : List Owner = map owner_of form.owners in
    let made = was_none (part_fault c owners groups before) line s (with_products form.products (session_of c owners groups)) e in
    let faults = neither (counts_fault (length c.inputs) (length owners) (length c.outputs) (length groups)) (carries_fault before c.inputs owners) made.0 in
    let counts = counts_agree (length c.inputs) (length owners) (length c.outputs) (length groups) faults.0 in
    let all : All (IsOwner n (length before)) form.owners = All-from_recursion (IsOwner n (length before)) form.owners named.owners in
    let read : All (λ (group : Members). group.parties ≡ n) groups = All-map (λ (group : Members). group.parties ≡ n) (λ mask. record { parties = n; mask = mask }) form.readers (λ k d l. refl) in (
      subst (IsSoundSession n) (sym made.1)
          (sound_with n (session_of c owners groups) (are_prepared form.products) (come_ahead form.products) []
          (sound_session c owners groups n valid counts.0 counts.1 (owners_among n (length before) form.owners groups all read)
          (All-from_recursion (λ (value : OutputValue). value.readers.mask < 2 ^ value.readers.parties) (output_values c.outputs groups)
          (outputs_within n c.outputs form.readers named.readers)))
          (record { outputs = λ k d l. absurd (omega (arith, l)); few = omega arith })),
      carries_fit before s c.inputs owners (ap (λ (s : Session). s.inputs) made.1) (owners_earlier n (length before) form.owners all) faults.1,
    )

pub circuit_is_valid : (layout : SessionLayout) (file : List ℕ) (s bits : ℕ) (bytes : List ℕ) (c : Netlist) → 0 < bits → bits ≤ 64 → CircuitOf layout file s bits bytes (accepted c) → IsCircuit c
unfolding CircuitOf ExpressionsOf ProgramOf Then
circuit_is_valid (Gates layout) file s bits bytes c some few read = (file_grounded layout bits bytes c some few (was_ok _ (circuit_in layout bits bytes) c read)).valid
circuit_is_valid Expressions file s bits bytes c some few read = subst IsCircuit (sym read.made) (valid_program bits bytes read.program read.is some few)
circuit_is_valid Numbers file s bits bytes c some few (passed, alone, read) = subst IsCircuit (sym read.made) (compiled_right read.program read.is.small).valid

module _ (files : Contents) (dir : List ℕ) (job : JobForm) (some : 0 < job.bits) (few : job.bits ≤ 64) where
  session_fits : (before : List Session) (form : SessionForm) (x : Session) → IsSessionForm (length job.names) job.adversary (length before) form → SessionAt files dir job before form (accepted x)
      → IsSoundSession (length job.names) x × CarriesFit before x
  unfolding SessionAt Then
  session_fits before at x named (bytes, there, (c, read, e)) =
      part_fits (length job.names) job.adversary _ (ordered (has_layers at) c) before at x
      (ordered_valid (has_layers at) c (circuit_is_valid at.layout at.circuit (length before) job.bits bytes c some few read)) named e

  -- each session is sound
  abbrev AreSound : List Session → Type 0
  AreSound sessions = (s : ℕ) → s < length sessions → IsSoundSession (length job.names) (slice_index_or sessions s no_session)

  sound_push : (sessions : List Session) (x : Session) → AreSound sessions → IsSoundSession (length job.names) x → AreSound (sessions ++ x ∷ [])
  sound_push sessions x each last s l = elim (cases_lt s (length sessions)) [
    | inl before ↦ subst (IsSoundSession (length job.names)) (sym (get_or_append_left sessions (x ∷ []) no_session s before)) (each s before)
    | inr past ↦
        let same : length sessions ≡ s = omega (arith, l, past, length-append sessions (x ∷ [])) in
        subst (IsSoundSession (length job.names)) (sym (get_or_push sessions x no_session s same)) last
  ]

  -- sessions that were read are sound, and what each carries fits those before it
  sessions_fit : (before : List Session) (number : ℕ) (forms : List SessionForm) (sessions : List Session) → number ≡ length before → AreSound before → AllFit before
      → AreSessionForms (length job.names) job.adversary number forms → SessionsAfter files dir job before forms (accepted sessions)
      → AreSound sessions × AllFit sessions
  unfolding SessionsAfter Then
  sessions_fit before number [] sessions count each fit named e =
      let same : sessions ≡ before = accepted_is sessions before e in
      (subst AreSound (sym same) each, subst AllFit (sym same) fit)
  sessions_fit before number (form ∷ forms) sessions count each fit named (x, at, rest) =
      let one = session_fits before form x (subst (λ n. IsSessionForm (length job.names) job.adversary n form) count named.0) at in
      sessions_fit (before ++ x ∷ []) (number + 1) forms sessions (omega (arith, count, length-append before (x ∷ []))) (sound_push before x each one.0) (fit_push before x fit one.1) named.1 rest

-- as many sessions are read as there are forms
pub sessions_count : (files : Contents) (dir : List ℕ) (job : JobForm) (before : List Session) (forms : List SessionForm) (sessions : List Session) → SessionsAfter files dir job before forms (accepted sessions)
    → length sessions ≡ length before + length forms
unfolding SessionsAfter Then
sessions_count files dir job before [] sessions e = ap length (accepted_is sessions before e) ∙ omega arith
sessions_count files dir job before (form ∷ forms) sessions (x, at, rest) = omega (arith, sessions_count files dir job (before ++ x ∷ []) forms sessions rest, length-append before (x ∷ []))

-- sessions stay sound where they keep what later ones carry
keeping_sound : (parties : ℕ) (sessions : List Session) → length sessions ≤ 16 → AllFit sessions → ((s : ℕ) → s < length sessions → IsSoundSession parties (session_at sessions s))
    → (s : ℕ) → s < length (keeping sessions) → IsSoundSession parties (session_at (keeping sessions) s)
keeping_sound parties sessions few fit sound s l =
    let l' : s < length sessions = omega (arith, l, length_keeping sessions) in
    let wired : All IsWired sessions = All-from_get_or IsWired sessions no_session (λ i li. (sound i li).wired) in
    subst (IsSoundSession parties) (sym (keeping_at sessions s l'))
    (sound_with parties (session_at sessions s) (session_at sessions s).prepared (session_at sessions s).ahead (kept_from s sessions) (sound s l') (are_kept sessions fit s few wired))

-- ---- the plan, and the job

pub plan_is_sound : {node : Bool} (files : Contents) (dir : List ℕ) (job : JobForm) (s : Structure) (sessions : List Session) → IsJobForm node job → IsFound job.names s
    → SessionsAfter files dir job [] job.sessions (accepted sessions) → IsPlanWithin (plan_of job.bits s (keeping sessions)) → IsSound (plan_of job.bits s (keeping sessions))
plan_is_sound files dir job s sessions good found read limits =
    let each = sessions_fit files dir job good.some_bits good.few_bits [] 0 job.sessions sessions refl (λ s l. absurd (omega (arith, l))) (λ s l. absurd (omega (arith, l))) good.sessions read in
    let few : length sessions ≤ 16 = omega (arith, sessions_count files dir job [] job.sessions sessions read, good.few_sessions) in
    record {
      some_bits = good.some_bits;
      bits = good.few_bits;
      some_parties = found.antichain.some_party;
      parties = found.antichain.few_parties;
      some_groups = found.antichain.some_group;
      groups = found.antichain.few_groups;
      q2 = found.q2;
      few_sessions = omega (arith, length_keeping sessions, few);
      few_messages = limits.messages;
      few_words = limits.words;
      sessions = λ i l. subst (λ n. IsSoundSession n (session_at (keeping sessions) i)) (sym found.parties) (keeping_sound (length job.names) sessions few each.1 each.0 i l);
      earlier = carries_earlier (keeping sessions) (keeping_fits sessions each.1);
      kept = keeps_carried sessions each.1;
    }

sound_plan : {node : Bool} (files : Contents) (dir : List ℕ) (job : JobForm) (group : Option Members) (s : Structure) (planned : Planned) → IsJobForm node job → IsFound job.names s
    → PlannedOf files dir job group s (accepted planned) → IsSound planned.plan × (length planned.names ≡ planned.plan.parties)
unfolding PlannedOf PlanOf Then
sound_plan files dir job group s planned good found (sessions, read, (plan, (same, within), e)) =
    let is : planned ≡ record { names = job.names; group = group; plan = plan_of job.bits s (keeping sessions); numeric = numeric_sessions job } =
    accepted_is planned _ e ∙ ap (λ (plan : Plan). record { names = job.names; group = group; plan = plan; numeric = numeric_sessions job }) same in
    let limits : IsPlanWithin (plan_of job.bits s (keeping sessions)) = within in
    subst (λ (planned : Planned). IsSound planned.plan × (length planned.names ≡ planned.plan.parties)) (sym is)
    (plan_is_sound files dir job s sessions good found read limits, sym found.parties)

plan_at_sound : (files : Contents) (dir : List ℕ) (asked : Option (List ℕ)) (planned : Planned) → PlanAt files dir asked (accepted planned) → IsSound planned.plan × (length planned.names ≡ planned.plan.parties)
unfolding PlanAt JobText Then
plan_at_sound files dir asked planned (job, (bytes, there, e), (group, g, (s, found, is))) =
    let good : IsJobForm false job = good_job false bytes job (was_ok _ (job_in false bytes) job e) in
    sound_plan files dir job group s planned good (structure_found job s good.names.some good.names.few found) is

pub jobs_are_whole : (files : Contents) (dir : List ℕ) (asked : Option (List ℕ)) (job : WholeJob) → JobAt files dir asked (accepted job) → IsWhole job.world
unfolding JobAt Then
jobs_are_whole files dir asked job (planned, is, (forms, read, e)) =
    let sound = plan_at_sound files dir asked planned is in
    subst (λ (job : WholeJob). IsWhole job.world) (sym (accepted_is job (whole_job planned forms) e))
    (parties_make_whole files dir planned.numeric planned.plan planned.names forms sound.0 sound.1 read)

-- ---- its names

planned_names : (files : Contents) (dir : List ℕ) (job : JobForm) (group : Option Members) (s : Structure) (planned : Planned) → PlannedOf files dir job group s (accepted planned) → planned.names ≡ job.names
unfolding PlannedOf PlanOf Then
planned_names files dir job group s planned (sessions, read, (plan, within, e)) = ap (λ (p : Planned). p.names) (accepted_is planned _ e)

plan_named : (files : Contents) (dir : List ℕ) (asked : Option (List ℕ)) (planned : Planned) → PlanAt files dir asked (accepted planned) → AreNames planned.names
unfolding PlanAt JobText Then
plan_named files dir asked planned (job, (bytes, there, e), (group, g, (s, found, is))) =
    let good : IsJobForm false job = good_job false bytes job (was_ok _ (job_in false bytes) job e) in
    subst AreNames (sym (planned_names files dir job group s planned is)) good.names

-- an accepted job has a name for each party
pub jobs_are_named : (files : Contents) (dir : List ℕ) (asked : Option (List ℕ)) (job : WholeJob) → JobAt files dir asked (accepted job) → AreNames job.names × (length job.names ≡ job.world.plan.parties)
unfolding JobAt Then
jobs_are_named files dir asked job (planned, is, (forms, read, e)) =
    subst (λ (job : WholeJob). AreNames job.names × (length job.names ≡ job.world.plan.parties)) (sym (accepted_is job (whole_job planned forms) e))
    (plan_named files dir asked planned is, (plan_at_sound files dir asked planned is).1)
