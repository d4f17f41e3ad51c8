-- The circuit of a session's file, and what the session makes of it.
use Rattle.std.proofs.Common.{◌≡◌, ℕ, zero, suc, ◌+◌, ◌-◌, ◌<◌, ◌≤◌, Bool, true, false, cond, List, [], ◌∷◌, ◌++◌, length, map, Option, None, Some, refl, sym, ap, ◌∙◌, subst, arith}
use Rattle.std.specs.Prelude.{slice_index, slice_index_or, slice_get, ◌==◌, not, nat_eq, pos}
use Rattle.std.proofs.lemmas.Bool.{eqb-true}
use Rattle.std.proofs.lemmas.Option.{slice_get_within}
use Rattle.std.proofs.lemmas.List.{get_or_append_left, get_or_push, length-append}
use Rattle.list_laws.specs.Lists.{total}
use Rattle.list_laws.specs.Checks.{◌answers◌}
use Rattle.list_laws.proofs.Totals.{total_eq}
use Rattle.party_set.specs.Parties.{Members, Structure}
use Rattle.circuit_model.specs.Netlists.{Netlist, IsCircuit, output_wires, plain as value}
use Rattle.circuit_model.proofs.SetWires.{funext}
use Rattle.circuit_model.specs.declared.fault.CircuitFault.TheVariants.{WrongRing}
use Rattle.circuit_file.specs.CircuitFiles.{circuit_in}
use Rattle.circuit_file.proofs.FileLaws.{file_grounded}
use Rattle.expr_circuit.specs.Circuits.{netlist}
use Rattle.number_compiler.specs.Circuits.{netlist as netlist_of_numbers}
use Rattle.layer_order.specs.Orders.{ordered}
use Rattle.layer_order.proofs.SortedGates.{ordered_computes, ordered_leaves}
use Rattle.layer_laws.specs.Layers.{HasLayersOf}
use Rattle.layer_laws.proofs.SortedSessions.{sorted_ahead_few, sorted_few, sorted_prepared_few}
use Rattle.refusal_text.specs.Lines.{circuit_line, too_long_line}
use Rattle.session_slots.specs.Sessions.{Session, no_session, readers, output_wire}
use Rattle.session_slots.specs.SoundSessions.{IsWired}
use Rattle.session_slots.specs.declared.values.KeptWire.{KeptWire}
use Rattle.session_slots.specs.declared.values.InputValue.{InputValue}
use Rattle.session_slots.specs.declared.values.Owner.{Owner}
use Rattle.session_slots.specs.Carries.{kept_from, keeping}
use Rattle.session_slots.proofs.KeptSessions.{keeping_at, length_keeping}
use Rattle.job_session.specs.Parts.{carries_fault, input_values, part_fault, output_values}
use Rattle.job_session.proofs.ValueCounts.{readers_long}
use Rattle.job_session.proofs.CircuitSessions.{counts_agree}
use Rattle.plan_model.specs.Plans as plans
use Rattle.plan_model.specs.Plans.{CarriesEarlier, Plan, plan_of, session}
use Rattle.plan_model.specs.Sound.{IsSound}
use Rattle.plan_faults.specs.Counts.{counts_fault}
use Rattle.share_world.specs.Made.{made_of}
use Rattle.share_world.specs.Worlds.{World, first_values, plain}
use Rattle.share_world.proofs.MadeSessions.{made_has_values}
use Rattle.value_words.specs.Turned.{is_numeric, shown_words}
use Rattle.output_text.specs.OutText.{wire_word}
use Rattle.view_text.specs.OutLines.{no_output, output_value, wires_before}
use Rattle.job_file.specs.Forms.{JobForm, SessionForm}
use Rattle.job_file.specs.Faults.{job_in}
use Rattle.job_file.specs.Products.{are_prepared, come_ahead}
use Rattle.job_file.specs.declared.layout.SessionLayout.{SessionLayout}
use Rattle.job_file.specs.declared.layout.SessionLayout.TheVariants.{Gates, Expressions, Numbers}
use Rattle.job_walk.specs.Names as file_names
use Rattle.job_walk.specs.Verdict.{accepted, missing, refused, Then}
use Rattle.job_walk.specs.JobOf.{Contents, bytes_of, file_at, groups_in, has_layers, has_numbers, numeric_sessions, owner_of, CircuitOf, ExpressionsOf, ProgramOf, SessionAt, SessionsAfter, PlanOf, Planned, PlannedOf, JobText, PlanAt}
use Rattle.job_walk.specs.NodeOf.{NodeForm}
use Rattle.mpc_top.specs.WholeJobs.{WholeJob, whole_job, JobAt}
use Rattle.mpc_top.proofs.WholeWorlds.{accepted_is, circuit_is_valid, jobs_are_whole, neither, sessions_count, was_ok, was_none}
use Rattle.job_laws.specs.Documents.{IsJobForm}
use Rattle.job_laws.proofs.ReadJobs.{good_job}
use Rattle.walk_laws.specs.FileCircuits.{IsCircuitIn, HasCircuit, output_word, ComputesCircuit, RunsComputeCircuits, TakesFewBatches, LayersTakeFewBatches, NodesTakeFewBatches}
use Rattle.walk_laws.proofs.Jobs.{text_once}
use Rattle.walk_laws.proofs.NodeWorlds.{IsNode, node_read, nodes_are_parts}

-- ---- the session of a file

some_bytes : (fits : Bool) (line bytes found : List ℕ) → cond fits (accepted found) (refused 3 line) ≡ accepted bytes → found ≡ bytes
some_bytes true line bytes found e = cc
some_bytes false line bytes found e = absurd (cc)

-- bytes that were read stand there
pub bytes_there : (found : Option (List ℕ)) (name bytes : List ℕ) → bytes_of found name ≡ accepted bytes → found ≡ Some bytes
unfolding bytes_of
bytes_there None name bytes e = absurd (let no : missing name ≡ accepted bytes = e in cc)
bytes_there (Some found) name bytes e = let same : found ≡ bytes = some_bytes _ (too_long_line name) bytes found e in cc

module _ (files : Contents) (dir : List ℕ) (job : JobForm) where
  -- the sessions that were read stay
  sessions_stay : (before : List Session) (forms : List SessionForm) (sessions : List Session) → SessionsAfter files dir job before forms (accepted sessions)
      → (i : ℕ) → i < length before → slice_index_or sessions i no_session ≡ slice_index_or before i no_session
  unfolding SessionsAfter Then
  sessions_stay before [] sessions e i l = ap (λ xs. slice_index_or xs i no_session) (accepted_is sessions before e)
  sessions_stay before (form ∷ forms) sessions (x, at, rest) i l =
      sessions_stay (before ++ x ∷ []) forms sessions rest i (omega (arith, l, length-append before (x ∷ []))) ∙ get_or_append_left before (x ∷ []) no_session i l

  -- session s is that of its form, behind some sessions
  abbrev IsAt : List Session → ℕ → SessionForm → Type 0
  IsAt sessions s form = (earlier : List Session) × SessionAt files dir job earlier form (accepted (slice_index_or sessions s no_session))

  -- each session is that of its form
  session_is : (before : List Session) (forms : List SessionForm) (sessions : List Session) → SessionsAfter files dir job before forms (accepted sessions)
      → (i : ℕ) (form : SessionForm) → slice_get forms i ≡ Some form → IsAt sessions (length before + i) form
  unfolding SessionsAfter Then
  session_is before [] sessions e i form there = cc
  session_is before (first ∷ forms) sessions (x, at, rest) zero form there =
      let here : length before ≡ length before + 0 = omega arith in
      let same : first ≡ form = cc in
      let kept : x ≡ slice_index_or sessions (length before) no_session =
      sym (sessions_stay (before ++ x ∷ []) forms sessions rest (length before) (omega (arith, length-append before (x ∷ []))) ∙ get_or_push before x no_session (length before) refl) in
      subst (λ n. IsAt sessions n form) here
      (before, subst (λ (y : Session). SessionAt files dir job before form (accepted y)) kept (subst (λ (f : SessionForm). SessionAt files dir job before f (accepted x)) same at))
  session_is before (first ∷ forms) sessions (x, at, rest) (suc i) form there =
      let next : length (before ++ x ∷ []) + i ≡ length before + suc i = omega (arith, length-append before (x ∷ [])) in
      subst (λ n. IsAt sessions n form) next (session_is (before ++ x ∷ []) forms sessions rest i form there)

  -- each session of a job
  session_at : (sessions : List Session) → SessionsAfter files dir job [] job.sessions (accepted sessions) → (s : ℕ) (form : SessionForm) → slice_get job.sessions s ≡ Some form → IsAt sessions s form
  session_at sessions read s form there =
      let from_none : length {A = Session} [] + s ≡ s = omega arith in
      subst (λ n. IsAt sessions n form) from_none (session_is [] job.sessions sessions read s form there)

-- ---- the circuit of a session

-- a ring that passed has words of one bit
one_bit : (bits : ℕ) → (not (bits == 1) answers WrongRing (pos bits)) ≡ None → bits ≡ 1
one_bit bits e = eqb-true bits 1 (either (nat_eq bits 1) e)
  where
    either : (b : Bool) → (not b answers WrongRing (pos bits)) ≡ None → b ≡ true
    either true e = refl
    either false e = cc

circuit_told : (layout : SessionLayout) (file : List ℕ) (s bits : ℕ) (bytes : List ℕ) (c : Netlist) → CircuitOf layout file s bits bytes (accepted c) → IsCircuitIn layout bits bytes c
unfolding CircuitOf ExpressionsOf ProgramOf Then
circuit_told (Gates layout) file s bits bytes c read = was_ok _ (circuit_in layout bits bytes) c read
circuit_told Expressions file s bits bytes c read = read
circuit_told Numbers file s bits bytes c (passed, alone, read) = (one_bit bits (was_none _ (circuit_line file s) passed tt alone).0, read)

-- its words are of the job's bits
circuit_has_bits : (layout : SessionLayout) (bits : ℕ) (bytes : List ℕ) (c : Netlist) → 0 < bits → bits ≤ 64 → IsCircuitIn layout bits bytes c → c.bits ≡ bits
unfolding netlist netlist_of_numbers
circuit_has_bits (Gates layout) bits bytes c some few is = (file_grounded layout bits bytes c some few is).words
circuit_has_bits Expressions bits bytes c some few is = ap (λ (c : Netlist). c.bits) is.made
circuit_has_bits Numbers bits bytes c some few (one, is) = ap (λ (c : Netlist). c.bits) is.made ∙ sym one

-- what the session of a form is
pub record IsOfCircuit (files : Contents) (dir : List ℕ) (job : JobForm) (form : SessionForm) (x : Session) : Type 0 where
  pub circuit : Netlist
  pub has : HasCircuit files dir job.bits form circuit
  pub valid : IsCircuit circuit
  pub bits : circuit.bits ≡ job.bits
  pub owned : length (map owner_of form.owners) ≡ length circuit.inputs
  pub read : length (groups_in (length job.names) form.readers) ≡ length circuit.outputs
  pub made : x ≡ made_of (ordered (has_layers form) circuit) (map owner_of form.owners) (groups_in (length job.names) form.readers) (are_prepared form.products) (come_ahead form.products) []

of_circuit : (files : Contents) (dir : List ℕ) (job : JobForm) (before : List Session) (form : SessionForm) (x : Session) → 0 < job.bits → job.bits ≤ 64 → SessionAt files dir job before form (accepted x) → IsOfCircuit files dir job form x
unfolding SessionAt Then file_at
of_circuit files dir job before form x some few (bytes, there, (c, told, e)) =
    let owners : List Owner = map owner_of form.owners in
    let groups : List Members = groups_in (length job.names) form.readers in
    let sorted : Netlist = ordered (has_layers form) c in
    let found = was_none (part_fault sorted owners groups before) _ x (made_of sorted owners groups (are_prepared form.products) (come_ahead form.products) []) e in
    let faults = neither (counts_fault (length sorted.inputs) (length owners) (length sorted.outputs) (length groups)) (carries_fault before sorted.inputs owners) found.0 in
    let counts = counts_agree (length sorted.inputs) (length owners) (length sorted.outputs) (length groups) faults.0 in
    let left = ordered_leaves (has_layers form) c in
    record {
      circuit = c;
      has = record { text = bytes; file = bytes_there (files (file_names.path_of dir form.circuit)) form.circuit bytes (sym there); is = circuit_told form.layout form.circuit (length before) job.bits bytes c told };
      valid = circuit_is_valid form.layout form.circuit (length before) job.bits bytes c some few told;
      bits = circuit_has_bits form.layout job.bits bytes c some few (circuit_told form.layout form.circuit (length before) job.bits bytes c told);
      owned = counts.0 ∙ ap length left.2;
      read = counts.1 ∙ ap length left.3;
      made = found.1;
    }

-- what is told of each form
numeric_at : (forms : List SessionForm) (s : ℕ) (form : SessionForm) → slice_get forms s ≡ Some form → is_numeric (map has_numbers forms) s ≡ has_numbers form
numeric_at [] s form there = cc
numeric_at (first ∷ forms) zero form there = (let same : first ≡ form = cc in ap has_numbers same)
numeric_at (first ∷ forms) (suc s) form there = numeric_at forms s form there

-- ---- its output values

width_is : (ws : List ℕ) (gs : List Members) (v : ℕ) → length gs ≡ length ws → (slice_index_or (output_values ws gs) v no_output).width ≡ slice_index ws v
width_is [] gs v e = refl
width_is (w ∷ ws) [] v e = absurd (omega (arith, e))
width_is (w ∷ ws) (g ∷ gs) zero e = refl
width_is (w ∷ ws) (g ∷ gs) (suc v) e = width_is ws gs v (omega (arith, e))

input_widths_are : (ws : List ℕ) (ps : List Owner) → length ps ≡ length ws → map (λ (value : InputValue). value.width) (input_values ws ps) ≡ ws
input_widths_are [] ps e = refl
input_widths_are (w ∷ ws) [] e = absurd (omega (arith, e))
input_widths_are (w ∷ ws) (p ∷ ps) e = ap (λ more. w ∷ more) (input_widths_are ws ps (omega (arith, e)))

many_values : (ws : List ℕ) (gs : List Members) → length gs ≡ length ws → length (output_values ws gs) ≡ length ws
many_values [] gs e = refl
many_values (w ∷ ws) [] e = absurd (omega (arith, e))
many_values (w ∷ ws) (g ∷ gs) e = ap suc (many_values ws gs (omega (arith, e)))

-- a session that is made of a circuit, its gates in layers or not, computes it
module _ (numeric : List Bool) (w : World) (s : ℕ) (c : Netlist) (layers : Bool) (given : List Owner) (read : List Members) (prepared ahead : Bool) (kept : List KeptWire) (earlier : CarriesEarlier w.plan) (valid : IsCircuit c)
    (is : session w.plan s ≡ made_of (ordered layers c) given read prepared ahead kept) (bits : w.plan.bits ≡ c.bits) (owned : length given ≡ length c.inputs) (many : length read ≡ length c.outputs) where
  abbrev made : Session
  made = made_of (ordered layers c) given read prepared ahead kept

  -- the values of the input wires
  abbrev first : ℕ → ℕ
  first = first_values w (plain w) s

  plain_is : (v : ℕ) → plain w s v ≡ value c first v
  plain_is v =
      let left = ordered_leaves layers c in
      made_has_values w s earlier (ordered layers c) given read prepared ahead kept is (bits ∙ sym left.0) (owned ∙ ap length (sym left.2)) v ∙ ordered_computes layers c first v valid

  outputs_are : (session w.plan s).outputs ≡ output_values c.outputs read
  outputs_are = ap (λ (x : Session). x.outputs) is ∙ ap (λ ws. output_values ws read) (ordered_leaves layers c).3

  inputs_are : map (λ (value : InputValue). value.width) (session w.plan s).inputs ≡ c.inputs
  inputs_are =
      ap (λ (x : Session). map (λ (value : InputValue). value.width) x.inputs) is ∙ ap (λ ws. map (λ (value : InputValue). value.width) (input_values ws given)) (ordered_leaves layers c).2
      ∙ input_widths_are c.inputs given owned

  width_at : (v : ℕ) → (output_value (session w.plan s) v).width ≡ slice_index c.outputs v
  width_at v = ap (λ os. (slice_index_or os v no_output).width) outputs_are ∙ width_is c.outputs read v many

  first_output : (o : ℕ) → output_wire (session w.plan s) o ≡ c.wires - output_wires c + o
  first_output o =
      let left = ordered_leaves layers c in
      let long : length (readers made) ≡ output_wires c = ap (λ ws. length (readers (record made { outputs = output_values ws read }))) left.3 ∙ readers_long c.outputs read many in
      ap (λ (x : Session). output_wire x o) is ∙ ap (λ n. n - length (readers made) + o) left.1 ∙ ap (λ n. c.wires - n + o) long

  word_at : (v i : ℕ) → wire_word w s (wires_before (session w.plan s) v) i ≡ output_word c first v i
  word_at v i =
      ap (plain w s) (first_output (wires_before (session w.plan s) v + i) ∙ ap (λ n. c.wires - output_wires c + (n + i)) (total_eq v _ (slice_index c.outputs) (λ u below. width_at u)))
      ∙ plain_is (c.wires - output_wires c + (total v (slice_index c.outputs) + i))

  pub computes : ComputesCircuit numeric w s c
  computes = record {
    values = plain_is;
    inputs = inputs_are;
    count = ap length outputs_are ∙ many_values c.outputs read many;
    words = λ v l.
        ap (λ n. shown_words numeric s w.plan.bits n (wire_word w s (wires_before (session w.plan s) v))) (width_at v)
        ∙ ap (shown_words numeric s w.plan.bits (slice_index c.outputs v)) (funext _ (output_word c first v) (word_at v));
  }

-- and in layers it takes few batches
takes_few : (x : Session) (c : Netlist) → HasLayersOf c x → IsWired x → TakesFewBatches x c
takes_few x c layers wired = record {
  direct = λ direct. sorted_few c x layers wired direct;
  prepared = sorted_prepared_few c x layers wired;
  ahead = λ ahead. sorted_ahead_few c x layers wired ahead;
}

-- ---- the job

-- session s of a plan, by its form
pub record IsPlanned (files : Contents) (dir : List ℕ) (job : JobForm) (form : SessionForm) (plan : Plan) (s : ℕ) : Type 0 where
  pub session : Session
  pub of : IsOfCircuit files dir job form session
  pub kept : List KeptWire
  pub at : plans.session plan s ≡ record session { kept = kept }
  pub within : s < length plan.sessions

planned : {node : Bool} (files : Contents) (dir : List ℕ) (job : JobForm) (structure : Structure) (sessions : List Session) (plan : Plan) → IsJobForm node job → plan ≡ plan_of job.bits structure (keeping sessions)
    → SessionsAfter files dir job [] job.sessions (accepted sessions) → (s : ℕ) (form : SessionForm) → slice_get job.sessions s ≡ Some form → IsPlanned files dir job form plan s
planned files dir job structure sessions plan good is read s form there =
    let at = session_at files dir job sessions read s form there in
    let below : s < length sessions = omega (arith, sessions_count files dir job [] job.sessions sessions read, slice_get_within job.sessions s form there) in
    record {
      session = slice_index_or sessions s no_session;
      of = of_circuit files dir job at.0 form (slice_index_or sessions s no_session) good.some_bits good.few_bits at.1;
      kept = kept_from s sessions;
      at = ap (λ (p : Plan). plans.session p s) is ∙ keeping_at sessions s below;
      within = (let long = length_keeping sessions in let as_long = ap (λ (p : Plan). length p.sessions) is in omega (arith, below, long, as_long));
    }

few_planned : (files : Contents) (dir : List ℕ) (job : JobForm) (form : SessionForm) (plan : Plan) (s : ℕ) → IsSound plan → has_layers form ≡ true → IsPlanned files dir job form plan s
    → (c : Netlist) × HasCircuit files dir job.bits form c × TakesFewBatches (session plan s) c
few_planned files dir job form plan s sound layers p =
    let o = p.of in
    let c = o.circuit in (
      c,
      o.has,
      takes_few (session plan s) c (o.valid, ap (λ (x : Session). x.gates) p.at ∙ ap (λ (x : Session). x.gates) o.made ∙ ap (λ b. (ordered b c).gates) layers) (sound.sessions s p.within).wired,
    )

module _ (files : Contents) (dir : List ℕ) (asked : Option (List ℕ)) (job : JobForm) (whole : WholeJob) (text : JobText false files dir (accepted job)) (at : JobAt files dir asked (accepted whole)) where
  sound : IsSound whole.world.plan
  sound = (jobs_are_whole files dir asked whole at).sound

  pub run_planned : (s : ℕ) (form : SessionForm) → slice_get job.sessions s ≡ Some form → IsPlanned files dir job form whole.world.plan s
  unfolding JobAt PlanAt JobText PlannedOf PlanOf Then
  run_planned s form there = go text at
    where
      go : JobText false files dir (accepted job) → JobAt files dir asked (accepted whole) → IsPlanned files dir job form whole.world.plan s
      go text (planned', (job', text', (group, g, (structure, found, (sessions, read, (plan, (same, within), e))))), (forms, given, is)) =
          let one : job' ≡ job = accepted_is job' job (text_once false files dir (accepted job') (accepted job) text' text) in
          let good : IsJobForm false job = good_job false text.0 job (was_ok _ (job_in false text.0) job text.2) in
          let world : whole.world.plan ≡ plan_of job.bits structure (keeping sessions) =
          ap (λ (whole : WholeJob). whole.world.plan) (accepted_is whole (whole_job planned' forms) is) ∙ ap (λ (p : Planned). p.plan) (accepted_is planned' _ e) ∙ same
          ∙ ap (λ (j : JobForm). plan_of j.bits structure (keeping sessions)) one in
          planned files dir job structure sessions whole.world.plan good world (subst (λ (j : JobForm). SessionsAfter files dir j [] j.sessions (accepted sessions)) one read) s form there

  pub run_has_bits : whole.world.plan.bits ≡ job.bits
  unfolding JobAt PlanAt JobText PlannedOf PlanOf Then
  run_has_bits = go text at
    where
      go : JobText false files dir (accepted job) → JobAt files dir asked (accepted whole) → whole.world.plan.bits ≡ job.bits
      go text (planned', (job', text', (group, g, (structure, found, (sessions, read, (plan, (same, within), e))))), (forms, given, is)) =
          let one : job' ≡ job = accepted_is job' job (text_once false files dir (accepted job') (accepted job) text' text) in
          ap (λ (whole : WholeJob). whole.world.plan.bits) (accepted_is whole (whole_job planned' forms) is) ∙ ap (λ (p : Planned). p.plan.bits) (accepted_is planned' _ e) ∙ ap (λ (p : Plan). p.bits) same ∙ ap (λ (j : JobForm). j.bits) one

  -- the words of a session are numbers where its layout says so
  pub run_numeric : (s : ℕ) (form : SessionForm) → slice_get job.sessions s ≡ Some form → is_numeric whole.numeric s ≡ has_numbers form
  unfolding JobAt PlanAt JobText PlannedOf PlanOf Then
  run_numeric s form there = go text at
    where
      go : JobText false files dir (accepted job) → JobAt files dir asked (accepted whole) → is_numeric whole.numeric s ≡ has_numbers form
      go text (planned', (job', text', (group, g, (structure, found, (sessions, read, (plan, (same, within), e))))), (forms, given, is)) =
          let one : job' ≡ job = accepted_is job' job (text_once false files dir (accepted job') (accepted job) text' text) in
          let numeric : whole.numeric ≡ numeric_sessions job =
          ap (λ (whole : WholeJob). whole.numeric) (accepted_is whole (whole_job planned' forms) is) ∙ ap (λ (p : Planned). p.numeric) (accepted_is planned' _ e) ∙ ap numeric_sessions one in
          ap (λ ns. is_numeric ns s) numeric ∙ numeric_at job.sessions s form there

  pub run_computes : (s : ℕ) (form : SessionForm) → slice_get job.sessions s ≡ Some form → (c : Netlist) × HasCircuit files dir job.bits form c × ComputesCircuit whole.numeric whole.world s c
  run_computes s form there =
      let p = run_planned s form there in
      let o = p.of in
      let c = o.circuit in (
        c,
        o.has,
        computes whole.numeric whole.world s c (has_layers form) (map owner_of form.owners) (groups_in (length job.names) form.readers) (are_prepared form.products) (come_ahead form.products) p.kept sound.earlier o.valid
            (p.at ∙ ap (λ (x : Session). record x { kept = p.kept }) o.made) (run_has_bits ∙ sym o.bits) o.owned o.read,
      )

  pub run_takes_few : (s : ℕ) (form : SessionForm) → slice_get job.sessions s ≡ Some form → has_layers form ≡ true → (c : Netlist) × HasCircuit files dir job.bits form c × TakesFewBatches (session whole.world.plan s) c
  run_takes_few s form there layers = few_planned files dir job form whole.world.plan s sound layers (run_planned s form there)

pub runs_compute_circuits : RunsComputeCircuits
runs_compute_circuits = run_computes

pub layers_take_few : LayersTakeFewBatches
layers_take_few = run_takes_few

pub nodes_take_few : NodesTakeFewBatches
unfolding JobText Then
nodes_take_few files dir name job node text at s form there layers =
    let n : IsNode files dir name node = node_read files dir name node at in
    let one : n.job ≡ job = accepted_is n.job job (text_once true files dir (accepted n.job) (accepted job) n.text text) in
    let good : IsJobForm true job = good_job true text.0 job (was_ok _ (job_in true text.0) job text.2) in
    let is : node.plan ≡ plan_of job.bits n.groups (keeping n.sessions) = ap (λ (node : NodeForm). node.plan) n.is ∙ ap (λ (j : JobForm). plan_of j.bits n.groups (keeping n.sessions)) one in
    let read : SessionsAfter files dir job [] job.sessions (accepted n.sessions) = subst (λ (j : JobForm). SessionsAfter files dir j [] j.sessions (accepted n.sessions)) one n.read in
    few_planned files dir job form node.plan s (nodes_are_parts files dir name node at).sound layers (planned files dir job n.groups n.sessions node.plan good is read s form there)
