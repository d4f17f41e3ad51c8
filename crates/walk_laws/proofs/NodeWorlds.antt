-- What a node's files give is its part of a whole world.
use Rattle.std.proofs.Common.{◌≡◌, ℕ, zero, suc, ◌+◌, ◌<◌, Bool, true, false, List, [], ◌∷◌, ◌++◌, length, map, Option, None, Some, Result, refl, sym, ap, ap₂, ◌∙◌, subst, arith}
use Rattle.std.specs.Prelude.{slice_index_or, unwrap_or}
use Rattle.std.specs.List.{AllByRecursion, concat}
use Rattle.std.specs.Str.{bytes_eq}
use Rattle.toml_fields.specs.Documents.{document_of}
use Rattle.std.proofs.lemmas.List.{get_or_append_left, get_or_push, get_or-map, length-append}
use Rattle.std.proofs.lemmas.List.Quantifiers.{position-Some}
use Rattle.std.proofs.lemmas.Option.{get_or_from_slice_get}
use Rattle.sha2.proofs.Facts256.{length-sha256}
use Rattle.list_laws.specs.Lists.{listed}
use Rattle.list_laws.proofs.JoinedLists.{length-listed, listed_at}
use Rattle.party_set.specs.Parties.{Structure}
use Rattle.party_names.specs.Names.{party_named}
use Rattle.party_names.proofs.NameFaults.{number_at}
use Rattle.session_slots.specs.Sessions.{Session}
use Rattle.plan_model.specs.Plans.{Plan, plan_of}
use Rattle.session_slots.specs.Carries.{keeping}
use Rattle.plan_model.specs.Sound.{IsSound}
use Rattle.frame_code.specs.declared.framing.FrameForm.{FrameForm}
use Rattle.job_file.specs.Forms.{JobForm, SessionForm, job_form}
use Rattle.job_file.specs.Faults.{job_in}
use Rattle.party_file.specs.Table.{PartyForm}
use Rattle.party_file.specs.Forms.{FitsPlan}
use Rattle.share_world.specs.Worlds.{World}
use Rattle.job_run.specs.Parties.{world_of}
use Rattle.job_walk.specs.Verdict.{Then, accepted}
use Rattle.job_walk.specs.JobOf.{Contents, JobText, PartiesAfter, PartyAt, PlanAt, Planned, PlannedOf, PlanOf, SessionAt, SessionsAfter, StructureOf, bytes_of, file_at, numeric_sessions}
use Rattle.job_walk.specs.Names as file_names
use Rattle.job_walk.specs.NodeOf.{NodeForm, NodeAt, circuit_files, frames_of, job_digest, party_of}
use Rattle.job_walk.specs.FileLogs.{all_bytes_at}
use Rattle.job_digest.specs.Digests.{digest_of, joined_files}
use Rattle.outer_io.specs.Links.{LinksReading}
use Rattle.node_talk.specs.declared.fault.NodeFault.{NodeFault}
use Rattle.node_talk.specs.Runs.{Results}
use Rattle.node_run.specs.NodeRuns as node_runs
use Rattle.node_run.specs.Ready.{IsNodeOf, IsNodePart}
use Rattle.network_runs.specs.Played.{ArePlayed}
use Rattle.network_runs.proofs.PlayedRuns.{runs_make_a_network}
use Rattle.mpc_top.specs.NodeTalks.{offered, node_part}
use Rattle.mpc_top.specs.Outside.{Outside}
use Rattle.mpc_top.specs.WholeJobs.{WholeJob, whole_job, JobAt}
use Rattle.walk_laws.specs.Nodes.{HoldSame, NodesAgree, NodesAreParts, NodesHaveTheirParts, PartsMakeAWorld, TalkTogether, TalksMakeANetwork, AreAlike, AreNodesOf, IsJoint, joint_world, node_in, played_by}
use Rattle.walk_laws.proofs.Jobs.{party_once, sessions_once, structure_once}
use Rattle.mpc_top.proofs.WholeWorlds.{Fitting, IsFound, accepted_is, no_form, party_fits, plan_is_sound, structure_found, was_ok, whole_world}
use Rattle.job_laws.specs.Documents.{IsJobForm}
use Rattle.job_laws.proofs.ReadJobs.{IsGoodDocument, good_document, good_job}

-- ---- a node's walk, by its parts

-- what was read on the way to a node
pub record IsNode (files : Contents) (dir name : List ℕ) (node : NodeForm) : Type 0 where
  pub job : JobForm
  pub text : JobText true files dir (accepted job)
  pub me : ℕ
  pub named : party_named job.names name ≡ Some me
  pub groups : Structure
  pub structure_is : StructureOf job (accepted groups)
  pub sessions : List Session
  pub read : SessionsAfter files dir job [] job.sessions (accepted sessions)
  pub plan_is : PlanOf job (plan_of job.bits groups (keeping sessions)) (accepted (plan_of job.bits groups (keeping sessions)))
  pub given : PartyForm
  pub party : PartyAt files dir (numeric_sessions job) (plan_of job.bits groups (keeping sessions)) me name (accepted given)
  pub is : node
      ≡ record {
        names = job.names;
        hosts = job.hosts;
        port = job.port;
        form = frames_of job.short_frames;
        view = job.own_views;
        me = me;
        plan = plan_of job.bits groups (keeping sessions);
        numeric = numeric_sessions job;
        given = given;
        digest = job_digest files dir job;
      }

some_party : (o : Option ℕ) (me : ℕ) → accepted me ≡ party_of o → o ≡ Some me
some_party None me e = cc
some_party (Some p) me e = ap Some (sym (accepted_is me p e))

pub node_read : (files : Contents) (dir name : List ℕ) (node : NodeForm) → NodeAt files dir name (accepted node) → IsNode files dir name node
unfolding NodeAt PlanOf Then
node_read files dir name node (job, text, (me, m, (s, found, (sessions, read, (plan, (same, within), (given, party, e)))))) = record {
  job = job;
  text = text;
  me = me;
  named = some_party (party_named job.names name) me m;
  groups = s;
  structure_is = found;
  sessions = sessions;
  read = read;
  plan_is = (refl, within);
  given = given;
  party = subst (λ (plan : Plan). PartyAt files dir (numeric_sessions job) plan me name (accepted given)) same party;
  is =
      accepted_is node _ e
      ∙ ap (λ (plan : Plan). record {
        names = job.names;
        hosts = job.hosts;
        port = job.port;
        form = frames_of job.short_frames;
        view = job.own_views;
        me = me;
        plan = plan;
        numeric = numeric_sessions job;
        given = given;
        digest = job_digest files dir job;
      }) same;
}

module _ (files : Contents) (dir name : List ℕ) (node : NodeForm) (of : IsNode files dir name node) where
  abbrev its_plan : Plan
  its_plan = plan_of of.job.bits of.groups (keeping of.sessions)

  form_is_good : IsJobForm true of.job
  unfolding JobText Then
  form_is_good = good_job true of.text.0 of.job (was_ok _ (job_in true of.text.0) of.job of.text.2)

  found : IsFound of.job.names of.groups
  found = structure_found of.job of.groups form_is_good.names.some form_is_good.names.few of.structure_is

  plan_sound : IsSound its_plan
  unfolding PlanOf
  plan_sound = plan_is_sound files dir of.job of.groups of.sessions form_is_good found of.read of.plan_is.1

  me_below : of.me < of.groups.parties
  me_below =
      let below : of.me < length of.job.names = (position-Some (λ other. bytes_eq other name) of.job.names of.me [] of.named).0 in
      omega (arith, below, found.parties)

  is_node_part : IsNodePart (node_part node)
  is_node_part = subst (λ (node : NodeForm). IsNodePart (node_part node)) (sym of.is) (record {
    sound = plan_sound;
    party = me_below;
    fits = party_fits files dir (numeric_sessions of.job) its_plan of.me name of.given of.party;
    digest = length-sha256 (joined_files (all_bytes_at files dir (file_names.job_file ∷ circuit_files of.job)));
  })

pub nodes_are_parts : NodesAreParts
nodes_are_parts files dir name node at = is_node_part files dir name node (node_read files dir name node at)

-- ---- the parties of a folder

module _ (files : Contents) (dir : List ℕ) (numeric : List Bool) (plan : Plan) where
  -- the forms that were read stay
  forms_stay : (before : List PartyForm) (names : List (List ℕ)) (forms : List PartyForm) → PartiesAfter files dir numeric plan before names (accepted forms)
      → (p : ℕ) → p < length before → slice_index_or forms p no_form ≡ slice_index_or before p no_form
  unfolding PartiesAfter Then
  forms_stay before [] forms e p l = ap (λ xs. slice_index_or xs p no_form) (accepted_is forms before e)
  forms_stay before (name ∷ names) forms (form, at, rest) p l =
      forms_stay (before ++ form ∷ []) names forms rest p (omega (arith, l, length-append before (form ∷ []))) ∙ get_or_append_left before (form ∷ []) no_form p l

  -- each form is what the party of that name gives
  form_at : (before : List PartyForm) (names : List (List ℕ)) (forms : List PartyForm) → PartiesAfter files dir numeric plan before names (accepted forms)
      → (p : ℕ) → p < length names → PartyAt files dir numeric plan (length before + p) (slice_index_or names p []) (accepted (slice_index_or forms (length before + p) no_form))
  unfolding PartiesAfter Then
  form_at before [] forms e p l = absurd (omega (arith, l))
  form_at before (name ∷ names) forms (form, at, rest) zero l =
      let here : length before + 0 ≡ length before = omega arith in
      let kept : form ≡ slice_index_or forms (length before) no_form =
      sym (forms_stay (before ++ form ∷ []) names forms rest (length before) (omega (arith, length-append before (form ∷ []))) ∙ get_or_push before form no_form (length before) refl) in
      subst (λ n. PartyAt files dir numeric plan n name (accepted (slice_index_or forms n no_form))) (sym here) (subst (λ (x : PartyForm). PartyAt files dir numeric plan (length before) name (accepted x)) kept at)
  form_at before (name ∷ names) forms (form, at, rest) (suc p) l =
      let next : length (before ++ form ∷ []) + p ≡ length before + suc p = omega (arith, length-append before (form ∷ [])) in
      subst (λ n. PartyAt files dir numeric plan n (slice_index_or names p []) (accepted (slice_index_or forms n no_form))) next (form_at (before ++ form ∷ []) names forms rest p (omega (arith, l)))

  pub form_of_all : (names : List (List ℕ)) (forms : List PartyForm) → PartiesAfter files dir numeric plan [] names (accepted forms)
      → (p : ℕ) → p < length names → PartyAt files dir numeric plan p (slice_index_or names p []) (accepted (slice_index_or forms p no_form))
  form_of_all names forms read p l =
      let from_none : length {A = PartyForm} [] + p ≡ p = omega arith in
      subst (λ n. PartyAt files dir numeric plan n (slice_index_or names p []) (accepted (slice_index_or forms n no_form))) from_none (form_at [] names forms read p l)

  -- as many as there are names
  pub forms_count : (before : List PartyForm) (names : List (List ℕ)) (forms : List PartyForm) → PartiesAfter files dir numeric plan before names (accepted forms) → length forms ≡ length before + length names
  unfolding PartiesAfter Then
  forms_count before [] forms e = ap length (accepted_is forms before e) ∙ omega arith
  forms_count before (name ∷ names) forms (form, at, rest) = omega (arith, forms_count (before ++ form ∷ []) names forms rest, length-append before (form ∷ []))

-- ---- a party of a list of forms

module _ (plan : Plan) (forms : List PartyForm) (p : ℕ) (l : p < length forms) where
  pub inputs_are : slice_index_or (world_of plan forms).inputs p [] ≡ (slice_index_or forms p no_form).inputs
  inputs_are = get_or-map (λ (party : PartyForm). party.inputs) forms p no_form [] l

  tape_is : slice_index_or (world_of plan forms).tapes p [] ≡ concat (slice_index_or forms p no_form).tapes
  tape_is = get_or-map (λ (party : PartyForm). concat party.tapes) forms p no_form [] l

-- ---- one folder with all files

-- read for a node or not, a job is the same
same_job : (files : Contents) (dir : List ℕ) (node other : Bool) (job job' : JobForm) → JobText node files dir (accepted job) → JobText other files dir (accepted job') → job ≡ job'
unfolding JobText Then
same_job files dir node other job job' (bytes, there, e) (bytes', there', e') =
    let one : bytes ≡ bytes' = accepted_is bytes bytes' (there ∙ sym there') in
    let good : IsGoodDocument node bytes job = good_document node bytes job (was_ok _ (job_in node bytes) job e) in
    let good' : IsGoodDocument other bytes' job' = good_document other bytes' job' (was_ok _ (job_in other bytes') job' e') in
    let same : good.fields ≡ good'.fields = (let e : Some good.fields ≡ Some good'.fields = sym good.parsed ∙ ap document_of one ∙ good'.parsed in cc) in
    good.is ∙ ap job_form same ∙ sym good'.is

-- what a job of a folder is made of
pub record IsMade (files : Contents) (dir : List ℕ) (job : WholeJob) : Type 0 where
  pub form : JobForm
  pub text : JobText false files dir (accepted form)
  pub groups : Structure
  pub structure_is : StructureOf form (accepted groups)
  pub sessions : List Session
  pub read : SessionsAfter files dir form [] form.sessions (accepted sessions)
  pub forms : List PartyForm
  pub parties : PartiesAfter files dir (numeric_sessions form) (plan_of form.bits groups (keeping sessions)) [] form.names (accepted forms)
  pub names : job.names ≡ form.names
  pub numeric : job.numeric ≡ numeric_sessions form
  pub is : job.world ≡ world_of (plan_of form.bits groups (keeping sessions)) forms

pub made : (files : Contents) (dir : List ℕ) (asked : Option (List ℕ)) (job : WholeJob) → JobAt files dir asked (accepted job) → IsMade files dir job
unfolding JobAt PlanAt PlannedOf PlanOf Then
made files dir asked job (planned, (form, text, (group, g, (s, found, (sessions, read, (plan, (same, within), e))))), (forms, parties, last)) =
    let of : planned ≡ record { names = form.names; group = group; plan = plan_of form.bits s (keeping sessions); numeric = numeric_sessions form } =
    accepted_is planned _ e ∙ ap (λ (plan : Plan). record { names = form.names; group = group; plan = plan; numeric = numeric_sessions form }) same in
    record {
      form = form;
      text = text;
      groups = s;
      structure_is = found;
      sessions = sessions;
      read = read;
      forms = forms;
      parties = subst (λ (planned : Planned). PartiesAfter files dir planned.numeric planned.plan [] planned.names (accepted forms)) of parties;
      names = ap (λ (job : WholeJob). job.names) (accepted_is job (whole_job planned forms) last) ∙ ap (λ (planned : Planned). planned.names) of;
      numeric = ap (λ (job : WholeJob). job.numeric) (accepted_is job (whole_job planned forms) last) ∙ ap (λ (planned : Planned). planned.numeric) of;
      is = ap (λ (job : WholeJob). job.world) (accepted_is job (whole_job planned forms) last) ∙ ap (λ (planned : Planned). world_of planned.plan forms) of;
    }

module _ (files : Contents) (dir name : List ℕ) (node : NodeForm) (job : WholeJob) (of : IsNode files dir name node) (m : IsMade files dir job) where
  form_is : of.job ≡ m.form
  form_is = same_job files dir true false of.job m.form of.text m.text

  groups_are : of.groups ≡ m.groups
  groups_are = accepted_is of.groups m.groups (structure_once m.form (accepted of.groups) (accepted m.groups) (subst (λ (j : JobForm). StructureOf j (accepted of.groups)) form_is of.structure_is) m.structure_is)

  sessions_are : of.sessions ≡ m.sessions
  sessions_are =
      accepted_is of.sessions m.sessions
      (sessions_once files dir m.form [] m.form.sessions (accepted of.sessions) (accepted m.sessions) (subst (λ (j : JobForm). SessionsAfter files dir j [] j.sessions (accepted of.sessions)) form_is of.read) m.read)

  abbrev made_plan : Plan
  made_plan = plan_of m.form.bits m.groups (keeping m.sessions)

  plans_are : plan_of of.job.bits of.groups (keeping of.sessions) ≡ made_plan
  plans_are = ap (λ (j : JobForm). plan_of j.bits of.groups (keeping of.sessions)) form_is ∙ ap₂ (λ s x. plan_of m.form.bits s (keeping x)) groups_are sessions_are

  named : party_named m.form.names name ≡ Some of.me
  named = ap (λ (j : JobForm). party_named j.names name) (sym form_is) ∙ of.named

  below : of.me < length m.form.names
  below = (position-Some (λ other. bytes_eq other name) m.form.names of.me [] named).0

  its_name : slice_index_or m.form.names of.me [] ≡ name
  its_name = get_or_from_slice_get m.form.names of.me name [] (number_at m.form.names name of.me (sym named))

  given_is : of.given ≡ slice_index_or m.forms of.me no_form
  given_is =
      accepted_is of.given _
      (party_once files dir (numeric_sessions m.form) made_plan of.me name (accepted of.given) (accepted (slice_index_or m.forms of.me no_form))
      (subst (λ (plan : Plan). PartyAt files dir (numeric_sessions m.form) plan of.me name (accepted of.given)) plans_are
      (subst (λ (j : JobForm). PartyAt files dir (numeric_sessions j) (plan_of of.job.bits of.groups (keeping of.sessions)) of.me name (accepted of.given)) form_is of.party))
      (subst (λ text. PartyAt files dir (numeric_sessions m.form) made_plan of.me text (accepted (slice_index_or m.forms of.me no_form))) its_name
      (form_of_all files dir (numeric_sessions m.form) made_plan m.form.names m.forms m.parties of.me below)))

  there : of.me < length m.forms
  there = omega (arith, below, forms_count files dir (numeric_sessions m.form) made_plan [] m.form.names m.forms m.parties)

  has_node_part : IsNodeOf (node_part node) (node_in job.world node)
  has_node_part =
      subst (λ (w : World). IsNodeOf (node_part node) (node_in w node)) (sym m.is)
      (subst (λ (node : NodeForm). IsNodeOf (node_part node) (node_in (world_of made_plan m.forms) node)) (sym of.is) (record {
        plan = sym plans_are;
        me = refl;
        inputs = inputs_are made_plan m.forms of.me there ∙ ap (λ (x : PartyForm). x.inputs) (sym given_is);
        tape = tape_is made_plan m.forms of.me there ∙ ap (λ (x : PartyForm). concat x.tapes) (sym given_is);
        digest = refl;
        form = refl;
      }))

pub nodes_have_their_parts : NodesHaveTheirParts
nodes_have_their_parts files dir name asked node job at whole = has_node_part files dir name node job (node_read files dir name node at) (made files dir asked job whole)

-- ---- folders that hold the same

module _ (files files' : Contents) (dir dir' : List ℕ) where
  abbrev Same : List ℕ → Type 0
  Same name = files (file_names.path_of dir name) ≡ files' (file_names.path_of dir' name)

  same_file : (name : List ℕ) → Same name → file_at files dir name ≡ file_at files' dir' name
  unfolding file_at
  same_file name same = ap (λ bytes. bytes_of bytes name) same

  same_text : (job : JobForm) → Same file_names.job_file → JobText true files' dir' (accepted job) → JobText true files dir (accepted job)
  unfolding JobText Then
  same_text job same (bytes, there, e) = (bytes, there ∙ sym (same_file file_names.job_file same), e)

  module _ (job : JobForm) where
    same_session : (before : List Session) (form : SessionForm) (x : Session) → Same form.circuit → SessionAt files' dir' job before form (accepted x) → SessionAt files dir job before form (accepted x)
    unfolding SessionAt Then
    same_session before form x same (bytes, there, rest) = (bytes, there ∙ sym (same_file form.circuit same), rest)

    same_sessions : (before : List Session) (forms : List SessionForm) (sessions : List Session) → AllByRecursion Same (map (λ (session : SessionForm). session.circuit) forms)
        → SessionsAfter files' dir' job before forms (accepted sessions) → SessionsAfter files dir job before forms (accepted sessions)
    unfolding SessionsAfter Then
    same_sessions before [] sessions same e = e
    same_sessions before (form ∷ forms) sessions same (x, at, rest) = (x, same_session before form x same.0 at, same_sessions (before ++ x ∷ []) forms sessions same.1 rest)

  same_bytes : (names : List (List ℕ)) → AllByRecursion Same names → all_bytes_at files dir names ≡ all_bytes_at files' dir' names
  same_bytes [] same = refl
  same_bytes (name ∷ names) same = ap₂ (λ x xs. x ∷ xs) (ap (λ (bytes : Option (List ℕ)). unwrap_or bytes []) same.0) (same_bytes names same.1)

module _ (files files' : Contents) (dir dir' name name' : List ℕ) (job : JobForm) (node node' : NodeForm) (text : JobText true files dir (accepted job))
    (same : HoldSame files dir files' dir' (file_names.job_file ∷ circuit_files job)) (of : IsNode files dir name node) (of' : IsNode files' dir' name' node') where
  its_job : of.job ≡ job
  its_job = same_job files dir true true of.job job of.text text

  other_job : of'.job ≡ job
  other_job = same_job files dir true true of'.job job (same_text files files' dir dir' of'.job same.0 of'.text) text

  same_groups : of'.groups ≡ of.groups
  same_groups =
      accepted_is of'.groups of.groups
      (structure_once job (accepted of'.groups) (accepted of.groups) (subst (λ (j : JobForm). StructureOf j (accepted of'.groups)) other_job of'.structure_is)
      (subst (λ (j : JobForm). StructureOf j (accepted of.groups)) its_job of.structure_is))

  sessions_stay : of'.sessions ≡ of.sessions
  sessions_stay =
      accepted_is of'.sessions of.sessions
      (sessions_once files dir job [] job.sessions (accepted of'.sessions) (accepted of.sessions)
      (same_sessions files files' dir dir' job [] job.sessions of'.sessions same.1 (subst (λ (j : JobForm). SessionsAfter files' dir' j [] j.sessions (accepted of'.sessions)) other_job of'.read))
      (subst (λ (j : JobForm). SessionsAfter files dir j [] j.sessions (accepted of.sessions)) its_job of.read))

  same_plan : plan_of of'.job.bits of'.groups (keeping of'.sessions) ≡ plan_of of.job.bits of.groups (keeping of.sessions)
  same_plan = ap (λ (j : JobForm). plan_of j.bits of'.groups (keeping of'.sessions)) (other_job ∙ sym its_job) ∙ ap₂ (λ s x. plan_of of.job.bits s (keeping x)) same_groups sessions_stay

  same_digest : job_digest files' dir' of'.job ≡ job_digest files dir of.job
  same_digest =
      ap (job_digest files' dir') other_job
      ∙ ap digest_of (sym (same_bytes files files' dir dir' (file_names.job_file ∷ circuit_files job) same))
      ∙ ap (job_digest files dir) (sym its_job)

  agree : AreAlike node node'
  agree = (
    ap (λ (n : NodeForm). n.plan) of'.is ∙ same_plan ∙ ap (λ (n : NodeForm). n.plan) (sym of.is),
    ap (λ (n : NodeForm). n.digest) of'.is ∙ same_digest ∙ ap (λ (n : NodeForm). n.digest) (sym of.is),
    ap (λ (n : NodeForm). n.form) of'.is ∙ ap (λ (j : JobForm). frames_of j.short_frames) (other_job ∙ sym its_job) ∙ ap (λ (n : NodeForm). n.form) (sym of.is),
    ap (λ (n : NodeForm). n.view) of'.is ∙ ap (λ (j : JobForm). j.own_views) (other_job ∙ sym its_job) ∙ ap (λ (n : NodeForm). n.view) (sym of.is),
  )

pub nodes_agree : NodesAgree
nodes_agree files files' dir dir' name name' job node node' text same at at' =
    agree files files' dir dir' name name' job node node' text same (node_read files dir name node at) (node_read files' dir' name' node' at')

-- ---- all nodes of a job

module _ (plan : Plan) (digest : List ℕ) (form : FrameForm) (nodes : ℕ → NodeForm) (are : AreNodesOf plan digest form nodes) where
  part : (p : ℕ) → p < plan.parties → IsNodePart (node_part (nodes p))
  part p l = (let r = are.read p l in nodes_are_parts r.0 r.1 r.2 (nodes p) r.3)

  abbrev forms : List PartyForm
  forms = listed plan.parties (λ p. (nodes p).given)

  many : length forms ≡ plan.parties
  many = length-listed plan.parties (λ p. (nodes p).given)

  form_is_its : (p : ℕ) → p < plan.parties → slice_index_or forms p no_form ≡ (nodes p).given
  form_is_its p l = listed_at plan.parties (λ p. (nodes p).given) p no_form l

  fits : (p : ℕ) → p < plan.parties → FitsPlan plan p (nodes p).given
  fits p l = subst (λ q. FitsPlan plan q (nodes p).given) (are.parties p l) (subst (λ (plan : Plan). FitsPlan plan (nodes p).me (nodes p).given) (are.plans p l) (part p l).fits)

  fitting : Fitting plan forms
  fitting p l = (let below : p < plan.parties = omega (arith, l, many) in subst (FitsPlan plan p) (sym (form_is_its p below)) (fits p below))

  sound : IsSound plan
  sound = subst IsSound (are.plans 0 are.some) (part 0 are.some).sound

  joint : IsJoint plan digest form nodes
  joint = record {
    whole = whole_world plan forms many fitting sound;
    parts = λ p l.
        let there : p < length forms = omega (arith, l, many) in
        record {
          plan = sym (are.plans p l);
          me = sym (are.parties p l);
          inputs = ap (λ q. slice_index_or (joint_world plan nodes).inputs q []) (are.parties p l) ∙ inputs_are plan forms p there ∙ ap (λ (x : PartyForm). x.inputs) (form_is_its p l);
          tape = ap (λ q. slice_index_or (joint_world plan nodes).tapes q []) (are.parties p l) ∙ tape_is plan forms p there ∙ ap (λ (x : PartyForm). concat x.tapes) (form_is_its p l);
          digest = sym (are.digests p l);
          form = sym (are.forms p l);
        };
  }

pub parts_make_a_world : PartsMakeAWorld
parts_make_a_world plan digest form nodes are = joint plan digest form nodes are

-- ---- their network

module _ (plan : Plan) (digest : List ℕ) (form : FrameForm) (nodes : ℕ → NodeForm) (before after : ℕ → Outside) (kept : ℕ → LinksReading) (answers : ℕ → Result Results NodeFault)
    (t : TalkTogether plan digest form nodes before after kept answers) where
  of_all : IsJoint plan digest form nodes
  of_all = joint plan digest form nodes t.are

  played : ArePlayed (played_by plan digest form nodes before after kept answers)
  played = record {
    whole = of_all.whole;
    digest = ap length (sym (t.are.digests 0 t.are.some)) ∙ (part plan digest form nodes t.are 0 t.are.some).digest;
    runs = λ p l.
        let talk = t.talks p l in
        let one : talk.kept ≡ kept p = (let e : Some talk.kept ≡ Some (kept p) = sym talk.has_back ∙ t.links p l in cc) in
        subst (λ (links : LinksReading). node_runs.Runs (record { world = joint_world plan nodes; me = p; digest = digest; form = form }) (offered (nodes p) (before p)) links (before p).spawner (after p).spawner (answers p)) one
        (talk.run (record { world = joint_world plan nodes; me = p; digest = digest; form = form }) (of_all.parts p l));
    pipes = t.pipes;
  }

pub talks_make_a_network : TalksMakeANetwork
talks_make_a_network plan digest form nodes before after kept answers t =
    runs_make_a_network (played_by plan digest form nodes before after kept answers) (played plan digest form nodes before after kept answers t)
