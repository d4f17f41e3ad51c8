-- The whole walk ends once.
use Rattle.std.proofs.Common.{ℕ, List, [], ◌∷◌, ◌++◌, length, Option, None, Some, Bool, true, false}
use Rattle.party_set.specs.Parties.{Structure, Members}
use Rattle.session_slots.specs.Sessions.{Session}
use Rattle.plan_model.specs.Plans.{Plan}
use Rattle.job_file.specs.Forms.{JobForm, SessionForm}
use Rattle.job_file.specs.declared.layout.SessionLayout.{SessionLayout}
use Rattle.job_file.specs.declared.layout.SessionLayout.TheVariants.{Gates, Expressions, Numbers}
use Rattle.party_file.specs.Table.{PartyForm}
use Rattle.command_words.specs.Commands.{CommandForm, run, check, pair, node, sample, audit}
use Rattle.share_world.specs.Worlds.{view}
use Rattle.view_check.proofs.ToldViews.{told_views}
use Rattle.job_walk.specs.Verdict.{EndsOnce}
use Rattle.job_walk.specs.JobOf.{Contents, JobText, GroupOf, StructureOf, numeric_sessions, CircuitOf, SessionAt, SessionsAfter, PlannedOf, PlanAt, PartyAt, PartiesAfter}
use Rattle.mpc_top.specs.WholeJobs.{JobAt, OtherAt, PairAt}
use Rattle.job_walk.specs.NodeOf.{NodeAt}
use Rattle.mpc_top.specs.Audits.{AuditAt}
use Rattle.mpc_top.specs.Due.{DueOf, IsDue}
use Rattle.walk_laws.proofs.Walks.{ends_once, then_once, then_once_of}
use Rattle.walk_laws.proofs.Audits.{judged_once}
use Rattle.mpc_top.proofs.WholeWorlds.{jobs_are_whole, jobs_are_named}
use Rattle.walk_laws.proofs.Plans.{expressions_once, program_once, groups_once, q2_once, plan_once}

pub structure_once : (job : JobForm) → EndsOnce (StructureOf job)
unfolding StructureOf
structure_once job = then_once _ _ (groups_once job.names job.adversary) (q2_once job)

group_once : (names : List (List ℕ)) (asked : Option (List ℕ)) → EndsOnce (GroupOf names asked)
unfolding GroupOf
group_once names None = ends_once _
group_once names (Some text) = then_once _ _ (ends_once _) (λ group. ends_once _)

pub text_once : (for_node : Bool) (files : Contents) (dir : List ℕ) → EndsOnce (JobText for_node files dir)
unfolding JobText
text_once for_node files dir = then_once _ _ (ends_once _) (λ bytes. ends_once _)

circuit_once : (layout : SessionLayout) (file : List ℕ) (s bits : ℕ) (bytes : List ℕ) → EndsOnce (CircuitOf layout file s bits bytes)
unfolding CircuitOf
circuit_once (Gates layout) file s bits bytes = ends_once _
circuit_once Expressions file s bits bytes = expressions_once _ bits bytes
circuit_once Numbers file s bits bytes = then_once _ _ (ends_once _) (λ passed. program_once _ bytes)

session_once : (files : Contents) (dir : List ℕ) (job : JobForm) (before : List Session) (form : SessionForm) → EndsOnce (SessionAt files dir job before form)
unfolding SessionAt
session_once files dir job before form = then_once _ _ (ends_once _) (λ bytes. then_once _ _ (circuit_once form.layout form.circuit (length before) job.bits bytes) (λ circuit. ends_once _))

pub sessions_once : (files : Contents) (dir : List ℕ) (job : JobForm) (before : List Session) (forms : List SessionForm) → EndsOnce (SessionsAfter files dir job before forms)
unfolding SessionsAfter
sessions_once files dir job before [] = ends_once _
sessions_once files dir job before (form ∷ forms) = then_once _ _ (session_once files dir job before form) (λ s. sessions_once files dir job (before ++ s ∷ []) forms)

planned_once : (files : Contents) (dir : List ℕ) (job : JobForm) (group : Option Members) (s : Structure) → EndsOnce (PlannedOf files dir job group s)
unfolding PlannedOf
planned_once files dir job group s = then_once _ _ (sessions_once files dir job [] job.sessions) (λ sessions. then_once _ _ (plan_once job _) (λ plan. ends_once _))

plan_at_once : (files : Contents) (dir : List ℕ) (asked : Option (List ℕ)) → EndsOnce (PlanAt files dir asked)
unfolding PlanAt
plan_at_once files dir asked =
    then_once _ _ (text_once false files dir) (λ job. then_once _ _ (group_once job.names asked) (λ group. then_once _ _ (structure_once job) (planned_once files dir job group)))

pub party_once : (files : Contents) (dir : List ℕ) (numeric : List Bool) (plan : Plan) (p : ℕ) (name : List ℕ) → EndsOnce (PartyAt files dir numeric plan p name)
unfolding PartyAt
party_once files dir numeric plan p name = then_once _ _ (ends_once _) (λ bytes. ends_once _)

parties_once : (files : Contents) (dir : List ℕ) (numeric : List Bool) (plan : Plan) (before : List PartyForm) (names : List (List ℕ)) → EndsOnce (PartiesAfter files dir numeric plan before names)
unfolding PartiesAfter
parties_once files dir numeric plan before [] = ends_once _
parties_once files dir numeric plan before (name ∷ names) = then_once _ _ (party_once files dir numeric plan (length before) name) (λ party. parties_once files dir numeric plan (before ++ party ∷ []) names)

job_once : (files : Contents) (dir : List ℕ) (asked : Option (List ℕ)) → EndsOnce (JobAt files dir asked)
unfolding JobAt
job_once files dir asked = then_once _ _ (plan_at_once files dir asked) (λ planned. then_once _ _ (parties_once files dir planned.numeric planned.plan [] planned.names) (λ parties. ends_once _))

other_once : (files : Contents) (dir : List ℕ) (numeric : List Bool) (plan : Plan) (names : List (List ℕ)) (inputs : List (List (List ℕ))) → EndsOnce (OtherAt files dir numeric plan names inputs)
unfolding OtherAt
other_once files dir numeric plan names inputs = then_once _ _ (ends_once _) (λ bytes. ends_once _)

pair_once : (files : Contents) (dir asked : List ℕ) → EndsOnce (PairAt files dir asked)
unfolding PairAt
pair_once files dir asked =
    then_once _ _ (job_once files dir (Some asked)) (λ job. then_once _ _ (other_once files dir job.numeric job.world.plan job.names job.world.inputs) (λ other. ends_once _))

node_once : (files : Contents) (dir name : List ℕ) → EndsOnce (NodeAt files dir name)
unfolding NodeAt
node_once files dir name =
    then_once _ _ (text_once true files dir) (λ job. then_once _ _ (ends_once _) (λ me. then_once _ _ (structure_once job) (λ groups.
    then_once _ _ (sessions_once files dir job [] job.sessions) (λ sessions. then_once _ _ (plan_once job _) (λ plan.
    then_once _ _ (party_once files dir (numeric_sessions job) plan me name) (λ given. ends_once _))))))

audit_once : (files : Contents) (dir : List ℕ) → EndsOnce (AuditAt files dir)
unfolding AuditAt
audit_once files dir =
    then_once_of _ _ (job_once files dir None) (λ job is. then_once _ _ (ends_once _) (λ text.
    judged_once job.names (view job.world) text (jobs_are_named files dir None job is).0 (told_views job.world (jobs_are_whole files dir None job is) job.names (jobs_are_named files dir None job is).1)))

command_once : (command : CommandForm) (files : Contents) → EndsOnce (DueOf command files)
unfolding DueOf
command_once (run dir workers view) files = then_once _ _ (job_once files dir view) (λ job. ends_once _)
command_once (check dir) files = then_once _ _ (plan_at_once files dir None) (λ planned. ends_once _)
command_once (pair dir group) files = then_once _ _ (pair_once files dir group) (λ job. ends_once _)
command_once (node dir name) files = then_once _ _ (node_once files dir name) (λ job. ends_once _)
command_once (sample count) files = ends_once _
command_once (audit dir) files = then_once _ _ (audit_once files dir) (λ count. ends_once _)

pub due_once : (command : Option CommandForm) (files : Contents) → EndsOnce (IsDue command (Some files))
due_once None files = ends_once _
due_once (Some (sample count)) files = command_once (sample count) (λ name. None)
due_once (Some (run dir workers view)) files = command_once (run dir workers view) files
due_once (Some (check dir)) files = command_once (check dir) files
due_once (Some (pair dir group)) files = command_once (pair dir group) files
due_once (Some (node dir name)) files = command_once (node dir name) files
due_once (Some (audit dir)) files = command_once (audit dir) files
