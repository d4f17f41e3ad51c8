-- What a step promises that reads the job's file, and then other files of that job.
use Rattle.std.specs.Prelude.{◌≡◌, ℕ, true, false, List, [], ◌∷◌, ◌++◌, Option, Some, IfSome, Result, IfOk}
use Rattle.outer_io.specs.Files.{FilesReading}
use Rattle.job_file.specs.Forms.{JobForm}
use Rattle.job_walk.specs.declared.node.NodeJob.{NodeJob}
use Rattle.job_walk.specs.declared.plan.Planned as code
use Rattle.job_walk.specs.declared.stop.Stop.{Stop}
use Rattle.job_walk.specs.Names.{party_file}
use Rattle.job_walk.specs.Verdict.{Verdict}
use Rattle.job_walk.specs.JobOf.{Contents, Planned, PlanAt}
use Rattle.job_walk.specs.NodeOf.{NodeForm, NodeAt}
use Rattle.job_walk.specs.FilesAsked.{HasJob, Asking, plan_files, files_or}
use Rattle.job_walk.specs.Reads.{ReadsAs}
use Rattle.job_walk.specs.Seen.{planned_view, node_view}

-- it reads as the walk does, asks for the files of the job that it reads, and gives the names of that job's parties
pub record ReadsJob {A C : Type 0} (asking : Asking) (names : A → List (List ℕ)) (seen : C → A)
    (walk : Contents → Verdict A → Type 0) (before after : FilesReading) (result : Result C Stop) : Type 0 where
  pub job : Option JobForm
  pub is_told : IfSome job (HasJob asking.node before.told asking.dir)
  pub reads : ReadsAs asking.dir (files_or asking.files job) seen walk before after result
  pub found : IfOk result (λ given. (j : JobForm) × (job ≡ Some j) × (j.names ≡ names (seen given)))

abbrev pub plan_asking : List ℕ → Asking
plan_asking dir = record { dir = dir; node = false; files = plan_files }

-- a node reads the file of its own party alone
abbrev pub node_asking : List ℕ → List ℕ → Asking
node_asking dir name =
    record { dir = dir; node = true; files = λ job. plan_files job ++ (party_file name ∷ []) }

-- a plan was read, with the group that a text asks for
abbrev pub ReadsPlan : List ℕ → Option (List ℕ) → FilesReading → FilesReading → Result code.Planned Stop → Type 0
ReadsPlan dir asked before after result =
    ReadsJob (plan_asking dir) (λ (plan : Planned). plan.names) planned_view
    (λ contents. PlanAt contents dir asked) before after result

-- a node was read, the party of this name
abbrev pub ReadsNode : List ℕ → List ℕ → FilesReading → FilesReading → Result NodeJob Stop → Type 0
ReadsNode dir name before after result =
    ReadsJob (node_asking dir name) (λ (node : NodeForm). node.names) node_view
    (λ contents. NodeAt contents dir name) before after result
