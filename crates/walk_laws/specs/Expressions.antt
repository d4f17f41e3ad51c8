-- What a run writes for a session of expressions.
use Rattle.std.specs.Prelude.{◌≡◌, ℕ, ◌^◌, ◌<◌, Bool, false, List, [], ◌∷◌, length, Option, Some, slice_index, slice_get}
use Rattle.plan_model.specs.Plans.{session}
use Rattle.job_file.specs.Forms.{JobForm, SessionForm}
use Rattle.job_file.specs.declared.layout.SessionLayout.TheVariants.{Expressions}
use Rattle.expr_circuit.specs.Programs.{Statement, program_value}
use Rattle.expr_circuit.specs.Laws.{IsProgram}
use Rattle.share_world.specs.Worlds.{World, first_values, plain}
use Rattle.output_text.specs.OutText.{value_words}
use Rattle.job_walk.specs.Names.{path_of}
use Rattle.job_walk.specs.Verdict.{accepted}
use Rattle.job_walk.specs.JobOf.{Contents, JobText}
use Rattle.mpc_top.specs.WholeJobs.{WholeJob, JobAt}

-- the file of a session is this program
pub record IsProgramOf (files : Contents) (dir : List ℕ) (bits : ℕ) (form : SessionForm) (p : List Statement)
    : Type 0 where
  pub text : List ℕ
  pub file : files (path_of dir form.circuit) ≡ Some text
  pub is : IsProgram bits text p

-- session s has an output value for each of these, of which that number alone is written
pub record WritesValues (numeric : List Bool) (w : World) (s : ℕ) (values : List ℕ) : Type 0 where
  pub count : length (session w.plan s).outputs ≡ length values
  pub words : (v : ℕ) → v < length values → value_words numeric w s v ≡ slice_index values v ∷ []

-- Of a job whose files are accepted, each session of expressions has a program for its file, and the words that a run
-- writes are the values of the program's output lines at those of its input wires: the inputs of the files, or the
-- values of the wires that it carries.
abbrev pub RunsWriteValues : Type 0
RunsWriteValues =
    (files : Contents) (dir : List ℕ) (asked : Option (List ℕ)) (job : JobForm) (whole : WholeJob)
    → JobText false files dir (accepted job) → JobAt files dir asked (accepted whole)
    → (s : ℕ) (form : SessionForm) → slice_get job.sessions s ≡ Some form → form.layout ≡ Expressions
    → (p : List Statement) × IsProgramOf files dir job.bits form p
    × WritesValues whole.numeric whole.world s
    (program_value (2 ^ job.bits) p (first_values whole.world (plain whole.world) s))
