-- The node that files stand for, where they tell what they hold: one party of a job, by itself.
use Rattle.std.specs.Prelude.{ℕ, Bool, true, false, List, [], ◌∷◌, map, Option, None, Some}
use Rattle.party_names.specs.Names.{party_named}
use Rattle.plan_model.specs.Plans.{Plan, plan_of}
use Rattle.session_slots.specs.Carries.{keeping}
use Rattle.job_file.specs.Forms.{JobForm, SessionForm}
use Rattle.frame_code.specs.declared.framing.FrameForm.{FrameForm}
use Rattle.frame_code.specs.declared.framing.FrameForm.TheVariants.{Named, Short}
use Rattle.job_digest.specs.Digests.{digest_of}
use Rattle.party_file.specs.Table.{PartyForm}
use Rattle.refusal_text.specs.Lines.{name_line}
use Rattle.job_walk.specs.Names.{job_file}
use Rattle.job_walk.specs.Verdict.{Verdict, accepted, refused, Ends, Then}
use Rattle.job_walk.specs.JobOf.{Contents, JobText, StructureOf, numeric_sessions, SessionsAfter, PlanOf, PartyAt}
use Rattle.job_walk.specs.FileLogs.{all_bytes_at}

-- the party of this name
abbrev pub party_of : Option ℕ → Verdict ℕ
party_of None = refused 3 name_line
party_of (Some me) = accepted me

-- the files of the sessions' circuits
abbrev pub circuit_files : JobForm → List (List ℕ)
circuit_files job = map (λ (session : SessionForm). session.circuit) job.sessions

-- the digest of a job: of its file, and of the circuit's file of each session
abbrev pub job_digest : Contents → List ℕ → JobForm → List ℕ
job_digest files dir job = digest_of (all_bytes_at files dir (job_file ∷ circuit_files job))

-- the form of frames between the nodes of a job that has short ones or not
abbrev pub frames_of : Bool → FrameForm
frames_of true = Short
frames_of false = Named

-- one party of a job: the names of all, where they are met, the form of their frames, whether each writes its own view,
-- which party it is, the plan, whether each session's words are numbers, what the party gives, and the digest of the
-- job
pub record NodeForm : Type 0 where
  pub names : List (List ℕ)
  pub hosts : List (List ℕ)
  pub port : ℕ
  pub form : FrameForm
  pub view : Bool
  pub me : ℕ
  pub plan : Plan
  pub numeric : List Bool
  pub given : PartyForm
  pub digest : List ℕ

-- the party of this name in the job of a folder; of the parties' files its own alone is read
unfoldable pub NodeAt : Contents → List ℕ → List ℕ → Verdict NodeForm → Type 0
NodeAt files dir name =
    Then (JobText true files dir) (λ job.
    Then (Ends (party_of (party_named job.names name))) (λ me.
    Then (StructureOf job) (λ groups.
    Then (SessionsAfter files dir job [] job.sessions) (λ sessions.
    Then (PlanOf job (plan_of job.bits groups (keeping sessions))) (λ plan.
    Then (PartyAt files dir (numeric_sessions job) plan me name) (λ given.
    Ends (accepted (record {
      names = job.names;
      hosts = job.hosts;
      port = job.port;
      form = frames_of job.short_frames;
      view = job.own_views;
      me = me;
      plan = plan;
      numeric = numeric_sessions job;
      given = given;
      digest = job_digest files dir job;
    }))))))))
