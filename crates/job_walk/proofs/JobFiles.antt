-- The files of a job that was read.
use Rattle.std.proofs.Common.{◌≡◌, ℕ, List, [], ◌∷◌, Bool, None, Some, Result, Ok, Err, refl, sym, ap, subst}
use Rattle.std.specs.Prelude.{IfSome, IfOk, IsErrAnd}
use Rattle.std.proofs.lemmas.Result.{err_from_is_err_and}
use Rattle.outer_io.specs.Files.{FilesReading, Told, IsContent}
use Rattle.job_file.specs.Forms.{JobForm}
use Rattle.job_file.specs.Faults.{job_in}
use Rattle.job_file.specs.Jobs.{job_view}
use Rattle.job_file.specs.declared.job.Job.{Job}
use Rattle.refusal_text.specs.Lines.{job_line}
use Rattle.job_walk.specs.declared.stop.Stop.{Stop}
use Rattle.job_walk.specs.Names.{job_file, path_of}
use Rattle.job_walk.specs.Verdict.{Verdict, accepted, missing, refused, Ends, verdict_of}
use Rattle.job_walk.specs.JobOf.{Contents, file_at}
use Rattle.job_walk.specs.FilesAsked.{HasJob, Asking, files_or}
use Rattle.job_walk.specs.Reads.{ReadsAs, WalksAs}
use Rattle.job_walk.specs.JobReads.{ReadsJob}
use Rattle.job_walk.proofs.Logs.{content_held}

-- a file that was read has these bytes
content_is : (told : Told) (dir name bytes : List ℕ) → IfSome told (λ m. accepted bytes ≡ file_at m dir name) → IsContent told (path_of dir name) bytes
unfolding file_at
content_is None dir name bytes is = tt
content_is (Some m) dir name bytes is = content_held (m (path_of dir name)) bytes name is

abbrev accepted_or : {A : Type 0} → A → Verdict A → A
accepted_or a (accepted b) = b
accepted_or a (missing name) = a
accepted_or a (refused status line) = a

abbrev IsAccepted : {A : Type 0} → Verdict A → Type 0
IsAccepted (accepted a) = Unit {0}
IsAccepted (missing name) = ⊥
IsAccepted (refused status line) = ⊥

-- a value that a verdict accepts
known : {A F : Type 0} (line : F → List ℕ) (a : A) (r : Result A F) → accepted a ≡ verdict_of line r → r ≡ Ok a
known line a (Ok b) is = ap Ok (sym (ap (accepted_or a) is))
known line a (Err fault) is = absurd (subst IsAccepted is tt)

-- the job that was read is told by its file
pub has_job : (node : Bool) (told : Told) (dir bytes shown : List ℕ) (job : Result Job Stop) → IfSome told (λ m. accepted bytes ≡ file_at m dir job_file) → shown ≡ bytes
    → WalksAs job_view (Ends (verdict_of job_line (job_in node shown))) job → IfOk job (λ j. HasJob node told dir (job_view j))
has_job node told dir bytes shown (Ok job) content same w =
    (bytes, content_is told dir job_file bytes content, subst (λ text. job_in node text ≡ Ok (job_view job)) same (known job_line (job_view job) (job_in node shown) w.ok))
has_job node told dir bytes shown (Err stop) content same w = tt

module _ {A C : Type 0} (asking : Asking) (names : A → List (List ℕ)) (seen : C → A) (walk : Contents → Verdict A → Type 0) (before after : FilesReading) where
  -- no job was read
  pub no_job : (stop : Stop) (result : Result C Stop) → IsErrAnd result (λ e. e ≡ stop) → ReadsAs asking.dir (job_file ∷ []) seen walk before after result → ReadsJob asking names seen walk before after result
  no_job stop result is r = record { job = None; is_told = tt; reads = r; found = (let p = err_from_is_err_and result is in rw p.1 tt) }

  module _ (job : JobForm) (is_told : HasJob asking.node before.told asking.dir job) where
    -- a job was read, and then there was a stop
    pub job_stopped : (stop : Stop) (result : Result C Stop) → IsErrAnd result (λ e. e ≡ stop) → ReadsAs asking.dir (asking.files job) seen walk before after result → ReadsJob asking names seen walk before after result
    job_stopped stop result is r = record { job = Some job; is_told = is_told; reads = r; found = (let p = err_from_is_err_and result is in rw p.1 tt) }

    pub job_given : (given : C) → job.names ≡ names (seen given) → ReadsAs asking.dir (asking.files job) seen walk before after (Ok given) → ReadsJob asking names seen walk before after (Ok given)
    job_given given same r = record { job = Some job; is_told = is_told; reads = r; found = (job, refl, same) }

  -- what was read of a job
  pub of_job : (given : C) → ReadsJob asking names seen walk before after (Ok given)
      → (job : JobForm) × HasJob asking.node before.told asking.dir job × (job.names ≡ names (seen given)) × ReadsAs asking.dir (asking.files job) seen walk before after (Ok given)
  of_job given r =
      let found = r.found in
      (found.0, subst (λ o. IfSome o (HasJob asking.node before.told asking.dir)) found.1 r.is_told, found.2, subst (λ o. ReadsAs asking.dir (files_or asking.files o) seen walk before after (Ok given)) found.1 r.reads)
