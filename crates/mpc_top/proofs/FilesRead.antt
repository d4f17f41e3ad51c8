-- The files that a command had read.
use Rattle.std.proofs.Common.{◌≡◌, ℕ, List, [], ◌++◌, Option, None, Some, Result, Ok, false, sym, ap, subst, ◌∙◌, append_assoc}
use Rattle.std.specs.Prelude.{IfSome}
use Rattle.std.proofs.lemmas.List.{append-nil}
use Rattle.outer_io.specs.Files.{FilesReading}
use Rattle.job_file.specs.Forms.{JobForm}
use Rattle.job_walk.specs.declared.plan.Planned as code
use Rattle.job_walk.specs.declared.stop.Stop.{Stop}
use Rattle.job_walk.specs.FilesAsked.{HasJob, Asking, AsksFor, AsksPart, AsksAll, AsksFirst, files_or, plan_files, party_files}
use Rattle.job_walk.specs.Verdict.{Verdict}
use Rattle.job_walk.specs.JobOf.{Contents}
use Rattle.job_walk.specs.Reads.{ReadsAs}
use Rattle.job_walk.specs.JobReads.{ReadsPlan}
use Rattle.job_walk.proofs.Asks.{part_all, part_more}
use Rattle.mpc_top.specs.FilesDue.{job_asking, AsksForAll, AsksInOrder}

-- all is a first part
pub first_of_all : (asking : Option Asking) (before after : FilesReading) → AsksForAll asking before after → AsksInOrder asking before after
first_of_all None before after all = all
first_of_all (Some asking) before after (job, told, all) = (Some job, told, part_all asking.dir (asking.files job) before after all)

module _ (dir : List ℕ) (more : List (List ℕ)) (before after : FilesReading) where
  plan_or : (job : Option JobForm) → IfSome job (HasJob false before.told dir) → AsksPart dir (files_or plan_files job) before after → AsksFirst (job_asking dir more) before after
  plan_or None told asks = (None, tt, asks)
  plan_or (Some job) told asks = (Some job, told, part_more dir (plan_files job) (party_files job.names ++ more) before after asks)

  -- a plan that was to be read
  pub plan_first : (asked : Option (List ℕ)) (result : Result code.Planned Stop) → ReadsPlan dir asked before after result → AsksFirst (job_asking dir more) before after
  plan_first asked result r = plan_or r.job r.is_told r.reads.asks

-- the files of the parties of the job, and what comes after them
files_are : (job : JobForm) (names more : List (List ℕ)) → job.names ≡ names → (plan_files job ++ party_files names) ++ more ≡ plan_files job ++ (party_files job.names ++ more)
files_are job names more same = append_assoc (plan_files job) (party_files names) more ∙ ap (λ ns. plan_files job ++ (party_files ns ++ more)) (sym same)

module _ {A C : Type 0} {seen : C → A} {walk : Contents → Verdict A → Type 0} {before after : FilesReading} (dir : List ℕ) (more : List (List ℕ)) (job : JobForm) (told : HasJob false before.told dir job) (names : List (List ℕ)) (same : job.names ≡ names) where
  pub first_more : (result : Result C Stop) → ReadsAs dir ((plan_files job ++ party_files names) ++ more) seen walk before after result → AsksFirst (job_asking dir more) before after
  first_more result r = (Some job, told, subst (λ files. AsksPart dir files before after) (files_are job names more same) r.asks)

  pub first_parties : (result : Result C Stop) → ReadsAs dir (plan_files job ++ party_files names) seen walk before after result → AsksFirst (job_asking dir more) before after
  first_parties result r = (Some job, told, subst (λ files. AsksPart dir files before after) (files_are job names more same) (part_more dir (plan_files job ++ party_files names) more before after r.asks))

  pub all_more : (c : C) → ReadsAs dir ((plan_files job ++ party_files names) ++ more) seen walk before after (Ok c) → AsksAll (job_asking dir more) before after
  all_more c r = (job, told, subst (λ files. AsksFor dir files before after) (files_are job names more same) r.asks_all)

-- the same where nothing comes after them
pub all_parties : {A C : Type 0} {seen : C → A} {walk : Contents → Verdict A → Type 0} {before after : FilesReading} (dir : List ℕ) (job : JobForm) (told : HasJob false before.told dir job) (names : List (List ℕ)) → job.names ≡ names
    → (c : C) → ReadsAs dir (plan_files job ++ party_files names) seen walk before after (Ok c) → AsksAll (job_asking dir []) before after
all_parties {A} {C} {seen} {walk} {before} {after} dir job told names same c r =
    (job, told, subst (λ files. AsksFor dir files before after) (ap (λ ns. plan_files job ++ party_files ns) (sym same) ∙ ap (λ files. plan_files job ++ files) (sym (append-nil (party_files job.names)))) r.asks_all)
