-- An audit that was read, step by step.
use Rattle.std.proofs.Common.{ℕ, List, [], ◌∷◌, ◌++◌, None, Result, Ok, Err, Vec}
use Rattle.std.specs.declared.alloc.Global.{Global}
use Rattle.outer_io.specs.Files.{FilesReading}
use Rattle.command_words.specs.Commands.{audit}
use Rattle.party_file.specs.declared.data.PartyData.{PartyData}
use Rattle.share_world.specs.Worlds.{view}
use Rattle.output_text.specs.AuditText.{yes_text}
use Rattle.job_walk.specs.declared.plan.Planned as code
use Rattle.job_walk.specs.declared.stop.Stop.{Stop}
use Rattle.job_walk.specs.Names.{view_file}
use Rattle.job_walk.specs.Verdict.{Verdict, Ends}
use Rattle.job_walk.specs.JobOf.{PlanAt, PartiesAfter, file_at}
use Rattle.job_walk.specs.Seen.{planned_view}
use Rattle.job_walk.specs.Reads.{ReadsAs, WalksAs}
use Rattle.mpc_top.specs.WholeJobs.{WholeJob}
use Rattle.mpc_top.specs.Audits.{Judged, AuditAt}
use Rattle.mpc_top.specs.Seen.{parties_view}
use Rattle.mpc_top.specs.Due.{DueOf}
use Rattle.job_walk.specs.FilesAsked.{party_files}
use Rattle.job_walk.proofs.Steps.{reads_stop, reads_then, reads_on, reads_walk, reads_end}
use Rattle.mpc_top.proofs.Runs.{as_text}
use Rattle.mpc_top.proofs.Jobs.{job_seen, job_stops, job_stops_later, job_read}

abbrev counted : ℕ → ℕ
counted count = count

-- the bytes that were read
abbrev pub text_seen : Vec ℕ Global → List ℕ
text_seen text = text.items

-- ---- the steps

module _ (dir : List ℕ) where
  -- no view could be judged
  audit_stops : {xs : List (List ℕ)} (before after : FilesReading) (stop : Stop) → ReadsAs dir xs counted (λ m. AuditAt m dir) before after (Err stop) → ReadsAs dir xs as_text (DueOf (audit dir)) before after (Err stop)
  unfolding DueOf
  audit_stops before after stop r = reads_stop _ _ counted as_text before after stop r

  -- the plan could not be read
  pub plan_stops : {xs : List (List ℕ)} (before after : FilesReading) (stop : Stop) → ReadsAs {C = code.Planned} dir xs planned_view (λ m. PlanAt m dir None) before after (Err stop) → ReadsAs dir xs as_text (DueOf (audit dir)) before after (Err stop)
  unfolding AuditAt
  plan_stops before after stop r = audit_stops before after stop (reads_stop _ _ (λ job. job) counted before after stop (job_stops dir None before after stop r))

  module _ (planned : code.Planned) (before mid : FilesReading) {xs : List (List ℕ)} (read : ReadsAs dir xs planned_view (λ m. PlanAt m dir None) before mid (Ok planned)) where
    abbrev NamedParties : FilesReading → Result (Vec PartyData Global) Stop → Type 0
    NamedParties after result = ReadsAs dir (party_files planned.names) parties_view (λ m. PartiesAfter m dir planned.numeric.items planned.plan [] planned.names) mid after result

    -- a party's file could not be read
    pub parties_stop : (after : FilesReading) (stop : Stop) → NamedParties after (Err stop) → ReadsAs dir (xs ++ party_files planned.names) as_text (DueOf (audit dir)) before after (Err stop)
    unfolding AuditAt
    parties_stop after stop r = audit_stops before after stop (reads_stop _ _ (job_seen planned) counted before after stop (job_stops_later dir None planned before mid after read stop r))

    module _ (after : FilesReading) (parties : Vec PartyData Global) (given : NamedParties after (Ok parties)) where
      abbrev job : WholeJob
      job = job_seen planned parties

      -- the files of the job, and the file of the view
      abbrev all_files : List (List ℕ)
      all_files = (xs ++ party_files planned.names) ++ (view_file ∷ [])

      abbrev ReadsText : FilesReading → Result (Vec ℕ Global) Stop → Type 0
      ReadsText last result = ReadsAs dir (view_file ∷ []) text_seen (λ m. Ends (file_at m dir view_file)) after last result

      -- the text could not be read
      pub text_stops : (last : FilesReading) (stop : Stop) → ReadsText last (Err stop) → ReadsAs dir all_files as_text (DueOf (audit dir)) before last (Err stop)
      unfolding AuditAt
      text_stops last stop r =
          audit_stops before last stop (reads_then _ _ (job_seen planned) counted before after last parties (Err stop) (job_read dir None planned before mid after read parties given)
          (reads_stop _ _ text_seen counted after last stop r))

      module _ (last : FilesReading) (text : Vec ℕ Global) (found : ReadsText last (Ok text)) where
        abbrev IsJudged : Result ℕ Stop → Type 0
        IsJudged result = WalksAs counted (Judged job.names (view job.world) text.items) result

        -- how it is judged decides
        audit_read : (result : Result ℕ Stop) → IsJudged result → ReadsAs dir all_files counted (λ m. AuditAt m dir) before last result
        unfolding AuditAt
        audit_read result w =
            reads_then _ _ (job_seen planned) counted before after last parties result (job_read dir None planned before mid after read parties given)
            (reads_then _ _ text_seen counted after last last text result found
            (reads_walk counted (Judged job.names (view job.world) text.items) last result w))

        pub judging_stops : (stop : Stop) → IsJudged (Err stop) → ReadsAs dir all_files as_text (DueOf (audit dir)) before last (Err stop)
        judging_stops stop w = audit_stops before last stop (audit_read (Err stop) w)

        pub yes_read : (count : ℕ) → IsJudged (Ok count) → ReadsAs dir all_files as_text (DueOf (audit dir)) before last (Ok (yes_text count))
        unfolding DueOf
        yes_read count w = reads_on _ _ counted as_text before last last count (Ok (yes_text count)) (audit_read (Ok count) w) (reads_end as_text last (yes_text count))
