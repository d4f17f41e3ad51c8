-- A job that was read, step by step.
use Rattle.std.proofs.Common.{ℕ, List, [], ◌++◌, Option, Ok, Err, Vec}
use Rattle.std.specs.declared.alloc.Global.{Global}
use Rattle.outer_io.specs.Files.{FilesReading}
use Rattle.party_file.specs.declared.data.PartyData.{PartyData}
use Rattle.job_walk.specs.declared.plan.Planned as code
use Rattle.job_walk.specs.declared.stop.Stop.{Stop}
use Rattle.job_walk.specs.JobOf.{PlanAt, PartiesAfter}
use Rattle.mpc_top.specs.WholeJobs.{WholeJob, whole_job, JobAt}
use Rattle.job_walk.specs.Seen.{planned_view}
use Rattle.mpc_top.specs.Seen.{parties_view}
use Rattle.job_walk.specs.Reads.{ReadsAs}
use Rattle.job_walk.specs.FilesAsked.{party_files}
use Rattle.job_walk.proofs.Steps.{reads_stop, reads_then, reads_on, reads_end}

-- the job of a plan and of what the parties give
abbrev pub job_seen : code.Planned → Vec PartyData Global → WholeJob
job_seen planned parties = whole_job (planned_view planned) (parties_view parties)

-- the plan could not be read
pub job_stops : (dir : List ℕ) (asked : Option (List ℕ)) {xs : List (List ℕ)} (before after : FilesReading) (stop : Stop)
    → ReadsAs {C = code.Planned} dir xs planned_view (λ m. PlanAt m dir asked) before after (Err stop) → ReadsAs {C = WholeJob} dir xs (λ job. job) (λ m. JobAt m dir asked) before after (Err stop)
unfolding JobAt
job_stops dir asked before after stop r = reads_stop _ _ planned_view (λ job. job) before after stop r

module _ (dir : List ℕ) (asked : Option (List ℕ)) (planned : code.Planned) (before mid after : FilesReading) {xs : List (List ℕ)} where
  module _ (read : ReadsAs dir xs planned_view (λ m. PlanAt m dir asked) before mid (Ok planned)) where
    -- a party's file could not be read
    pub job_stops_later : (stop : Stop) → ReadsAs dir (party_files planned.names) parties_view (λ m. PartiesAfter m dir planned.numeric.items planned.plan [] planned.names) mid after (Err stop)
        → ReadsAs dir (xs ++ party_files planned.names) (job_seen planned) (λ m. JobAt m dir asked) before after (Err stop)
    unfolding JobAt
    job_stops_later stop r = reads_then _ _ planned_view (job_seen planned) before mid after planned (Err stop) read (reads_stop _ _ parties_view (job_seen planned) mid after stop r)

    pub job_read : (parties : Vec PartyData Global) → ReadsAs dir (party_files planned.names) parties_view (λ m. PartiesAfter m dir planned.numeric.items planned.plan [] planned.names) mid after (Ok parties)
        → ReadsAs dir (xs ++ party_files planned.names) (job_seen planned) (λ m. JobAt m dir asked) before after (Ok parties)
    unfolding JobAt
    job_read parties r =
        reads_then _ _ planned_view (job_seen planned) before mid after planned (Ok parties) read (reads_on _ _ parties_view (job_seen planned) mid after after parties (Ok parties) r (reads_end (job_seen planned) after parties))
