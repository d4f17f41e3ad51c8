-- A pair of runs that was read, step by step, and that it hides what it is to hide.
use Rattle.std.proofs.Common.{◌≡◌, ℕ, List, [], ◌∷◌, ◌++◌, None, Some, Result, Ok, Err, Vec, subst}
use Rattle.std.specs.Prelude.{IfSome}
use Rattle.std.specs.declared.alloc.Global.{Global}
use Rattle.outer_io.specs.Files.{FilesReading, Told}
use Rattle.command_words.specs.Commands.{pair}
use Rattle.party_file.specs.declared.data.PartyData.{PartyData}
use Rattle.share_world.specs.Worlds.{view}
use Rattle.tape_map.specs.Laws.{CanHide}
use Rattle.tape_map.proofs.SeenWords.{same_view}
use Rattle.output_text.specs.PairText.{pair_text, pair_seen}
use Rattle.job_walk.specs.declared.plan.Planned as code
use Rattle.job_walk.specs.declared.stop.Stop.{Stop}
use Rattle.job_walk.specs.Verdict.{Ends, accepted}
use Rattle.job_walk.specs.JobOf.{PlanAt, PartiesAfter}
use Rattle.mpc_top.specs.WholeJobs.{PairedJob, paired_job, second_of, hidden_of, OtherAt, PairAt}
use Rattle.job_walk.specs.Seen.{planned_view}
use Rattle.mpc_top.specs.Seen.{parties_view}
use Rattle.job_walk.specs.Reads.{ReadsAs, WalksAs}
use Rattle.mpc_top.specs.Due.{DueOf}
use Rattle.mpc_top.specs.HiddenInputs.{same_seen, HidesPair, CommandHides}
use Rattle.job_walk.specs.Names.{other_file}
use Rattle.job_walk.specs.FilesAsked.{party_files}
use Rattle.job_walk.proofs.Steps.{reads_stop, reads_then, reads_on, reads_walk, reads_end}
use Rattle.mpc_top.proofs.Runs.{as_text}
use Rattle.mpc_top.proofs.Jobs.{job_seen, job_stops, job_stops_later, job_read}

abbrev paired : PairedJob → PairedJob
paired job = job

module _ (dir group : List ℕ) where
  -- no pair could be read
  pair_stops : {xs : List (List ℕ)} (before after : FilesReading) (stop : Stop) → ReadsAs dir xs paired (λ m. PairAt m dir group) before after (Err stop) → ReadsAs dir xs as_text (DueOf (pair dir group)) before after (Err stop)
  unfolding DueOf
  pair_stops before after stop r = reads_stop _ _ paired as_text before after stop r

  -- the plan could not be read
  pub plan_stops : {xs : List (List ℕ)} (before after : FilesReading) (stop : Stop) → ReadsAs {C = code.Planned} dir xs planned_view (λ m. PlanAt m dir (Some group)) before after (Err stop) → ReadsAs dir xs as_text (DueOf (pair dir group)) before after (Err stop)
  unfolding PairAt
  plan_stops before after stop r = pair_stops before after stop (reads_stop _ _ (λ job. job) paired before after stop (job_stops dir (Some group) before after stop r))

  module _ (planned : code.Planned) (before mid : FilesReading) {xs : List (List ℕ)} (read : ReadsAs dir xs planned_view (λ m. PlanAt m dir (Some group)) before mid (Ok planned)) where
    abbrev NamedParties : FilesReading → Result (Vec PartyData Global) Stop → Type 0
    NamedParties after result = ReadsAs dir (party_files planned.names) parties_view (λ m. PartiesAfter m dir planned.numeric.items planned.plan [] planned.names) mid after result

    -- a party's file could not be read
    pub parties_stop : (after : FilesReading) (stop : Stop) → NamedParties after (Err stop) → ReadsAs dir (xs ++ party_files planned.names) as_text (DueOf (pair dir group)) before after (Err stop)
    unfolding PairAt
    parties_stop after stop r = pair_stops before after stop (reads_stop _ _ (job_seen planned) paired before after stop (job_stops_later dir (Some group) planned before mid after read stop r))

    module _ (after : FilesReading) (parties : Vec PartyData Global) (given : NamedParties after (Ok parties)) (inputs : List (List (List ℕ))) (are : inputs ≡ (job_seen planned parties).world.inputs) where
      -- the files of the job, and the file of other inputs
      abbrev all_files : List (List ℕ)
      all_files = (xs ++ party_files planned.names) ++ (other_file ∷ [])

      abbrev ReadsOther : FilesReading → Result (List (List (List ℕ))) Stop → Type 0
      ReadsOther last result = ReadsAs dir (other_file ∷ []) (λ (other : List (List (List ℕ))). other) (λ m. OtherAt m dir planned.numeric.items planned.plan planned.names inputs) after last result

      own_inputs : (last : FilesReading) (result : Result (List (List (List ℕ))) Stop) → ReadsOther last result
          → ReadsAs dir (other_file ∷ []) (λ (other : List (List (List ℕ))). other) (λ m. OtherAt m dir planned.numeric.items planned.plan planned.names (job_seen planned parties).world.inputs) after last result
      own_inputs last result r = subst (λ given. ReadsAs dir (other_file ∷ []) (λ (other : List (List (List ℕ))). other) (λ m. OtherAt m dir planned.numeric.items planned.plan planned.names given) after last result) are r

      -- the other inputs could not be read
      pub other_stops : (last : FilesReading) (stop : Stop) → ReadsOther last (Err stop) → ReadsAs dir all_files as_text (DueOf (pair dir group)) before last (Err stop)
      unfolding PairAt
      other_stops last stop r =
          pair_stops before last stop (reads_then _ _ (job_seen planned) paired before after last parties (Err stop) (job_read dir (Some group) planned before mid after read parties given)
          (reads_stop _ _ (λ other. other) paired after last stop (own_inputs last (Err stop) r)))

      module _ (last : FilesReading) (other : List (List (List ℕ))) (others : ReadsOther last (Ok other)) where
        abbrev job : PairedJob
        job = paired_job (job_seen planned parties) other

        module _ {C : Type 0} where
          -- whether they can be hidden decides
          pub pair_read : (result : Result C Stop) → WalksAs (λ (c : C). job) (Ends (hidden_of (job_seen planned parties) other)) result → ReadsAs dir all_files (λ (c : C). job) (λ m. PairAt m dir group) before last result
          unfolding PairAt
          pair_read result w =
              reads_then _ _ (job_seen planned) (λ (c : C). job) before after last parties result (job_read dir (Some group) planned before mid after read parties given)
              (reads_then _ _ (λ other. other) (λ (c : C). job) after last last other result (own_inputs last (Ok other) others)
              (reads_walk (λ (c : C). job) (Ends (hidden_of (job_seen planned parties) other)) last result w))

          pub hiding_stops : (stop : Stop) → WalksAs (λ (c : C). job) (Ends (hidden_of (job_seen planned parties) other)) (Err stop) → ReadsAs dir all_files as_text (DueOf (pair dir group)) before last (Err stop)
          unfolding DueOf
          hiding_stops stop w = reads_stop _ _ (λ (c : C). job) as_text before last stop (pair_read (Err stop) w)

          -- the text of a pair that was read
          pub text_read : (c : C) → WalksAs (λ (c : C). job) (Ends (hidden_of (job_seen planned parties) other)) (Ok c)
              → ReadsAs dir all_files as_text (DueOf (pair dir group)) before last (Ok (pair_text job.names job.numeric job.first (second_of job) job.group))
          unfolding DueOf
          text_read c w =
              let text = pair_text job.names job.numeric job.first (second_of job) job.group in
              reads_on _ _ (λ (c : C). job) as_text before last last c (Ok text) (pair_read (Ok c) w) (reads_end as_text last text)

module _ (Written : List ℕ → Type 0) where
  -- the group sees the same twice
  twice : (job : PairedJob) → CanHide job.first job.other job.group → Written (pair_text job.names job.numeric job.first (second_of job) job.group) → Written (same_seen job)
  unfolding pair_text
  twice job can text =
      subst (λ seen. Written (pair_seen job.names job.numeric job.first (second_of job) job.group (view job.first job.group) seen)) (same_view job.first job.other job.group can) text

  told_hides : (dir group : List ℕ) (job : PairedJob) (told : Told) → IfSome told (λ m. PairAt m dir group (accepted job)) → HidesPair job Written → CommandHides (Some (pair dir group)) told Written
  told_hides dir group paired None is hides = tt
  told_hides dir group paired (Some files) is hides = (paired, is, hides)

  pub pair_hides : {C : Type 0} (dir group : List ℕ) (job : PairedJob) {xs : List (List ℕ)} (before after : FilesReading) (c : C) → ReadsAs dir xs (λ (c : C). job) (λ m. PairAt m dir group) before after (Ok c)
      → CanHide job.first job.other job.group → Written (pair_text job.names job.numeric job.first (second_of job) job.group) → CommandHides (Some (pair dir group)) before.told Written
  pair_hides dir group job before after c read can text = told_hides dir group job before.told read.ok (record { can = can; same = twice job can text })
