-- That the view of a tolerated group hides the inputs of all others.
use Rattle.std.proofs.Common.{ℕ, Bool, List, ◌++◌, Option, None, Some, Ok, Vec, sym, subst}
use Rattle.std.specs.Prelude.{IfSome}
use Rattle.std.specs.declared.alloc.Global.{Global}
use Rattle.outer_io.specs.Files.{FilesReading, Told}
use Rattle.command_words.specs.Commands.{run}
use Rattle.party_set.specs.Parties.{Members}
use Rattle.party_file.specs.declared.data.PartyData.{PartyData}
use Rattle.share_world.specs.Worlds.{World}
use Rattle.share_world.specs.Laws.{IsWhole}
use Rattle.tape_map.proofs.SeenWords.{same_view}
use Rattle.output_text.specs.OutText.{out_text}
use Rattle.view_text.specs.ViewText.{view_text}
use Rattle.output_text.specs.RunText.{run_text}
use Rattle.job_walk.specs.declared.plan.Planned as code
use Rattle.job_walk.specs.Verdict.{accepted}
use Rattle.mpc_top.specs.WholeJobs.{WholeJob, JobAt}
use Rattle.job_walk.specs.Reads.{ReadsAs}
use Rattle.mpc_top.specs.HiddenInputs.{Hides, CommandHides}
use Rattle.mpc_top.proofs.Jobs.{job_seen}

module _ (Written : List ℕ → Type 0) where
  -- the text of a run over a whole world hides them
  hidden : (names : List (List ℕ)) (numeric : List Bool) (w : World) (group : Option Members) → IsWhole w → Written (run_text names numeric w group)
      → Hides (record { names = names; group = group; numeric = numeric; world = w }) Written
  unfolding run_text
  hidden names numeric w None whole text = tt
  hidden names numeric w (Some group) whole text = λ other alike.
      subst (λ seen. Written (out_text names numeric w ++ view_text names group.mask seen))
      (sym (same_view w other group.mask (record { whole = whole; others = alike.inputs; tolerated = alike.tolerated; agree = alike.agree })))
      text

  told_hides : (dir : List ℕ) (workers : ℕ) (asked : Option (List ℕ)) (job : WholeJob) (told : Told) → IfSome told (λ m. JobAt m dir asked (accepted job)) → Hides job Written
      → CommandHides (Some (run dir workers asked)) told Written
  told_hides dir workers asked job None is hides = tt
  told_hides dir workers asked job (Some files) is hides = (job, is, hides)

  pub run_hides : (dir : List ℕ) (workers : ℕ) (asked : Option (List ℕ)) (planned : code.Planned) (parties : Vec PartyData Global) {dir' : List ℕ} {xs : List (List ℕ)} (before after : FilesReading)
      → IsWhole (job_seen planned parties).world → ReadsAs dir' xs (job_seen planned) (λ m. JobAt m dir asked) before after (Ok parties)
      → Written (run_text planned.names planned.numeric.items (job_seen planned parties).world planned.group) → CommandHides (Some (run dir workers asked)) before.told Written
  run_hides dir workers asked planned parties before after whole read text =
      told_hides dir workers asked (job_seen planned parties) before.told read.ok (hidden planned.names planned.numeric.items (job_seen planned parties).world planned.group whole text)
