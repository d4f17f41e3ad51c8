-- What a tolerated group sees tells nothing of the inputs of all others.
use Rattle.std.specs.Prelude.{ℕ, List, Option, None, Some, IfSome}
use Rattle.outer_io.specs.Files.{Told}
use Rattle.command_words.specs.Commands.{CommandForm, run, check, pair, node, sample, audit}
use Rattle.party_set.specs.Parties.{Members}
use Rattle.maximal_groups.specs.Families.{LiesWithin}
use Rattle.plan_model.specs.Plans.{structure}
use Rattle.plan_model.specs.InputWords.{AreInputs, InputLists}
use Rattle.share_world.specs.Worlds.{World, view}
use Rattle.tape_map.specs.TapeMaps.{second_world}
use Rattle.tape_map.specs.Laws.{Agree, CanHide}
use Rattle.output_text.specs.RunText.{seen_text}
use Rattle.output_text.specs.PairText.{pair_seen}
use Rattle.job_walk.specs.Verdict.{accepted}
use Rattle.mpc_top.specs.WholeJobs.{WholeJob, PairedJob, second_of, JobAt, PairAt}

-- other inputs of the plan, with which the members of a tolerated group give and read what they did
pub record AreAlike (w : World) (group : ℕ) (other : InputLists) : Type 0 where
  pub inputs : AreInputs w.plan other
  pub tolerated : LiesWithin (structure w.plan) group
  pub agree : Agree w other group

-- ---- the view of one run

-- the outputs of a job, and then what the group sees in the second world of these inputs
abbrev pub other_text : WholeJob → ℕ → InputLists → List ℕ
other_text job group other =
    seen_text job.names job.numeric job.world group (view (second_world job.world other group) group)

-- whatever other inputs are alike to the group that was asked for, what was written has its view
-- in their second world
abbrev pub Hides : WholeJob → (List ℕ → Type 0) → Type 0
Hides job Written =
    IfSome job.group (λ (group : Members). (other : InputLists)
    → AreAlike job.world group.mask other → Written (other_text job group.mask other))

-- ---- the views of a pair

-- the text of a pair, where what the group sees of the first run is told of both
abbrev pub same_seen : PairedJob → List ℕ
same_seen job =
    let seen = view job.first job.group in
    pair_seen job.names job.numeric job.first (second_of job) job.group seen seen

-- the other inputs can be hidden from the group, and what was written tells the same view of both runs
pub record HidesPair (job : PairedJob) (Written : List ℕ → Type 0) : Type 0 where
  pub can : CanHide job.first job.other job.group
  pub same : Written (same_seen job)

-- ---- a command

-- that of the job which the files of a command stand for, where they tell
abbrev pub CommandHides : Option CommandForm → Told → (List ℕ → Type 0) → Type 0
CommandHides (Some (run dir workers view)) told Written =
    IfSome told (λ files. (job : WholeJob) × JobAt files dir view (accepted job) × Hides job Written)
CommandHides (Some (pair dir group)) told Written =
    IfSome told (λ files. (job : PairedJob) × PairAt files dir group (accepted job) × HidesPair job Written)
CommandHides (Some (check dir)) told Written = Unit {0}
CommandHides (Some (node dir name)) told Written = Unit {0}
CommandHides (Some (sample count)) told Written = Unit {0}
CommandHides (Some (audit dir)) told Written = Unit {0}
CommandHides None told Written = Unit {0}
