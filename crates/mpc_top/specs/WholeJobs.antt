-- The runs that files stand for, where they tell what they hold: a job with what all its parties give,
-- and other inputs.
use Rattle.std.specs.Prelude.{ℕ, Bool, List, [], Option, None, Some}
use Rattle.party_set.specs.Parties.{Members}
use Rattle.plan_model.specs.Plans.{Plan}
use Rattle.party_file.specs.Table.{PartyForm}
use Rattle.other_file.specs.Table.{other_in}
use Rattle.share_world.specs.Worlds.{World}
use Rattle.tape_map.specs.TapeMaps.{second_world}
use Rattle.tape_map.specs.MapFaults.{map_fault}
use Rattle.job_run.specs.Parties.{world_of}
use Rattle.refusal_text.specs.Lines.{other_line, pair_line}
use Rattle.job_walk.specs.Names as file_names
use Rattle.job_walk.specs.Verdict.{Verdict, accepted, Ends, Then, verdict_of, unless}
use Rattle.job_walk.specs.JobOf.{Contents, Planned, file_at, PlanAt, PartiesAfter}
use Rattle.plan_model.specs.InputWords.{InputLists}

-- the names of the parties, the group that is asked for, of which sessions the words are numbers, and the world
pub record WholeJob : Type 0 where
  pub names : List (List ℕ)
  pub group : Option Members
  pub numeric : List Bool
  pub world : World

abbrev pub whole_job : Planned → List PartyForm → WholeJob
whole_job planned parties =
    record {
      names = planned.names;
      group = planned.group;
      numeric = planned.numeric;
      world = world_of planned.plan parties;
    }

-- the job of a folder, and the group that a text asks for
unfoldable pub JobAt : Contents → List ℕ → Option (List ℕ) → Verdict WholeJob → Type 0
JobAt files dir asked =
    Then (PlanAt files dir asked) (λ planned.
    Then (PartiesAfter files dir planned.numeric planned.plan [] planned.names) (λ parties.
    Ends (accepted (whole_job planned parties))))

-- ---- a pair of runs

-- the inputs that a folder gives beside those of its job
unfoldable pub OtherAt :
    Contents → List ℕ → List Bool → Plan → List (List ℕ) → InputLists → Verdict InputLists → Type 0
OtherAt files dir numeric plan names inputs =
    Then (Ends (file_at files dir file_names.other_file)) (λ bytes.
    Ends (verdict_of (other_line names) (other_in numeric plan names inputs bytes)))

-- a job, and other inputs that can be hidden from the group of this mask
pub record PairedJob : Type 0 where
  pub names : List (List ℕ)
  pub group : ℕ
  pub numeric : List Bool
  pub first : World
  pub other : InputLists

-- the world of the other inputs, in which the group sees what it saw
abbrev pub second_of : PairedJob → World
second_of job = second_world job.first job.other job.group

-- the mask of a group; where none is asked for it is the empty group, of mask 0
abbrev pub mask_of : Option Members → ℕ
mask_of None = 0
mask_of (Some group) = group.mask

abbrev pub paired_job : WholeJob → InputLists → PairedJob
paired_job job other =
    record {
      names = job.names;
      group = mask_of job.group;
      numeric = job.numeric;
      first = job.world;
      other = other;
    }

-- these inputs, where they can be hidden from the group
abbrev pub hidden_of : WholeJob → InputLists → Verdict PairedJob
hidden_of job other =
    unless (map_fault job.world other (mask_of job.group)) (pair_line job.names) (paired_job job other)

-- the job of a folder, and its other inputs, which are to be hidden from the group that a text asks for
unfoldable pub PairAt : Contents → List ℕ → List ℕ → Verdict PairedJob → Type 0
PairAt files dir asked =
    Then (JobAt files dir (Some asked)) (λ job.
    Then (OtherAt files dir job.numeric job.world.plan job.names job.world.inputs) (λ other.
    Ends (hidden_of job other)))
