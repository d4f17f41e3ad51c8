-- Jobs that are done beside their caller: what a spawner shows, and what a start does.
use Rattle.std.specs.Prelude.{◌≡◌, ℕ, ◌≤◌, Bool, IsTrue, ◌⊎◌, Result, IfOk, IfErr, IsOk, OnOk, OnErr}
use Rattle.outer_io.specs.Count.{Rose}

-- what a spawner shows
pub record SpawnerReading : Type 0 where
  -- how many starts it has refused
  pub refusals : ℕ
  -- it refuses none of the coming starts
  pub steady : Bool

-- What starting a job does, where `worked` says how its work changes a job, and `may_end` how a started job may end.
pub record Starts {Job Started : Type 0} (worked : Job → Job → Type 0) (may_end : Started → Job → Type 0) (job : Job)
    (before after : SpawnerReading) (result : Result Started Job) : Type 0 where
  -- however it ends, it is the job as its work left it
  pub started : IfOk result (λ started. (end : Job) → may_end started end → worked job end)
  -- it is this job that is handed back, as it was or as its work left it
  pub handed_back : IfErr result (λ back. (back ≡ job) ⊎ worked job back)
  -- a job is handed back only where the count of refusals rose, and otherwise that count stays
  pub refused : OnErr result (Rose before.refusals after.refusals)
  pub quiet : OnOk result (after.refusals ≡ before.refusals)
  pub refusals_grow : before.refusals ≤ after.refusals
  -- a steady spawner stays steady, and refuses no start
  pub keeps_steady : IsTrue before.steady → IsTrue after.steady
  pub by_itself : IsTrue before.steady → IsOk result
