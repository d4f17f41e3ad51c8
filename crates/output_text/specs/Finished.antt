-- Runs of which a text tells.
use Rattle.std.specs.Prelude.{◌≡◌, length}
use Rattle.desk_workers.specs.Runs.{IsRunOver, OfItsWorld}
use Rattle.share_world.specs.Worlds.{World}
use Rattle.output_text.specs.declared.finished_run.FinishedRun.{FinishedRun}

-- the names are those of the plan's parties, and the run is over
pub record IsFinished (run : FinishedRun) : Type 0 where
  pub names : length run.names.now ≡ run.plan.now.parties
  pub over : IsRunOver run.plan.now run.done.now

-- what holds of each world of which it is the run
abbrev pub OfRunsWorld : FinishedRun → (World → Type 0) → Type 0
OfRunsWorld run holds = OfItsWorld run.plan.now run.done.now holds
