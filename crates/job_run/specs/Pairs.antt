-- The two runs of a pair, and the tapes that pieces make.
use Rattle.std.specs.Prelude.{◌≡◌, ℕ, List, [], length}
use Rattle.plan_model.specs.Plans.{Plan}
use Rattle.plan_model.specs.InputWords.{session_words, InputLists}
use Rattle.share_world.specs.Worlds.{World}
use Rattle.tape_map.specs.TapeMaps.{second_world}
use Rattle.tape_map.specs.Laws.{CanHide}
use Rattle.desk_laws.specs.Pieces.{world_of_pieces}
use Rattle.desk_workers.specs.Runs.{IsReady}
use Rattle.job_run.specs.declared.pair.Pair.{Pair}

-- the tapes of all parties, of which each is its pieces, session after session
abbrev pub tapes_in : Plan → List (List ℕ) → List (List ℕ)
tapes_in plan pieces = (world_of_pieces plan [] pieces).tapes

-- both worlds are ready, for one worker each: that of the job, and the second world of the other inputs, which are
-- hidden from the group
pub record IsPair (w : World) (other : InputLists) (group : ℕ) (pair : Pair) : Type 0 where
  pub hides : CanHide w other group
  pub first : IsReady w pair.first
  pub second : IsReady (second_world w other group) pair.second
  pub first_workers : length pair.first.seats.items ≡ 1
  pub second_workers : length pair.second.seats.items ≡ 1
  pub tapes : session_words pair.tapes.items ≡ (second_world w other group).tapes
