-- Desks and seats of a pool.
use Rattle.std.specs.Prelude.{◌≡◌, ℕ, ◌+◌, ◌*◌, ◌/◌, ◌%◌, List, length, All, Some, slice_get}
use Rattle.message_board.specs.Pairs.{Knows, Grows}
use Rattle.message_board.specs.Seats.{BoardModel, Sitting, IsFreeSeatOf, slots_of}
use Rattle.plan_model.specs.Plans.{Plan}
use Rattle.share_world.specs.Laws.{IsWhole}
use Rattle.share_world.specs.Worlds.{World}
use Rattle.party_desk.specs.declared.desk.Desk.{Desk}
use Rattle.party_desk.specs.Desks.{IsDesk}
use Rattle.program_laws.specs.Lawful.{given_to}
use Rattle.desk_laws.specs.InWorld.{HasPosts}
use Rattle.desk_laws.specs.Pools.{left, Stuck}
use Rattle.desk_workers.specs.declared.promised.Promised.{Promised}
use Rattle.desk_workers.specs.Promises.{world_in}

-- what the board is about is a world of this plan, and it has a slot for each desk
pub record IsPool (plan : Plan) (board : BoardModel Promised) : Type 0 where
  pub same : (world_in board.about.world).plan ≡ plan
  pub whole : IsWhole (world_in board.about.world)
  pub slots : slots_of board.id ≡ plan.parties * length plan.sessions

-- desk k stands where its program leaves it in the world, and these pairs have what it posted
pub record StandsInWorld (w : World) (seen : List (ℕ × ℕ)) (k : ℕ) (d : Desk) : Type 0 where
  pub desk : IsDesk (given_to w k) d
  pub posted : HasPosts (Knows seen) w (k / w.plan.parties) (k % w.plan.parties) d.position

-- as many steps as `moves` of desk k led from one desk and seat to another
pub record Leads (w : World) (k : ℕ) (seat : Sitting Promised) (d : Desk) (seat' : Sitting Promised) (d' : Desk)
    (moves : ℕ) : Type 0 where
  pub stands : StandsInWorld w seat'.view.seen k d'
  pub counts : moves + left d' ≡ left d
  pub still : moves ≡ 0 → d' ≡ d
  pub grows : Grows seat.view.seen seat'.view.seen
  pub seats : seat'.view.seats ≡ seat.view.seats
  pub out : seat'.view.out ≡ seat.view.out

-- of the board's world: a desk and a seat that knows what it posted, where `moves` steps led, and that the desk could
-- not move
abbrev pub IsDeskOf : BoardModel Promised → Sitting Promised → Desk → Type 0
IsDeskOf board seat d = (k : ℕ) × StandsInWorld (world_in board.about.world) seat.view.seen k d

-- as many steps as `moves` led from one to the other, of whichever desk of the world it is
abbrev pub LeadsOn : BoardModel Promised → Sitting Promised → Desk → Sitting Promised → Desk → ℕ → Type 0
LeadsOn board seat d seat' d' moves =
    (k : ℕ) → StandsInWorld (world_in board.about.world) seat.view.seen k d
    → Leads (world_in board.about.world) k seat d seat' d' moves

-- the desk could not move
abbrev pub IsStuck : BoardModel Promised → Sitting Promised → Desk → Type 0
IsStuck board seat d =
    (k : ℕ) → StandsInWorld (world_in board.about.world) seat.view.seen k d
    → Stuck (Knows seat.view.seen) (world_in board.about.world) k d.position

-- each desk stands where its program leaves it in the world, and these pairs have what they posted
abbrev pub AllStand : World → List (ℕ × ℕ) → List Desk → Type 0
AllStand w seen ds = (k : ℕ) (d : Desk) → slice_get ds k ≡ Some d → StandsInWorld w seen k d

-- each seat is one of the board's and holds no slot
abbrev pub AllFree : BoardModel Promised → List (Sitting Promised) → Type 0
AllFree board seats = All (IsFreeSeatOf board) seats

-- each stands for as many seats as before
abbrev pub SameSeatCounts : List (Sitting Promised) → List (Sitting Promised) → Type 0
SameSeatCounts seats seats' =
    (i : ℕ) (seat seat' : Sitting Promised) → slice_get seats i ≡ Some seat → slice_get seats' i ≡ Some seat'
    → seat'.view.seats ≡ seat.view.seats

-- how many seats a seat stands for
abbrev pub seats_in : Sitting Promised → ℕ
seats_in seat = seat.view.seats
