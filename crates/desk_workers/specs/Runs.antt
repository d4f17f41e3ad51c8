-- A run of workers: before it, and after it.
use Rattle.std.specs.Prelude.{true, ◌≡◌, ℕ, ◌+◌, ◌*◌, ◌<◌, ◌≤◌, [], length, slice_get, Option, Some, IsSomeAnd, vec_capacity}
use Rattle.list_laws.specs.Lists.{total}
use Rattle.session_slots.specs.Sessions.{readers, output_wire}
use Rattle.plan_model.specs.Plans.{Plan, session, reads}
use Rattle.plan_model.specs.Messages.{messages}
use Rattle.plan_model.specs.Numbers.{message}
use Rattle.share_world.specs.Laws.{IsWhole}
use Rattle.share_world.specs.Worlds.{World, word, plain}
use Rattle.message_board.specs.Plain.{plain_cell}
use Rattle.message_board.specs.Seats.{AreNewSeats, slots_of}
use Rattle.party_desk.specs.declared.desk.Desk.{Desk}
use Rattle.program_laws.specs.Lawful.{program_of}
use Rattle.desk_laws.specs.InWorld.{IsDeskDone}
use Rattle.desk_workers.specs.declared.ready.Ready.{Ready}
use Rattle.desk_workers.specs.declared.done.Done.{Done}
use Rattle.desk_workers.specs.Promises.{world_in}

-- how many instructions all programs of the world have
abbrev pub instructions_of : World → ℕ
instructions_of w = total (w.plan.parties * length w.plan.sessions) (λ k. length (program_of w k))

-- all that a run in the world needs: desks at home in slots, a seat for each worker, and room for what comes after
pub record IsReady (w : World) (ready : Ready) : Type 0 where
  pub world : world_in ready.rack.about.world ≡ w
  pub whole : IsWhole w
  pub parties : ready.parties ≡ w.plan.parties
  pub slots : slots_of ready.rack.id ≡ w.plan.parties * length w.plan.sessions
  pub some : 0 < length ready.seats.items
  pub all : length ready.seats.items ≡ ready.rack.about.seats
  pub new : AreNewSeats ready.rack ready.seats.items
  pub instructions : ready.instructions ≡ instructions_of w
  pub no_desk : ready.desks.items ≡ []
  pub room : slots_of ready.rack.id ≤ vec_capacity ready.desks
  pub no_seat : ready.last.items ≡ []
  pub last : 0 < vec_capacity ready.last

-- the desk of party p in session s
abbrev pub desk_of : Done → ℕ → ℕ → Option Desk
desk_of done s p = slice_get done.desks.items (s * done.parties + p)

-- the run is over: each cell has the word of its message, each desk has all outputs that its party reads and has drawn
-- all words of its piece, and the desks moved as often as all programs have instructions
pub record IsOver (w : World) (done : Done) : Type 0 where
  pub parties : done.parties ≡ w.plan.parties
  pub count : length done.desks.items ≡ w.plan.parties * length w.plan.sessions
  pub desks : (s p : ℕ) → s < length w.plan.sessions → p < w.plan.parties
      → IsSomeAnd (desk_of done s p) (IsDeskDone w s p)
  pub all_cells : length done.cells ≡ length (messages w.plan)
  pub cells : (n : ℕ) → n < length (messages w.plan) → plain_cell done.cells n ≡ Some (word w (message w.plan n))
  pub steps : done.steps ≡ instructions_of w

-- party p reads output wire o of session s
pub record Opens (w : World) (s o p : ℕ) : Type 0 where
  pub in_session : s < length w.plan.sessions
  pub in_party : p < w.plan.parties
  pub is_output : o < length (readers (session w.plan s))
  pub is_read : reads w.plan p s o ≡ true

-- the run of a world of this plan is over
abbrev pub IsRunOver : Plan → Done → Type 0
IsRunOver plan o = (w : World) × (w.plan ≡ plan) × IsOver w o

-- this holds of each world of this plan whose run is over so
abbrev pub OfItsWorld : Plan → Done → (World → Type 0) → Type 0
OfItsWorld plan o Holds = (w : World) → w.plan ≡ plan → IsOver w o → Holds w

-- the plain value of an output wire
abbrev pub plain_output : World → ℕ → ℕ → ℕ
plain_output w s o = plain w s (output_wire (session w.plan s) o)
