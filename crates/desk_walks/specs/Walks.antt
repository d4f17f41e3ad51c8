-- Instructions of a desk at gates, one after another, on a board.
use Rattle.std.specs.Prelude.{◌≡◌, ◌≢◌, ℕ, ◌+◌, ◌<◌, ◌≤◌, ◌&&◌, Bool, true, false, List, length, slice_get, Some}
use Rattle.circuit_model.specs.declared.gate.Gate.{Gate}
use Rattle.circuit_model.specs.Circuits.{is_product}
use Rattle.job_session.specs.Batches.{IsBatch}
use Rattle.session_slots.specs.Sessions.{Session, owners, gate, session_slot, session_slots}
use Rattle.session_slots.specs.Sessions.Slot.{At_gate}
use Rattle.plan_model.specs.declared.pattern.Pattern.{Pattern}
use Rattle.plan_model.specs.declared.pattern.Pattern.TheVariants.{Multiplied, Silent}
use Rattle.plan_model.specs.Plans.{Plan, scheme, session}
use Rattle.secret_sharing.specs.Schemes.{has_pair}
use Rattle.message_board.specs.Pairs.{Knows, Grows}
use Rattle.message_board.specs.Seats.{Sitting, AllBelow}
use Rattle.program_model.specs.declared.half.Half.{Half}
use Rattle.program_model.specs.declared.half.Half.TheVariants.{Head}
use Rattle.party_program.specs.declared.place.Place.{Place}
use Rattle.program_model.specs.declared.instruction.Instruction.{Instruction}
use Rattle.party_program.specs.declared.program.Program.{Program}
use Rattle.program_model.specs.declared.instruction.Instruction.TheVariants.{Linear, Own, Post, Sum, Take}
use Rattle.program_model.specs.Programs.{program, at}
use Rattle.party_program.specs.ProgramPlaces.{position_of, InProduct, IsPlace, IsProgram}
use Rattle.program_model.specs.States.{Given}
use Rattle.program_model.specs.Proper.{IsSlot, Multiplies}
use Rattle.party_desk.specs.declared.desk.Desk.{Desk}
use Rattle.party_desk.specs.declared.memory.Memory.{Memory}
use Rattle.party_desk.specs.Memories.{IsMemoryOf}
use Rattle.row_steps.specs.Rows.{gate_in, AreLinear}
use Rattle.party_desk.specs.Desks.{IsDesk, instruction_at}
use Rattle.party_desk.specs.Steps.{word_at}

-- the list has the word of each message that the party posts and takes, and each of its words is in the ring
pub record HasWords (given : Given) (list : List ℕ) : Type 0 where
  pub posts : (q n i : ℕ) → at (program given.plan given.party given.session) q ≡ Post n i
      → slice_get list n ≡ Some (word_at given q n i)
  pub takes : (q n i : ℕ) → at (program given.plan given.party given.session) q ≡ Take n i
      → slice_get list n ≡ Some (given.got n)
  pub below : AllBelow given.plan.bits list

-- the desk is one of this plan, and goes by what is given
pub record IsDeskOfPlan (plan : Plan) (given : Given) (d : Desk) : Type 0 where
  pub same : given.plan ≡ plan
  pub desk : IsDesk given d

-- the same, and a board promises its words
pub record MayWalk (plan : Plan) (list : List ℕ) (given : Given) (d : Desk) : Type 0 where
  pub goes : IsDeskOfPlan plan given d
  pub promises : HasWords given list

-- the desk may walk with what it was given
abbrev pub CanWalk : Plan → List ℕ → Desk → Type 0
CanWalk plan list d = (given : Given) × MayWalk plan list given d

-- this holds of all that the desk may walk with
abbrev pub ForWalking : Plan → List ℕ → Desk → (Given → Type 0) → Type 0
ForWalking plan list d holds = (given : Given) → MayWalk plan list given d → holds given

-- no instruction of this kind comes next, whatever slot it names
abbrev pub NoneNext : (ℕ → Instruction) → Given → Desk → Type 0
NoneNext kind given d = (k : ℕ) → instruction_at given d ≢ kind k

-- nothing comes next that the desk computes of a gate by itself
abbrev pub NothingToCompute : Given → Desk → Type 0
NothingToCompute given d = NoneNext Own given d × NoneNext Sum given d × NoneNext Linear given d

-- a take comes next
pub record IsAtTake (given : Given) (d : Desk) : Type 0 where
  pub number : ℕ
  pub share : ℕ
  pub is : instruction_at given d ≡ Take number share

-- where a take of a product comes next, the seat does not know its word
abbrev pub HasLooked : {W : Type 0} → Given → Sitting W → Desk → Type 0
HasLooked given seat d =
    d.place.pattern ≡ Multiplied → (n i w : ℕ) → instruction_at given d ≡ Take n i → Knows seat.view.seen n w → ⊥

-- no instruction from position q up to position r is a post
abbrev pub NoPosts : Given → ℕ → ℕ → Type 0
NoPosts given q r =
    (x n i : ℕ) → q ≤ x → x < r → at (program given.plan given.party given.session) x ≡ Post n i → ⊥

-- the list has the word of each post from position q up to position r
abbrev pub KnowsPosts : Given → ℕ → ℕ → List (ℕ × ℕ) → Type 0
KnowsPosts given q r seen =
    (x n i : ℕ) → q ≤ x → x < r → at (program given.plan given.party given.session) x ≡ Post n i
    → Knows seen n (word_at given x n i)

-- instructions, none of them a post, led from one desk to another
pub record Computes (given : Given) (d d' : Desk) : Type 0 where
  pub desk : IsDesk given d'
  pub forth : d.position ≤ d'.position
  pub no_post : NoPosts given d.position d'.position

-- instructions led from one desk and seat to the others, and the seat knows what was posted among them
pub record Walks {W : Type 0} (given : Given) (seat : Sitting W) (d : Desk) (seat' : Sitting W) (d' : Desk)
    : Type 0 where
  pub desk : IsDesk given d'
  pub forth : d.position ≤ d'.position
  pub posted : KnowsPosts given d.position d'.position seat'.view.seen
  pub grows : Grows seat.view.seen seat'.view.seen
  pub seats : seat'.view.seats ≡ seat.view.seats
  pub out : seat'.view.out ≡ seat.view.out

-- the same, for a half of a slot: it went on where it came to the end of that, and else nothing comes next that the
-- desk computes of a gate by itself, nor a take of a product whose word the seat knows
pub record WentOn {W : Type 0} (given : Given) (seat : Sitting W) (d : Desk) (seat' : Sitting W) (d' : Desk)
    (goes : Bool) : Type 0 where
  pub walks : Walks given seat d seat' d'
  pub on : goes ≡ true → d.position < d'.position
  pub through : goes ≡ false → NothingToCompute given d'
  pub looked : goes ≡ false → HasLooked given seat' d'

-- the place `steps` steps on in its half of a slot
abbrev pub further : Place → ℕ → Place
further place steps = record place { done = place.done + steps }

-- the desk after `takes` takes there
abbrev pub taken_on : Desk → ℕ → Desk
taken_on d takes = record d { place = further d.place takes; position = d.position + takes; taken = d.taken + takes }

-- the desk with these parts
abbrev pub with_parts : Desk → Program → Place → ℕ → Memory → Desk
with_parts d program place session memory =
    record d { program = program; place = place; session = session; memory = memory }

-- the desk with another place
abbrev pub at_place : Desk → Place → Desk
at_place d place = record d { place = place }

-- what is said of takes by the parts of a desk: it holds of each desk that has them and may walk
module _ (plan : Plan) (list : List ℕ) (program : Program) (place : Place) (session : ℕ) where
  -- there is such a desk, with this memory
  abbrev pub MayTake : Memory → Type 0
  MayTake memory = (given : Given) × (d : Desk) × MayWalk plan list given (with_parts d program place session memory)

  -- `takes` takes lead from one seat and memory to the others
  abbrev pub TakesLead : {W : Type 0} → Sitting W → Memory → Sitting W → Memory → ℕ → Type 0
  TakesLead seat memory seat' memory' takes =
      (given : Given) (d : Desk) → MayWalk plan list given (with_parts d program place session memory)
      → Walks given seat (with_parts d program place session memory) seat'
      (taken_on (with_parts d program place session memory') takes)

  -- and after them no take comes next whose word the seat knows
  abbrev pub LooksAfter : {W : Type 0} → Memory → Sitting W → Memory → ℕ → Type 0
  LooksAfter memory seat' memory' takes =
      (given : Given) (d : Desk) → MayWalk plan list given (with_parts d program place session memory)
      → HasLooked given seat' (taken_on (with_parts d program place session memory') takes)

  -- after `takes` takes another one comes next
  abbrev pub WaitsAfter : Memory → Memory → ℕ → Type 0
  WaitsAfter memory memory' takes =
      (given : Given) (d : Desk) → MayWalk plan list given (with_parts d program place session memory)
      → IsAtTake given (taken_on (with_parts d program place session memory') takes)

-- the desk has done all instructions before its position, and only its place may be one of before
pub record IsUnplaced (plan : Plan) (given : Given) (d : Desk) : Type 0 where
  pub same : given.plan ≡ plan
  pub party : d.party ≡ given.party
  pub session : d.session ≡ given.session
  pub own_program : IsProgram given.plan given.party given.session d.program
  pub fits : IsMemoryOf given.plan given.session d.memory
  pub desk : (place : Place) → IsPlace given.plan given.party given.session place d.position
      → IsDesk given (at_place d place)

-- the same, and it has come to this half of slot k of the batch in which its place stands, or to its end
pub record IsBefore (plan : Plan) (given : Given) (half : Half) (k : ℕ) (d : Desk) : Type 0 where
  pub unplaced : IsUnplaced plan given d
  pub batch : IsBatch (session given.plan given.session) d.place.batch d.place.end
  pub from : d.place.batch ≤ k
  pub to : k ≤ d.place.end
  pub position : d.position
      ≡ position_of given.plan given.party given.session half d.place.batch d.place.end k

-- the same, and it has done the first n instructions in the head of a product, before which its place stands
pub record IsSending (plan : Plan) (given : Given) (n : ℕ) (d : Desk) : Type 0 where
  pub unplaced : IsUnplaced plan given d
  pub product : InProduct Head d.place
  pub starts : d.place.done ≡ 0
  pub has : has_pair (scheme given.plan) given.party ≡ true
  pub begun : ℕ
  pub place : IsPlace given.plan given.party given.session d.place begun
  pub position : d.position ≡ begun + n

-- between two positions the seat came to know what was posted there
pub record Sends {W : Type 0} (given : Given) (seat : Sitting W) (q : ℕ) (seat' : Sitting W) (r : ℕ) : Type 0 where
  pub forth : q ≤ r
  pub posted : KnowsPosts given q r seat'.view.seen
  pub grows : Grows seat.view.seen seat'.view.seen
  pub seats : seat'.view.seats ≡ seat.view.seats
  pub out : seat'.view.out ≡ seat.view.out

-- the desk did all of its slot's head, that of a gate or of a product of masks, and none of it was a post
pub record DoesSilentHead (plan : Plan) (given : Given) (d d' : Desk) : Type 0 where
  pub gate : IsSlot given.plan given.session d.place.slot Multiplies
  pub before : IsBefore plan given Head (d.place.slot + 1) d'
  pub on : d.position < d'.position
  pub no_post : NoPosts given d.position d'.position

-- the same, with posts, and the seat knows what was posted
pub record DoesHead {W : Type 0} (plan : Plan) (given : Given) (seat : Sitting W) (d : Desk) (seat' : Sitting W)
    (d' : Desk) : Type 0 where
  pub gate : IsSlot given.plan given.session d.place.slot Multiplies
  pub before : IsBefore plan given Head (d.place.slot + 1) d'
  pub on : d.position < d'.position
  pub sends : Sends given seat d.position seat' d'.position

-- where products are dealt themselves, slot k is of a gate, or the first after those
abbrev pub IsAmongGates : Session → ℕ → Type 0
IsAmongGates s k = s.prepared ≡ false → (length (owners s) ≤ k) × (k ≤ length (owners s) + length s.gates)

-- slot k is of gate g
pub record IsSlotOf (s : Session) (k : ℕ) (g : Gate) : Type 0 where
  pub number : ℕ
  pub slot : session_slot s k ≡ At_gate number
  pub is : gate s number ≡ g
  pub there : k < session_slots s

-- these are gates of the session: of the slots from k up to slot e, as far as the first product, and with it where
-- products are dealt themselves
pub record AreGatesFrom (s : Session) (k e : ℕ) (gates : List Gate) : Type 0 where
  pub of : (t : ℕ) → t < length gates → (u : ℕ) × (u < length s.gates) × (gate s u ≡ gate_in gates t)
  pub is : (t : ℕ) → t < length gates → AreLinear gates t
      → (s.prepared && is_product (gate_in gates t).operation) ≡ false → IsSlotOf s (k + t) (gate_in gates t)
  pub to : k + length gates ≤ e

-- a slot of this pattern is of no gate, and of no product of masks
abbrev pub IsBeside : Pattern → Type 0
IsBeside pattern = (pattern ≢ Multiplied) × (pattern ≢ Silent)
