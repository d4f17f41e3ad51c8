-- Instructions that name what is there, and what a deal needs.
use Rattle.std.specs.Prelude.{◌≡◌, ℕ, ◌+◌, ◌-◌, ◌<◌, ◌≤◌, length}
use Rattle.session_slots.specs.Sessions.{Slot}
use Rattle.plan_model.specs.Plans.{Plan, session, slots, slot, slot_number, least_held}
use Rattle.session_slots.specs.Sessions.Slot.{Input, At_gate, Output, Mask, Mask_product, Masked}
use Rattle.plan_model.specs.Messages.{messages}
use Rattle.plan_model.specs.Numbers.{message}
use Rattle.program_model.specs.declared.instruction.Instruction.{Instruction}
use Rattle.program_model.specs.declared.instruction.Instruction.TheVariants.{Draw, Deal, Post, Take, Linear, Own, Sum, Open, Join, Deliver, End}
use Rattle.program_model.specs.Programs.{taking_session}
use Rattle.program_model.specs.States.{Given, State, slot_of, taking_slot}

-- a slot in which something may be dealt
abbrev pub Deals : Slot → Type 0
Deals (Input v) = Unit {0}
Deals (At_gate t) = Unit {0}
Deals (Mask_product t) = Unit {0}
Deals _ = ⊥

-- a slot in which a product may be dealt
abbrev pub Multiplies : Slot → Type 0
Multiplies (At_gate t) = Unit {0}
Multiplies (Mask_product t) = Unit {0}
Multiplies _ = ⊥

-- a slot of a mask
abbrev pub IsMask : Slot → Type 0
IsMask (Mask t side) = Unit {0}
IsMask _ = ⊥

-- a slot of a masked wire
abbrev pub IsMasked : Slot → Type 0
IsMasked (Masked t side) = Unit {0}
IsMasked _ = ⊥

-- a slot of a gate
abbrev pub IsGate : Slot → Type 0
IsGate (At_gate t) = Unit {0}
IsGate _ = ⊥

-- a slot of an output
abbrev pub IsOutput : Slot → Type 0
IsOutput (Output o) = Unit {0}
IsOutput _ = ⊥

-- message n is there, is of session s and of summand i, and its slot is there
pub record IsSessionMessage (plan : Plan) (s n i : ℕ) : Type 0 where
  pub number : n < length (messages plan)
  pub session : (message plan n).session ≡ s
  pub share : i < length plan.groups
  pub slot : (message plan n).slot < slots plan (message plan n).session

-- message n is there, is taken in session s and is of summand i, and the slots in which it stands and is taken are
-- there
pub record IsTakenMessage (plan : Plan) (s n i : ℕ) : Type 0 where
  pub number : n < length (messages plan)
  pub session : taking_session (message plan n).session (session plan (message plan n).session) (slot_of plan n) ≡ s
  pub share : i < length plan.groups
  pub taken : slot_number plan s (taking_slot plan n) < slots plan s
  pub taken_is : slot plan s (slot_number plan s (taking_slot plan n)) ≡ taking_slot plan n
  pub slot : (message plan n).slot < slots plan (message plan n).session

-- slot k of session s is there, and of a kind P
pub record IsSlot (plan : Plan) (s k : ℕ) (P : Slot → Type 0) : Type 0 where
  pub kind : P (slot plan s k)
  pub slot : k < slots plan s

-- the instruction names slots and messages that are there
abbrev pub Proper : Plan → ℕ → Instruction → Type 0
Proper plan s (Draw k) = IsSlot plan s k IsMask
Proper plan s (Deal k d) = IsSlot plan s k Deals
Proper plan s (Post n i) = IsSessionMessage plan s n i
Proper plan s (Take n i) = IsTakenMessage plan s n i
Proper plan s (Linear k) = IsSlot plan s k IsGate
Proper plan s (Own k) = IsSlot plan s k Multiplies
Proper plan s (Sum k) = IsSlot plan s k Multiplies
Proper plan s (Open k) = IsSlot plan s k IsMasked
Proper plan s (Join k) = IsSlot plan s k IsGate
Proper plan s (Deliver k) = IsSlot plan s k IsOutput
Proper plan s End = Unit {0}

-- how many words an instruction of p draws
abbrev pub drawn_by : Plan → ℕ → Instruction → ℕ
drawn_by plan p (Draw k) = least_held plan p (length plan.groups)
drawn_by plan p (Deal k d) = length plan.groups - 1
drawn_by plan p _ = 0

-- the word that was taken is the one that is given
abbrev pub IsGivenWord : Given → ℕ → Instruction → Type 0
IsGivenWord given w (Take n i) = w ≡ given.got n
IsGivenWord given w _ = Unit {0}

-- a deal in this slot finds its input, where `dealt` were dealt before
abbrev pub HasInput : Given → Slot → ℕ → Type 0
HasInput given (Input v) dealt = (dealt < length given.inputs) × (dealt < 4294967295)
HasInput given (At_gate t) dealt = Unit {0}
HasInput given (Mask_product t) dealt = Unit {0}
HasInput given _ dealt = ⊥

-- a deal in slot k, in this state, finds its words and its input
pub record CanDealIn (given : Given) (k : ℕ) (σ : State) : Type 0 where
  pub words : σ.drawn + (length given.plan.groups - 1) ≤ length given.tape
  pub input : HasInput given (slot given.plan given.session k) σ.given

-- a party that draws a mask in this state finds its words
abbrev pub CanDraw : Given → State → Type 0
CanDraw given σ = σ.drawn + least_held given.plan given.party (length given.plan.groups) ≤ length given.tape

-- the same, but for the words of messages
abbrev pub with_got : Given → (ℕ → ℕ) → Given
with_got given got =
    record {
      plan = given.plan;
      party = given.party;
      session = given.session;
      inputs = given.inputs;
      tape = given.tape;
      got = got;
    }
