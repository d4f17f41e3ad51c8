-- What a desk has after the first instructions of its program.
use Rattle.std.specs.Prelude.{[], ◌∷◌, ℕ, zero, suc, ◌+◌, ◌-◌, ◌%◌, ◌^◌, nat_eq, List, length, slice_index, Option, Some, None, if◌then◌else◌}
use Rattle.list_laws.specs.Lists.{total}
use Rattle.circuit_model.specs.declared.gate.Gate.{Gate}
use Rattle.circuit_model.specs.Circuits.{set_at}
use Rattle.secret_sharing.specs.Schemes.{dealt, has_pair, own_product, local}
use Rattle.secret_sharing.specs.Prepared.{masked, joined_summand}
use Rattle.session_slots.specs.Sessions.{Slot, gate, kept_wire, operand, output_wire, mask_wire, product_wire, product_in}
use Rattle.session_slots.specs.Sessions.Slot.{Input, At_gate, Output, Mask, Mask_product, Masked, Kept}
use Rattle.session_slots.specs.declared.side.Side.{Side}
use Rattle.session_slots.specs.declared.side.Side.TheVariants.{First, Second}
use Rattle.plan_model.specs.Plans.{Plan, is_holder, holder_of, least_held, scheme, session, slot}
use Rattle.plan_model.specs.Numbers.{message}
use Rattle.program_model.specs.Programs.{program, at, taken_as}
use Rattle.program_model.specs.declared.instruction.Instruction.{Instruction}
use Rattle.program_model.specs.declared.instruction.Instruction.TheVariants.{Draw, Deal, Post, Take, Linear, Own, Sum, Open, Join, Deliver, End}

-- where a desk stands, and what it is given: the inputs and the tape words of this party in this session, and the words
-- of messages by number
pub record Given : Type 0 where
  pub plan : Plan
  pub party : ℕ
  pub session : ℕ
  pub inputs : List ℕ
  pub tape : List ℕ
  pub got : ℕ → ℕ

-- what a party has: summands of wires, and what it is working on
pub record State : Type 0 where
  pub rows : ℕ → ℕ → ℕ  -- wire, or mask, or product of masks: its summands
  pub own : ℕ  -- the own product
  pub sums : ℕ → ℕ  -- of a product or an opening, by summand: what is got so far
  pub excess : Side → ℕ  -- what was opened last: of each wire of a prepared product, what it has more than its mask
  pub drawn : ℕ  -- how many tape words it has drawn
  pub given : ℕ  -- how many inputs it has dealt
  pub outputs : ℕ → Option ℕ

-- the same, but w on this side
abbrev pub set_side : (Side → ℕ) → Side → ℕ → Side → ℕ
set_side f First w First = w
set_side f Second w Second = w
set_side f _ w side = f side

-- before the first instruction
abbrev pub new_state : State
new_state = record {
  rows = λ v i. 0;
  own = 0;
  sums = λ i. 0;
  excess = λ side. 0;
  drawn = 0;
  given = 0;
  outputs = λ o. None;
}

-- deals a value with these words, as the summands of wire v
abbrev pub dealt_as : Plan → (ℕ → ℕ) → ℕ → ℕ → State → State
dealt_as plan words value v σ =
    record σ { rows = set_at σ.rows v (dealt (scheme plan) value words); drawn = σ.drawn + (length plan.groups - 1) }

-- deals the input, or the own product, with these words
abbrev pub dealt_in : Plan → ℕ → (ℕ → ℕ) → ℕ → Slot → State → State
dealt_in plan s words input (Input v) σ = record (dealt_as plan words input v σ) { given = σ.given + 1 }
dealt_in plan s words input (At_gate t) σ = dealt_as plan words σ.own (gate (session plan s) t).output σ
dealt_in plan s words input (Mask_product t) σ = dealt_as plan words σ.own (product_wire (session plan s) t) σ
dealt_in plan s words input _ σ = σ

-- p draws these words, as the summands of a mask of which it is the least holder
abbrev pub drawn_in : Plan → ℕ → ℕ → (ℕ → ℕ) → Slot → State → State
drawn_in plan p s words (Mask t side) σ =
    let mask = mask_wire (session plan s) t side in
    record σ {
      rows = set_at σ.rows mask
          (λ i. if nat_eq (holder_of plan i) p then words (least_held plan p i) else σ.rows mask i);
      drawn = σ.drawn + least_held plan p (length plan.groups);
    }
drawn_in plan p s words _ σ = σ

-- what a wire of gate t has more than its mask, by summand
abbrev pub excess_of : Plan → ℕ → ℕ → Side → State → ℕ → ℕ
excess_of plan s t side σ =
    masked (scheme plan) (σ.rows (operand (gate (session plan s) t) side)) (σ.rows (mask_wire (session plan s) t side))

-- the word of summand i that is posted in a slot
abbrev pub posted : Plan → ℕ → Slot → ℕ → State → ℕ
posted plan s (Input v) i σ = σ.rows v i
posted plan s (At_gate t) i σ = σ.rows (gate (session plan s) t).output i
posted plan s (Output o) i σ = σ.rows (output_wire (session plan s) o) i
posted plan s (Mask t side) i σ = σ.rows (mask_wire (session plan s) t side) i
posted plan s (Mask_product t) i σ = σ.rows (product_wire (session plan s) t) i
posted plan s (Masked t side) i σ = excess_of plan s t side σ i
posted plan s (Kept j) i σ = σ.rows (kept_wire (session plan s) j) i

-- this summand of the wire is w
abbrev pub with_summand : ℕ → ℕ → ℕ → State → State
with_summand v i w σ = record σ { rows = set_at σ.rows v (set_at (σ.rows v) i w) }

-- a word that is taken in a slot
abbrev pub took_in : Plan → ℕ → Slot → ℕ → ℕ → State → State
took_in plan s (Input v) i w σ = with_summand v i w σ
took_in plan s (Mask t side) i w σ = with_summand (mask_wire (session plan s) t side) i w σ
took_in plan s _ i w σ = record σ { sums = set_at σ.sums i ((σ.sums i + w) % 2 ^ plan.bits) }

-- a linear gate sets its output, summand by summand
abbrev pub computed : ℕ → Gate → State → State
computed modulus g σ =
    record σ {
      rows = set_at σ.rows g.output (λ i. local modulus g.operation g.constant i (σ.rows g.first i)
          (σ.rows g.second i));
    }

-- p multiplies the pairs of summands that are its duty
abbrev pub multiplied : Plan → ℕ → Gate → State → State
multiplied plan p g σ = record σ { own = own_product (scheme plan) p (σ.rows g.first) (σ.rows g.second) }

-- the summands of a product are complete: what was taken joins what p dealt, if it did
abbrev pub summed : Plan → ℕ → Gate → State → State
summed plan p g σ =
    record σ {
      rows = set_at σ.rows g.output
          (λ i. ((if has_pair (scheme plan) p then σ.rows g.output i else 0) + σ.sums i) % 2 ^ plan.bits);
      sums = λ i. 0;
    }

-- the sum of the summands that are held and of those that were got
abbrev pub opened : Plan → ℕ → (ℕ → ℕ) → (ℕ → ℕ) → ℕ
opened plan p held got = total (length plan.groups) (λ i. if is_holder plan p i then held i else got i) % 2 ^ plan.bits

-- p opens output o, which is wire v
abbrev pub delivered : Plan → ℕ → ℕ → ℕ → State → State
delivered plan p v o σ =
    record σ { sums = λ i. 0; outputs = set_at σ.outputs o (Some (opened plan p (σ.rows v) σ.sums)) }

-- p opens what a wire of a prepared product has more than its mask
abbrev pub opened_in : Plan → ℕ → ℕ → Slot → State → State
opened_in plan p s (Masked t side) σ =
    record σ { sums = λ i. 0; excess = set_side σ.excess side (opened plan p (excess_of plan s t side σ) σ.sums) }
opened_in plan p s _ σ = σ

-- a prepared product sets its output, from the masks, their product and what was opened
abbrev pub joined_in : Plan → ℕ → Slot → State → State
joined_in plan s (At_gate t) σ =
    let x = session plan s in
    record σ {
      rows = set_at σ.rows (gate x t).output
          (joined_summand (2 ^ plan.bits) (σ.excess First) (σ.excess Second)
          (σ.rows (mask_wire x t First)) (σ.rows (mask_wire x t Second)) (σ.rows (product_wire x t)));
    }
joined_in plan s _ σ = σ

-- the output of a slot of an output, and 0 for any other
abbrev pub output_in_slot : Slot → ℕ
output_in_slot (Output o) = o
output_in_slot _ = 0

-- the slot of message n, in its own session
abbrev pub slot_of : Plan → ℕ → Slot
slot_of plan n = slot plan (message plan n).session (message plan n).slot

-- what it is of where the message is taken
abbrev pub taking_slot : Plan → ℕ → Slot
taking_slot plan n = taken_as (session plan (message plan n).session) (slot_of plan n)

-- after an instruction of party p in session s, where the next words that it draws and its next input are these, and a
-- take gives w
abbrev pub after : Plan → ℕ → ℕ → (ℕ → ℕ) → ℕ → (ℕ → ℕ) → Instruction → State → State
after plan p s words input got (Draw k) σ = drawn_in plan p s words (slot plan s k) σ
after plan p s words input got (Deal k d) σ = dealt_in plan s words input (slot plan s k) σ
after plan p s words input got (Post n i) σ = σ
after plan p s words input got (Take n i) σ = took_in plan s (taking_slot plan n) i (got n) σ
after plan p s words input got (Linear k) σ =
    computed (2 ^ plan.bits) (product_in (session plan s) (slot plan s k)) σ
after plan p s words input got (Own k) σ = multiplied plan p (product_in (session plan s) (slot plan s k)) σ
after plan p s words input got (Sum k) σ = summed plan p (product_in (session plan s) (slot plan s k)) σ
after plan p s words input got (Open k) σ = opened_in plan p s (slot plan s k) σ
after plan p s words input got (Join k) σ = joined_in plan s (slot plan s k) σ
after plan p s words input got (Deliver k) σ =
    delivered plan p (output_wire (session plan s) (output_in_slot (slot plan s k)))
    (output_in_slot (slot plan s k)) σ
after plan p s words input got End σ = σ

-- word i of those that come after the first n of the tape
abbrev pub word_after : Given → ℕ → ℕ → ℕ
word_after given n i = slice_index given.tape (n + i)

-- after the instruction, with what is given
abbrev pub next : Given → Instruction → State → State
next given e σ =
    after given.plan given.party given.session
    (word_after given σ.drawn) (slice_index given.inputs σ.given) given.got
    e σ

-- after all of a list
abbrev pub after_all : Given → List Instruction → State → State
after_all given [] σ = σ
after_all given (e ∷ es) σ = after_all given es (next given e σ)

-- after the first q instructions
abbrev pub state : Given → ℕ → State
state given zero = new_state
state given (suc q) = next given (at (program given.plan given.party given.session) q) (state given q)
