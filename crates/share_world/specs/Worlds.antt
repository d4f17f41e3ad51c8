-- A world: a plan, the inputs of all parties, and their tapes. Its words, and what a group sees.
use Rattle.std.specs.Prelude.{ℕ, zero, suc, ◌+◌, ◌^◌, Bool, ◌||◌, nat_lt, if◌then◌else◌, List, [], map, length, slice_index, slice_index_or, filter}
use Rattle.circuit_model.specs.Circuits.{set_at, values}
use Rattle.secret_sharing.specs.Schemes.{Run, dealt, own_product, product_summand, own_value, summands}
use Rattle.secret_sharing.specs.Prepared.{masked, prepared_summand}
use Rattle.session_slots.specs.declared.source.Source.{Source}
use Rattle.session_slots.specs.declared.source.Source.TheVariants.{Given, Earlier}
use Rattle.session_slots.specs.Sessions.{owners, source, output_wire, carried_output, kept_wire, operand, Slot, gate}
use Rattle.session_slots.specs.declared.side.Side.{Side}
use Rattle.session_slots.specs.declared.side.Side.TheVariants.{First, Second}
use Rattle.plan_model.specs.Plans.{Plan, scheme, session, slot, slot_number, place, given_before, holder_of, least_held}
use Rattle.plan_model.specs.declared.key.Key.{Key}
use Rattle.plan_model.specs.Messages.{messages}
use Rattle.party_set.specs.Parties.{has_party}
use Rattle.session_slots.specs.Sessions.Slot.{Input, At_gate, Output, Mask, Mask_product, Masked, Kept}
use Rattle.plan_model.specs.InputWords.{InputLists}

-- a plan, with the inputs and the tapes of all parties
pub record World : Type 0 where
  pub plan : Plan
  pub inputs : InputLists  -- by party, session, position
  pub tapes : List (List ℕ)  -- by party

-- the input of a wire with this source: the next of its giver's inputs; a carried wire has none
abbrev pub source_input : World → ℕ → ℕ → Source → ℕ
source_input w s v (Given p) =
    slice_index (slice_index_or (slice_index_or w.inputs p []) s []) (given_before w.plan p s v)
source_input w s v (Earlier r c i) = 0

-- the input of wire v
abbrev pub input_of : World → ℕ → ℕ → ℕ
input_of w s v = source_input w s v (source (session w.plan s) v)

-- word i of those that party p draws in a slot of session s
abbrev pub tape_word : World → ℕ → Slot → ℕ → ℕ → ℕ
tape_word w s kind p i = slice_index (slice_index_or w.tapes p []) (place w.plan p s (slot_number w.plan s kind) + i)

-- ---- products

-- summand i of a mask is a word of its least holder
abbrev pub mask : World → ℕ → ℕ → Side → ℕ → ℕ
mask w s t side i =
    let p = holder_of w.plan i in
    tape_word w s (Mask t side) p (least_held w.plan p i)

-- summand i of the product of x and y, where each party deals its part in this slot
abbrev pub dealt_product : World → ℕ → Slot → (ℕ → ℕ) → (ℕ → ℕ) → ℕ → ℕ
dealt_product w s kind = product_summand (scheme w.plan) (λ p own. dealt (scheme w.plan) own (tape_word w s kind p))

-- summand i of the product of both masks, which is made before the inputs
abbrev pub mask_product : World → ℕ → ℕ → ℕ → ℕ
mask_product w s t = dealt_product w s (Mask_product t) (mask w s t First) (mask w s t Second)

-- summand i of what gate t makes of x and y, where it is a product
abbrev pub product_of : World → ℕ → ℕ → (ℕ → ℕ) → (ℕ → ℕ) → ℕ → ℕ
product_of w s t x y =
    if (session w.plan s).prepared
    then prepared_summand (scheme w.plan) (mask w s t First) (mask w s t Second) (mask_product w s t) x y
    else dealt_product w s (At_gate t) x y

-- ---- one session, from what the wires of earlier sessions ended with

-- the wire of session r that is wire i of its output value c
abbrev pub carried_wire : Plan → ℕ → ℕ → ℕ → ℕ
carried_wire plan r c i = output_wire (session plan r) (carried_output (session plan r) (Earlier r c i))

-- the summands of an input wire with this source: its giver's deal, or what the wire that it carries ended with
abbrev pub source_summands : World → (ℕ → ℕ → ℕ → ℕ) → ℕ → ℕ → Source → ℕ → ℕ
source_summands w before s v (Given p) = dealt (scheme w.plan) (input_of w s v) (tape_word w s (Input v) p)
source_summands w before s v (Earlier r c i) = before r (carried_wire w.plan r c i)

-- the summands of the input wires, and 0 for any other wire
abbrev pub first_summands : World → (ℕ → ℕ → ℕ → ℕ) → ℕ → ℕ → ℕ → ℕ
first_summands w before s v i =
    if nat_lt v (length (owners (session w.plan s)))
    then source_summands w before s v (source (session w.plan s) v) i
    else 0

-- the gates of session s, where the wires of earlier sessions ended with these summands
abbrev pub run_after : World → (ℕ → ℕ → ℕ → ℕ) → ℕ → Run
run_after w before s = record {
  scheme = scheme w.plan;
  gates = gate (session w.plan s);
  start = first_summands w before s;
  product = product_of w s;
}

-- the value of an input wire with this source: its input, or what the wire that it carries ended with
abbrev pub source_value : World → (ℕ → ℕ → ℕ) → ℕ → ℕ → Source → ℕ
source_value w before s v (Given p) = input_of w s v
source_value w before s v (Earlier r c i) = before r (carried_wire w.plan r c i)

-- the values of the input wires, and 0 for any other wire
abbrev pub first_values : World → (ℕ → ℕ → ℕ) → ℕ → ℕ → ℕ
first_values w before s v =
    if nat_lt v (length (owners (session w.plan s)))
    then source_value w before s v (source (session w.plan s) v)
    else 0

-- the value of each wire before gate t of session s
abbrev pub values_after : World → (ℕ → ℕ → ℕ) → ℕ → ℕ → ℕ → ℕ
values_after w before s = values (2 ^ w.plan.bits) (gate (session w.plan s)) (first_values w before s)

-- ---- all sessions, one after another

-- what the wires of the first n sessions end with, by session, and `none` for any other session, where `ends before s`
-- is what those of session s end with behind such earlier ones
abbrev pub ends_before : {Ends : Type 0} → (ℕ → Ends) → ((ℕ → Ends) → ℕ → Ends) → ℕ → ℕ → Ends
ends_before none ends zero = none
ends_before none ends (suc n) = set_at (ends_before none ends n) n (ends (ends_before none ends n) n)

-- the summands with which the wires of the first n sessions end, by session and wire
abbrev pub summands_before : World → ℕ → ℕ → ℕ → ℕ → ℕ
summands_before w =
    ends_before (λ r v i. 0) (λ before s. summands (run_after w before s) (length (session w.plan s).gates))

-- the gates of session s, behind all sessions before it
abbrev pub run_of : World → ℕ → Run
run_of w s = run_after w (summands_before w s) s

-- the summands with which the wires of session s end
abbrev pub end_summands : World → ℕ → ℕ → ℕ → ℕ
end_summands w s = summands (run_of w s) (length (session w.plan s).gates)

-- the values with which the wires of the first n sessions end, by session and wire
abbrev pub values_before : World → ℕ → ℕ → ℕ → ℕ
values_before w = ends_before (λ r v. 0) (λ before s. values_after w before s (length (session w.plan s).gates))

-- the value of wire v before gate t, and at the end
abbrev pub value_before : World → ℕ → ℕ → ℕ → ℕ
value_before w s t v = values_after w (values_before w s) s t v

-- the value of wire v in the clear
abbrev pub plain : World → ℕ → ℕ → ℕ
plain w s v = value_before w s (length (session w.plan s).gates) v

-- ---- deals

-- what party p deals in a slot: its input, or its own product, of the gate's wires or of their masks
abbrev pub dealt_value : World → ℕ → ℕ → Slot → ℕ
dealt_value w s p (Input v) = input_of w s v
dealt_value w s p (At_gate t) = own_value (run_of w s) t p
dealt_value w s p (Mask_product t) = own_product (scheme w.plan) p (mask w s t First) (mask w s t Second)
dealt_value w s p _ = 0

-- summand i of what party p deals in a slot
abbrev pub deal_of : World → ℕ → ℕ → Slot → ℕ → ℕ
deal_of w s p kind = dealt (scheme w.plan) (dealt_value w s p kind) (tape_word w s kind p)

-- ---- messages

-- summand i of what is opened of a wire of gate t: what it has more than its mask
abbrev pub masked_summand : World → ℕ → ℕ → Side → ℕ → ℕ
masked_summand w s t side =
    masked (scheme w.plan) (summands (run_of w s) t (operand (gate (session w.plan s) t) side)) (mask w s t side)

-- a summand of the sender's deal, of a mask, of a kept wire, or of what is opened: a wire, or what one has more than
-- its mask
abbrev pub word_in : World → Key → Slot → ℕ
word_in w key (Output o) = end_summands w key.session (output_wire (session w.plan key.session) o) key.share
word_in w key (Mask t side) = mask w key.session t side key.share
word_in w key (Masked t side) = masked_summand w key.session t side key.share
word_in w key (Kept j) = end_summands w key.session (kept_wire (session w.plan key.session) j) key.share
word_in w key kind = deal_of w key.session key.sender kind key.share

-- the word of a message
abbrev pub word : World → Key → ℕ
word w key = word_in w key (slot w.plan key.session key.slot)

-- a member of the group of this mask sends or receives the message
abbrev pub touches : ℕ → Key → Bool
touches group key = has_party group key.sender || has_party group key.receiver

-- what the group sees
abbrev pub view : World → ℕ → List (Key × ℕ)
view w group = map (λ key. (key, word w key)) (filter (touches group) (messages w.plan))
