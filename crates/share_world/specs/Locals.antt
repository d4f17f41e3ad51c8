-- What one party computes by itself, from its inputs, its tape and the words that it got.
use Rattle.std.specs.List.{AllByRecursion}
use Rattle.std.specs.Prelude.{◌≡◌, ℕ, ◌<◌, ◌≤◌, ◌%◌, ◌^◌, nat_eq, nat_lt, if◌then◌else◌, length}
use Rattle.list_laws.specs.Lists.{total}
use Rattle.secret_sharing.specs.Schemes.{Run, dealt, own_product, product_summand, own_value, summands}
use Rattle.secret_sharing.specs.Prepared.{masked, joined_summand}
use Rattle.plan_model.specs.declared.key.Key.{Key}
use Rattle.session_slots.specs.declared.source.Source.{Source}
use Rattle.session_slots.specs.declared.source.Source.TheVariants.{Given, Earlier}
use Rattle.session_slots.specs.Sessions.{owners, source, gate, operand, output_wire, kept_wire, Slot}
use Rattle.session_slots.specs.Carries.{kept_place}
use Rattle.session_slots.specs.declared.side.Side.{Side}
use Rattle.session_slots.specs.declared.side.Side.TheVariants.{First, Second}
use Rattle.session_slots.specs.SlotNumbers.{first_of_gate}
use Rattle.plan_model.specs.Plans.{Plan, is_holder, holder_of, scheme, session, slot, slot_number}
use Rattle.plan_model.specs.Messages.{messages}
use Rattle.session_slots.specs.Sessions.Slot.{Input, At_gate, Output, Mask, Mask_product, Masked, Kept}
use Rattle.share_world.specs.Worlds.{World, input_of, tape_word, mask, word}

-- the message of summand i that p sends q in a slot
abbrev pub key_at : Plan → ℕ → Slot → ℕ → ℕ → ℕ → Key
key_at plan s kind i p q = record { session = s; slot = slot_number plan s kind; share = i; sender = p; receiver = q }

-- the message by which p keeps, in session r, summand i of the wire that input wire v of session s carries
abbrev pub kept_key : Plan → ℕ → ℕ → ℕ → ℕ → ℕ → Key
kept_key plan r s v i p = key_at plan r (Kept (kept_place plan.sessions s v)) i p p

-- summand i of what q deals in a slot, as p has it: where p is q, it deals this value
abbrev pub local_deal : World → (Key → ℕ) → ℕ → ℕ → Slot → ℕ → ℕ → ℕ → ℕ
local_deal w got p s kind q value i =
    if nat_eq q p then dealt (scheme w.plan) value (tape_word w s kind p) i else got (key_at w.plan s kind i q p)

-- summand i of a mask: a word of its own where p is the least holder, and else what it got
abbrev pub local_mask : World → (Key → ℕ) → ℕ → ℕ → ℕ → Side → ℕ → ℕ
local_mask w got p s t side i =
    let q = holder_of w.plan i in
    if nat_eq q p then mask w s t side i else got (key_at w.plan s (Mask t side) i q p)

-- the sum of the summands that p holds, and of those of a slot's opening that it got
abbrev pub local_opened : World → (Key → ℕ) → ℕ → ℕ → Slot → (ℕ → ℕ) → ℕ
local_opened w got p s kind held =
    total (length w.plan.groups) (λ i.
    if is_holder w.plan p i then held i else got (key_at w.plan s kind i (holder_of w.plan i) p))
    % 2 ^ w.plan.bits

-- what p opens of a wire with these summands: what it has more than its mask
abbrev pub local_excess : World → (Key → ℕ) → ℕ → ℕ → ℕ → Side → (ℕ → ℕ) → ℕ
local_excess w got p s t side x =
    local_opened w got p s (Masked t side) (masked (scheme w.plan) x (local_mask w got p s t side))

-- summand i of the product of both masks
abbrev pub local_mask_product : World → (Key → ℕ) → ℕ → ℕ → ℕ → ℕ → ℕ
local_mask_product w got p s t =
    product_summand (scheme w.plan) (local_deal w got p s (Mask_product t))
    (local_mask w got p s t First) (local_mask w got p s t Second)

-- summand i of what gate t makes of x and y, where it is a product
abbrev pub local_product : World → (Key → ℕ) → ℕ → ℕ → ℕ → (ℕ → ℕ) → (ℕ → ℕ) → ℕ → ℕ
local_product w got p s t x y =
    if (session w.plan s).prepared
    then joined_summand (scheme w.plan).modulus
    (local_excess w got p s t First x) (local_excess w got p s t Second y)
    (local_mask w got p s t First) (local_mask w got p s t Second) (local_mask_product w got p s t)
    else product_summand (scheme w.plan) (local_deal w got p s (At_gate t)) x y

-- summand i of input wire v, with this source: its giver's deal, or what p kept of the wire that it carries
abbrev pub local_source : World → (Key → ℕ) → ℕ → ℕ → ℕ → Source → ℕ → ℕ
local_source w got p s v (Given q) i = local_deal w got p s (Input v) q (input_of w s v) i
local_source w got p s v (Earlier r c at) i = got (kept_key w.plan r s v i p)

-- summand i of the input wires, and 0 for any other wire
abbrev pub local_start : World → (Key → ℕ) → ℕ → ℕ → ℕ → ℕ → ℕ
local_start w got p s v i =
    if nat_lt v (length (owners (session w.plan s)))
    then local_source w got p s v (source (session w.plan s) v) i
    else 0

-- the gates of session s as party p runs them: of w it reads its own inputs and tape alone
abbrev pub local_run : World → (Key → ℕ) → ℕ → ℕ → Run
local_run w got p s = record {
  scheme = scheme w.plan;
  gates = gate (session w.plan s);
  start = local_start w got p s;
  product = local_product w got p s;
}

-- what p deals in a slot: its input, or its own product, of the gate's wires or of their masks
abbrev pub local_value : World → (Key → ℕ) → ℕ → ℕ → Slot → ℕ
local_value w got p s (Input v) = input_of w s v
local_value w got p s (At_gate t) = own_value (local_run w got p s) t p
local_value w got p s (Mask_product t) =
    own_product (scheme w.plan) p (local_mask w got p s t First) (local_mask w got p s t Second)
local_value w got p s _ = 0

-- the word of a message as its sender p has it
abbrev pub local_word_in : World → (Key → ℕ) → ℕ → Key → Slot → ℕ
local_word_in w got p key (Output o) =
    summands (local_run w got p key.session) (length (session w.plan key.session).gates)
    (output_wire (session w.plan key.session) o) key.share
local_word_in w got p key (Mask t side) = local_mask w got p key.session t side key.share
local_word_in w got p key (Masked t side) =
    masked (scheme w.plan)
    (summands (local_run w got p key.session) t (operand (gate (session w.plan key.session) t) side))
    (local_mask w got p key.session t side) key.share
local_word_in w got p key (Kept j) =
    summands (local_run w got p key.session) (length (session w.plan key.session).gates)
    (kept_wire (session w.plan key.session) j) key.share
local_word_in w got p key kind =
    dealt (scheme w.plan) (local_value w got p key.session kind) (tape_word w key.session kind p) key.share

-- the word of a message, as party p has it
abbrev pub local_word : World → (Key → ℕ) → ℕ → Key → ℕ
local_word w got p key = local_word_in w got p key (slot w.plan key.session key.slot)

-- output wire o of session s as p opens it
abbrev pub local_output : World → (Key → ℕ) → ℕ → ℕ → ℕ → ℕ
local_output w got p s o =
    let x = session w.plan s in
    local_opened w got p s (Output o) (summands (local_run w got p s) (length x.gates) (output_wire x o))

-- if each party got what the senders send, all words are those of the equations
abbrev pub LocalsJoin : World → Type 0
LocalsJoin w =
    (got : ℕ → Key → ℕ) → AllByRecursion (λ key. got key.receiver key ≡ local_word w (got key.sender) key.sender key)
    (messages w.plan)
    → AllByRecursion (λ key. got key.receiver key ≡ word w key) (messages w.plan)

-- the first n gates read what was got in the sessions before, and in the slots before those of gate n
abbrev pub ReadsBefore : World → Type 0
ReadsBefore w =
    (p s n : ℕ) (got later : Key → ℕ) → n ≤ length (session w.plan s).gates
    → ((key : Key) → key.session < s → got key ≡ later key)
    → ((key : Key) → key.session ≡ s → key.slot < first_of_gate (session w.plan s) n → got key ≡ later key)
    → (v i : ℕ) → i < length w.plan.groups
    → summands (local_run w got p s) n v i ≡ summands (local_run w later p s) n v i
