-- The patterns of slots: how the messages of a slot go, which depends on its kind alone.
use Rattle.std.specs.Prelude.{◌≡◌, ℕ, ◌<◌, ◌&&◌, not, nat_eq, if◌then◌else◌, List, [], ◌∷◌, map, length, slice_index}
use Rattle.list_laws.specs.Lists.{joined, only_if}
use Rattle.secret_sharing.specs.Schemes.{has_pair}
use Rattle.party_set.specs.Parties.{has_party}
use Rattle.plan_model.specs.declared.key.Key.{Key}
use Rattle.plan_model.specs.declared.pattern.Transfer.{Transfer}
use Rattle.plan_model.specs.declared.pattern.TransferOrder.{TransferOrder}
use Rattle.plan_model.specs.declared.pattern.TransferOrder.TheVariants.{BySender, BySummand, ByReceiver}
use Rattle.plan_model.specs.declared.pattern.Pattern.{Pattern}
use Rattle.plan_model.specs.declared.pattern.Pattern.TheVariants.{Silent, Dealt, Multiplied, Opened, HandedOut, OpenedToAll, Joined, Held, Received}
use Rattle.session_slots.specs.declared.source.Source.{Source}
use Rattle.session_slots.specs.declared.source.Source.TheVariants.{Given, Earlier}
use Rattle.session_slots.specs.Sessions.{Slot, readers, is_direct, is_prepared, source}
use Rattle.session_slots.specs.Sessions.Slot.{Input, At_gate, Output, Mask, Mask_product, Masked, Kept}
use Rattle.plan_model.specs.Plans.{Plan, is_holder, holder_of, scheme, session, slot}
use Rattle.plan_model.specs.Messages.{slot_messages}

-- the message of a transfer, in slot k of session s
abbrev pub named : ℕ → ℕ → Transfer → Key
named s k transfer = record {
  session = s;
  slot = k;
  share = transfer.share;
  sender = transfer.sender;
  receiver = transfer.receiver;
}

-- ---- the transfers of a pattern

-- summand i of a deal of p, to party q
abbrev pub deal_transfer : Plan → ℕ → ℕ → ℕ → List Transfer
deal_transfer plan p i q =
    only_if (not (nat_eq q p) && is_holder plan q i) (record { share = i; sender = p; receiver = q } ∷ [])

-- a deal of p: each summand to each other party that holds it
abbrev pub deal_transfers : Plan → ℕ → List Transfer
deal_transfers plan p = joined (length plan.groups) (λ i. joined plan.parties (deal_transfer plan p i))

-- an opening to r: each summand that r lacks, from its least holder
abbrev pub open_transfers : Plan → ℕ → List Transfer
open_transfers plan r =
    joined (length plan.groups) (λ i. only_if (not (is_holder plan r i))
    (record { share = i; sender = holder_of plan i; receiver = r } ∷ []))

-- summand i of a kept wire, which party p holds
abbrev pub held_transfer : Plan → ℕ → ℕ → List Transfer
held_transfer plan i p = only_if (is_holder plan p i) (record { share = i; sender = p; receiver = p } ∷ [])

-- the transfers of a pattern, in order: of a product each party that has a pair deals, an output is opened to each
-- reader, the summands of a mask are handed out by their least holders, and those of a kept wire stay with all their
-- holders
abbrev pub transfers : Plan → Pattern → List Transfer
transfers plan Silent = []
transfers plan (Dealt p) = deal_transfers plan p
transfers plan Multiplied = joined plan.parties (λ p. only_if (has_pair (scheme plan) p) (deal_transfers plan p))
transfers plan (Opened readers) = joined plan.parties (λ r. only_if (has_party readers r) (open_transfers plan r))
transfers plan HandedOut =
    joined (length plan.groups) (λ i. joined plan.parties (deal_transfer plan (holder_of plan i) i))
transfers plan OpenedToAll = joined plan.parties (open_transfers plan)
transfers plan Joined = []
transfers plan Held = joined (length plan.groups) (λ i. joined plan.parties (held_transfer plan i))
transfers plan Received = []

-- the order in which the transfers of a pattern stand: openings by their receivers, masks and kept wires by their
-- summands, all others by their senders
abbrev pub order_of : Pattern → TransferOrder
order_of Silent = BySender
order_of (Dealt p) = BySender
order_of Multiplied = BySender
order_of (Opened readers) = ByReceiver
order_of HandedOut = BySummand
order_of OpenedToAll = ByReceiver
order_of Joined = BySender
order_of Held = BySummand
order_of Received = BySender

-- ---- the pattern of a slot

-- how the messages of an input go: a party deals it, or it is received from the earlier session
abbrev pub input_pattern : Source → Pattern
input_pattern (Given p) = Dealt p
input_pattern (Earlier r c i) = Received

-- how the messages of this slot of session s go
abbrev pub pattern : Plan → ℕ → Slot → Pattern
pattern plan s (Input v) = input_pattern (source (session plan s) v)
pattern plan s (At_gate t) =
    if is_direct (session plan s) t then Multiplied else if is_prepared (session plan s) t then Joined else Silent
pattern plan s (Output o) = Opened (slice_index (readers (session plan s)) o)
pattern plan s (Mask t side) = HandedOut
pattern plan s (Mask_product t) = Multiplied
pattern plan s (Masked t side) = OpenedToAll
pattern plan s (Kept j) = Held

-- the pattern of slot k of session s
abbrev pub pattern_at : Plan → ℕ → ℕ → Pattern
pattern_at plan s k = pattern plan s (slot plan s k)

-- an output wire of the plan is read by this group
pub record IsReadBy (plan : Plan) (mask : ℕ) : Type 0 where
  pub at : ℕ  -- the session
  pub output : ℕ
  pub session_there : at < length plan.sessions
  pub output_there : output < length (readers (session plan at))
  pub is : mask ≡ slice_index (readers (session plan at)) output

-- a pattern that slots of the plan may have: a deal is of a party, an opening to the readers of an output
abbrev pub Occurs : Plan → Pattern → Type 0
Occurs plan (Dealt p) = p < plan.parties
Occurs plan (Opened mask) = IsReadBy plan mask
Occurs plan _ = Unit {0}

-- the messages of a slot are the transfers of its pattern, named by the slot
abbrev pub SlotsFollowPatterns : Plan → Type 0
SlotsFollowPatterns plan =
    (s k : ℕ) (z : Slot) → slot_messages plan s k z ≡ map (named s k) (transfers plan (pattern plan s z))
