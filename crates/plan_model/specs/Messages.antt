-- The messages of a plan, in the order of their numbers: session by session and slot by slot.
use Rattle.std.specs.Prelude.{ℕ, ◌&&◌, not, nat_eq, List, [], ◌∷◌, length}
use Rattle.list_laws.specs.Lists.{joined, only_if}
use Rattle.plan_model.specs.declared.key.Key.{Key}
use Rattle.session_slots.specs.declared.source.Source.{Source}
use Rattle.session_slots.specs.declared.source.Source.TheVariants.{Given, Earlier}
use Rattle.session_slots.specs.Sessions.{Slot, source}
use Rattle.session_slots.specs.Sessions.Slot.{Input, At_gate, Output, Mask, Mask_product, Masked, Kept}
use Rattle.plan_model.specs.Plans.{Plan, is_holder, holder_of, deals_in, session, slot, slots, opens_to}

-- summand i of a deal of p, to party q: a message where q is another party that holds it
abbrev pub deal_message : Plan → ℕ → ℕ → ℕ → ℕ → ℕ → List Key
deal_message plan s k p i q =
    only_if (not (nat_eq q p) && is_holder plan q i)
    (record { session = s; slot = k; share = i; sender = p; receiver = q } ∷ [])

-- a deal of p: each summand to each other party that holds it
abbrev pub deal_messages : Plan → ℕ → ℕ → ℕ → List Key
deal_messages plan s k p = joined (length plan.groups) (λ i. joined plan.parties (deal_message plan s k p i))

-- an opening to r: each summand that r lacks, from its least holder
abbrev pub open_messages : Plan → ℕ → ℕ → ℕ → List Key
open_messages plan s k r =
    joined (length plan.groups) (λ i. only_if (not (is_holder plan r i))
    (record { session = s; slot = k; share = i; sender = holder_of plan i; receiver = r } ∷ []))

-- an input that a party gives is dealt by it; one that is carried has no messages
abbrev pub input_messages : Plan → ℕ → ℕ → Source → List Key
input_messages plan s k (Given p) = deal_messages plan s k p
input_messages plan s k (Earlier r c i) = []

-- a deal by each party that deals in the slot
abbrev pub product_messages : Plan → ℕ → ℕ → Slot → List Key
product_messages plan s k z = joined plan.parties (λ p. only_if (deals_in plan s p z) (deal_messages plan s k p))

-- a mask: each summand from its least holder to each other party that holds it
abbrev pub mask_messages : Plan → ℕ → ℕ → List Key
mask_messages plan s k =
    joined (length plan.groups) (λ i. joined plan.parties (deal_message plan s k (holder_of plan i) i))

-- summand i of a kept wire, from party p to itself: a message where p holds it
abbrev pub kept_message : Plan → ℕ → ℕ → ℕ → ℕ → List Key
kept_message plan s k i p =
    only_if (is_holder plan p i) (record { session = s; slot = k; share = i; sender = p; receiver = p } ∷ [])

-- a kept wire: each summand from each party that holds it to itself
abbrev pub kept_messages : Plan → ℕ → ℕ → List Key
kept_messages plan s k = joined (length plan.groups) (λ i. joined plan.parties (kept_message plan s k i))

-- an input is dealt by the party that gives it, a product by each party that has a pair, an output is opened to each
-- reader, and a masked wire to all; a kept wire is kept by its holders
abbrev pub slot_messages : Plan → ℕ → ℕ → Slot → List Key
slot_messages plan s k (Input v) = input_messages plan s k (source (session plan s) v)
slot_messages plan s k (At_gate t) = product_messages plan s k (At_gate t)
slot_messages plan s k (Output o) =
    joined plan.parties (λ r. only_if (opens_to plan s r (Output o)) (open_messages plan s k r))
slot_messages plan s k (Mask t side) = mask_messages plan s k
slot_messages plan s k (Mask_product t) = product_messages plan s k (Mask_product t)
slot_messages plan s k (Masked t side) = joined plan.parties (open_messages plan s k)
slot_messages plan s k (Kept j) = kept_messages plan s k

-- the messages of session s, slot by slot
abbrev pub session_messages : Plan → ℕ → List Key
session_messages plan s = joined (slots plan s) (λ k. slot_messages plan s k (slot plan s k))

-- all messages of the plan, session by session
abbrev pub messages : Plan → List Key
messages plan = joined (length plan.sessions) (session_messages plan)
