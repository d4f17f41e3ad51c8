-- The numbers of messages, and the places of tape words.
use Rattle.std.specs.Prelude.{◌≡◌, ◌≢◌, ℕ, ◌+◌, ◌*◌, ◌<◌, Bool, true, false, ◌&&◌, nat_eq, nat_le, List, length, slice_index_or, if◌then◌else◌}
use Rattle.std.specs.List.{position_or_len}
use Rattle.list_laws.specs.Lists.{total}
use Rattle.session_slots.specs.declared.side.Side.{Side}
use Rattle.session_slots.specs.Sessions.{Slot}
use Rattle.session_slots.specs.Sessions.Slot.{Mask}
use Rattle.plan_model.specs.Plans.{Plan, slot, slots, holder_of, least_held, words_in, place, deals_in}
use Rattle.plan_model.specs.declared.key.Key.{Key}
use Rattle.plan_model.specs.declared.pattern.TransferOrder.{TransferOrder}
use Rattle.plan_model.specs.declared.pattern.TransferOrder.TheVariants.{BySender, BySummand, ByReceiver}
use Rattle.plan_model.specs.Messages.{messages}
use Rattle.party_set.specs.declared.limits.TheConstants.{MOST_PARTIES, MOST_GROUPS}

-- two keys name the same message
abbrev pub same_key : Key → Key → Bool
same_key a b =
    nat_eq a.session b.session && (nat_eq a.slot b.slot &&
    (nat_eq a.share b.share && (nat_eq a.sender b.sender && nat_eq a.receiver b.receiver)))

-- what stands for a message that isn't there
abbrev pub no_key : Key
no_key = record { session = 0; slot = 0; share = 0; sender = 0; receiver = 0 }

-- message n of the plan
abbrev pub message : Plan → ℕ → Key
message plan n = slice_index_or (messages plan) n no_key

-- the number of a message, and the count of messages for any other key
abbrev pub number : Plan → Key → ℕ
number plan key = position_or_len (same_key key) (messages plan)

-- what rises along messages that stand in this order: by sender, summand and receiver, by summand and receiver, or by
-- receiver and summand
abbrev pub rank : TransferOrder → Key → ℕ
rank BySender key = (key.sender * MOST_GROUPS + key.share) * MOST_PARTIES + key.receiver
rank BySummand key = key.share * MOST_PARTIES + key.receiver
rank ByReceiver key = key.receiver * MOST_GROUPS + key.share

-- f rises along the keys
abbrev pub IsRising : (Key → ℕ) → List Key → Type 0
IsRising f keys =
    (i j : ℕ) → i < j → j < length keys → f (slice_index_or keys i no_key) < f (slice_index_or keys j no_key)

-- messages and numbers are each other's inverse
abbrev pub NumbersAreInverse : Plan → Type 0
NumbersAreInverse plan =
    ((n : ℕ) → n < length (messages plan) → number plan (message plan n) ≡ n)
    × ((key : Key) → number plan key < length (messages plan) → message plan (number plan key) ≡ key)

-- different words of a party have different places
abbrev pub PlacesDiffer : Plan → ℕ → Type 0
PlacesDiffer plan p =
    (s k i s' k' i' : ℕ) → s < length plan.sessions → k < slots plan s
    → i < words_in plan s p (slot plan s k)
    → s' < length plan.sessions → k' < slots plan s'
    → i' < words_in plan s' p (slot plan s' k')
    → place plan p s k + i ≡ place plan p s' k' + i' → (s ≡ s') × (k ≡ k') × (i ≡ i')

-- how many deals of p stand before slot k of session s
abbrev pub deals_before : Plan → ℕ → ℕ → ℕ → ℕ
deals_before plan p s k = total k (λ j. if deals_in plan s p (slot plan s j) then 1 else 0)

-- how many deals of p stand in session s
abbrev pub deals : Plan → ℕ → ℕ → ℕ
deals plan p s = deals_before plan p s (slots plan s)

-- the slot of deal d of p in session s: as many slots stand before it as there are with at most d deals up to and with
-- them; past the last deal, the count of slots
abbrev pub deal_slot : Plan → ℕ → ℕ → ℕ → ℕ
deal_slot plan p s d = total (slots plan s) (λ k. if nat_le (deals_before plan p s (k + 1)) d then 1 else 0)

-- the place on p's tape of the first word of deal d of session s, behind all words that it draws before
abbrev pub deal_place : Plan → ℕ → ℕ → ℕ → ℕ
deal_place plan p s d = place plan p s (deal_slot plan p s d)

-- the slots in which p deals are those of its deals, in order
abbrev pub DealsHaveSlots : Plan → ℕ → Type 0
DealsHaveSlots plan p =
    (s k : ℕ) → k < slots plan s → deals_in plan s p (slot plan s k) ≡ true
    → deal_slot plan p s (deals_before plan p s k) ≡ k

-- a slot of the mask of a wire
abbrev pub is_mask : Slot → Bool
is_mask (Mask t side) = true
is_mask _ = false

-- how many masks stand before slot k of session s
abbrev pub masks_before : Plan → ℕ → ℕ → ℕ
masks_before plan s k = total k (λ j. if is_mask (slot plan s j) then 1 else 0)

-- party p draws summand i of the mask in slot k of session s
pub record DrawsSummand (plan : Plan) (p s k i : ℕ) : Type 0 where
  pub mask : is_mask (slot plan s k) ≡ true
  pub drawer : holder_of plan i ≡ p

-- each summand of a mask is one of the words that its least holder draws in the slot, and no two are the same word
pub record MasksHaveWords (plan : Plan) : Type 0 where
  pub within : (s t i : ℕ) (side : Side) → i < length plan.groups
      → least_held plan (holder_of plan i) i < words_in plan s (holder_of plan i) (Mask t side)
  pub apart : (i j : ℕ) → holder_of plan i ≡ holder_of plan j → i ≢ j
      → least_held plan (holder_of plan i) i ≢ least_held plan (holder_of plan j) j
