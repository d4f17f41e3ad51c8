-- Plans: parties, maximal groups and sessions; and what a party deals in the slots of a session.
use Rattle.std.specs.Prelude.{◌≡◌, ℕ, ◌+◌, ◌-◌, ◌<◌, Bool, true, false, ◌&&◌, nat_eq, if◌then◌else◌, List, length, slice_index, slice_index_or}
use Rattle.list_laws.specs.Lists.{total}
use Rattle.secret_sharing.specs.Schemes.{Scheme, has_pair}
use Rattle.party_set.specs.Parties.{Structure, IsQ2, has_party}
use Rattle.session_slots.specs.declared.source.Source.TheVariants.{Earlier}
use Rattle.session_slots.specs.Sessions.{Session, Slot, given_by, is_direct, no_session, owners, readers, session_slot, session_slots, source}
use Rattle.session_slots.specs.Sessions.Slot.{Input, At_gate, Output, Mask, Mask_product, Masked, Kept}
use Rattle.session_slots.specs.Carries.{keeping, kept_from, kept_place}
use Rattle.session_slots.specs.SlotNumbers.{session_slot_number}
use Rattle.share_layout.specs.Layouts as layout
use Rattle.secret_sharing.specs.Duties as duties

-- a ring, parties with the groups that are tolerated, and sessions
pub record Plan : Type 0 where
  pub bits : ℕ
  pub parties : ℕ
  pub groups : List ℕ  -- the masks of the maximal tolerated groups
  pub sessions : List Session

-- ---- parties and summands

-- the plan of these parts
abbrev pub plan_of : ℕ → Structure → List Session → Plan
plan_of bits structure sessions =
    record { bits = bits; parties = structure.parties; groups = structure.groups; sessions = sessions }

-- the parties and the maximal tolerated groups
abbrev pub structure : Plan → Structure
structure plan = record { parties = plan.parties; groups = plan.groups }

-- party p is outside group i
abbrev pub is_holder : Plan → ℕ → ℕ → Bool
is_holder plan = layout.holds (structure plan)

-- the least party that passes
abbrev pub least_party : Plan → (ℕ → Bool) → ℕ
least_party plan = layout.least_party (structure plan)

-- the least party that holds summand i
abbrev pub holder_of : Plan → ℕ → ℕ
holder_of plan = layout.least_holder (structure plan)

-- the least party that holds both summands
abbrev pub duty : Plan → ℕ → ℕ → ℕ
duty plan = duties.duty (structure plan)

-- the sharing of the plan
abbrev pub scheme : Plan → Scheme
scheme plan = duties.scheme_of plan.bits (structure plan)

-- no two groups cover all parties
abbrev pub Q2 : Plan → Type 0
Q2 plan = IsQ2 (structure plan)

-- session s of a plan
abbrev pub session : Plan → ℕ → Session
session plan s = slice_index_or plan.sessions s no_session

-- each carried wire is carried from an earlier session
abbrev pub CarriesEarlier : Plan → Type 0
CarriesEarlier plan = (s v r c i : ℕ) → source (session plan s) v ≡ Earlier r c i → r < s

-- each session keeps what the sessions of the plan carry from it
abbrev pub KeepsCarried : Plan → Type 0
KeepsCarried plan = (s : ℕ) → (session plan s).kept ≡ kept_from s plan.sessions

-- the plan whose sessions keep so
abbrev pub keeping_plan : Plan → Plan
keeping_plan plan = record plan { sessions = keeping plan.sessions }

-- values can be shared, and products computed; sessions keep what later ones carry
pub record IsPlan (plan : Plan) : Type 0 where
  pub bits : 0 < plan.bits
  pub groups : 0 < length plan.groups
  pub q2 : Q2 plan
  pub earlier : CarriesEarlier plan
  pub kept : KeepsCarried plan

-- ---- sessions and their slots

-- slot k of session s of a plan
abbrev pub slot : Plan → ℕ → ℕ → Slot
slot plan s k = session_slot (session plan s) k

-- how many slots session s of a plan has
abbrev pub slots : Plan → ℕ → ℕ
slots plan s = session_slots (session plan s)

-- the number of a slot of session s
abbrev pub slot_number : Plan → ℕ → Slot → ℕ
slot_number plan s z = session_slot_number (session plan s) z

-- the slot in which session r keeps the wire that input wire v of session s carries from it
abbrev pub keeping_slot : Plan → ℕ → ℕ → ℕ → ℕ
keeping_slot plan s v r = slot_number plan r (Kept (kept_place plan.sessions s v))

-- ---- what is done in a slot of session s

-- party p gives input wire v, which is not carried then
abbrev pub gives : Plan → ℕ → ℕ → ℕ → Bool
gives plan s p v = given_by p (source (session plan s) v)

-- how many of the input wires before v party p gives
abbrev pub given_before : Plan → ℕ → ℕ → ℕ → ℕ
given_before plan p s v = total v (λ u. if gives plan s p u then 1 else 0)

-- how many of all input wires of session s it gives
abbrev pub input_count : Plan → ℕ → ℕ → ℕ
input_count plan p s = given_before plan p s (length (owners (session plan s)))

-- party p deals: an input that it gives, or its part of a product, which of a prepared one is the product of its masks;
-- a carried input is dealt by nobody
abbrev pub deals_in : Plan → ℕ → ℕ → Slot → Bool
deals_in plan s p (Input v) = gives plan s p v
deals_in plan s p (At_gate t) = is_direct (session plan s) t && has_pair (scheme plan) p
deals_in plan s p (Mask_product t) = has_pair (scheme plan) p
deals_in plan s p _ = false

-- something is opened to party r: an output that it reads, or, to each party, a masked wire
abbrev pub opens_to : Plan → ℕ → ℕ → Slot → Bool
opens_to plan s r (Output o) = has_party (slice_index (readers (session plan s)) o) r
opens_to plan s r (Masked t side) = true
opens_to plan s r _ = false

-- party p reads output wire o of session s
abbrev pub reads : Plan → ℕ → ℕ → ℕ → Bool
reads plan p s o = opens_to plan s p (Output o)

-- ---- tape words

-- of how many of the first i summands party p is the least holder
abbrev pub least_held : Plan → ℕ → ℕ → ℕ
least_held plan p i = total i (λ j. if nat_eq (holder_of plan j) p then 1 else 0)

-- how many tape words p draws in this slot: of a mask one for each summand of which it is the least holder, and for a
-- deal one less than there are summands
abbrev pub words_in : Plan → ℕ → ℕ → Slot → ℕ
words_in plan s p (Mask t side) = least_held plan p (length plan.groups)
words_in plan s p z = if deals_in plan s p z then length plan.groups - 1 else 0

-- how many p draws in session s before slot k
abbrev pub words_before : Plan → ℕ → ℕ → ℕ → ℕ
words_before plan p s k = total k (λ j. words_in plan s p (slot plan s j))

-- how many p draws in session s
abbrev pub words : Plan → ℕ → ℕ → ℕ
words plan p s = words_before plan p s (slots plan s)

-- the place on p's tape of the first word that it draws in slot k of session s
abbrev pub place : Plan → ℕ → ℕ → ℕ → ℕ
place plan p s k = total s (words plan p) + words_before plan p s k

-- the place of summand i of the mask in slot k, on the tape of its least holder
abbrev pub random_place : Plan → ℕ → ℕ → ℕ → ℕ
random_place plan s k i = place plan (holder_of plan i) s k + least_held plan (holder_of plan i) i
