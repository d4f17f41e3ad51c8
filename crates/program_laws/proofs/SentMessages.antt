-- What each message of a plan is: where it stands, and who sends and gets it.
use Rattle.std.proofs.Common.{◌≡◌, ◌≢◌, ℕ, ◌<◌, true, false, nat_eq, length, refl, sym, subst, ◌∙◌}
use Rattle.std.specs.List.{AllByRecursion}
use Rattle.std.proofs.lemmas.Bool.{both_ways, eq-eqb, ne_eqb}
use Rattle.session_slots.specs.declared.source.Source.TheVariants.{Given}
use Rattle.session_slots.specs.Sessions.{Slot, owners, source}
use Rattle.session_slots.specs.Sessions.Slot.{Input, At_gate, Output, Mask, Mask_product, Masked, Kept}
use Rattle.session_slots.specs.SoundSessions.{Inside}
use Rattle.session_slots.proofs.SessionSlots.{slots_are_numbered}
use Rattle.plan_model.specs.Plans.{Plan, IsPlan, session, slot, slots, is_holder, holder_of}
use Rattle.plan_model.specs.declared.key.Key.{Key}
use Rattle.plan_model.specs.Firsts.{numbers}
use Rattle.plan_model.specs.Messages.{messages, slot_messages}
use Rattle.plan_model.specs.Numbers.{message, no_key}
use Rattle.plan_model.specs.Sound.{IsSound}
use Rattle.plan_model.proofs.DistinctMessages.{every_place, number_of_message}
use Rattle.plan_model.proofs.MessageSlots.{IsThere, is_there}
use Rattle.plan_model.proofs.PlanSchemes.{least_within, least_holds}
use Rattle.plan_model.proofs.SlotMessages.{each_number}
use Rattle.share_world.proofs.GoingMessages.{Goes, every_going}
use Rattle.program_laws.specs.Once.{GiversAreParties, keeps}

-- a message stands in the slot that it names
pub there : (plan : Plan) (n : ℕ) → n < length (messages plan) → IsThere plan (message plan n) (message plan n).session (message plan n).slot
there plan n l = is_there plan (message plan n) (subst (λ z. z < length (messages plan)) (sym (number_of_message plan n l)) l)

-- and goes there
pub record Going (plan : Plan) (key : Key) : Type 0 where
  pub inside : Inside (session plan key.session) (slot plan key.session key.slot)
  pub share : key.share < length plan.groups
  pub receiver : key.receiver < plan.parties
  pub goes : Goes plan key.session (slot plan key.session key.slot) key.share key.sender key.receiver

pub going : (plan : Plan) (n : ℕ) → n < length (messages plan) → Going plan (message plan n)
going plan n l =
    let s : ℕ = (message plan n).session in
    let k : ℕ = (message plan n).slot in
    let here = there plan n l in
    let inside = (slots_are_numbered (session plan s)).inside k here.slot_within in
    subst (Going plan) here.is (every_place (Going plan) (slot_messages plan s k (slot plan s k)) here.place no_key
    (every_going (Going plan) plan s k (slot plan s k) (λ i q p li lp goes. record { inside = inside; share = li; receiver = lp; goes = goes })) here.place_within)

-- ---- who sends

-- those who give inputs of the session are parties
abbrev pub Owned : Plan → ℕ → Type 0
Owned plan s = (v p : ℕ) → v < length (owners (session plan s)) → source (session plan s) v ≡ Given p → p < plan.parties

pub givers : (plan : Plan) → IsSound plan → GiversAreParties plan
givers plan sound t v q lt = (sound.sessions t lt).owned v q

module _ (plan : Plan) (h : IsPlan plan) (s : ℕ) where
  pub sender_within : Owned plan s → (z : Slot) (i q p : ℕ) → Inside (session plan s) z → i < length plan.groups → Goes plan s z i q p → q < plan.parties
  sender_within owned (Input v) i q p inside li goes = owned v q inside goes.0
  sender_within owned (At_gate t) i q p inside li goes = goes.0
  sender_within owned (Output o) i q p inside li goes = subst (λ r. r < plan.parties) goes.1.0 (least_within plan h i li)
  sender_within owned (Mask t side) i q p inside li goes = subst (λ r. r < plan.parties) goes.0 (least_within plan h i li)
  sender_within owned (Mask_product t) i q p inside li goes = goes.0
  sender_within owned (Masked t side) i q p inside li goes = subst (λ r. r < plan.parties) goes.0 (least_within plan h i li)
  sender_within owned (Kept j) i q p inside li goes = goes.0

  -- what is opened goes to another party
  opens_apart : (i q p : ℕ) → i < length plan.groups → holder_of plan i ≡ q → is_holder plan p i ≡ false → nat_eq q p ≡ false
  opens_apart i q p li least lacks = ne_eqb q p (λ e. both_ways (is_holder plan p i) lacks (subst (λ r. is_holder plan r i ≡ true) (least ∙ e) (least_holds plan h i li)))

  deals_apart : (q p : ℕ) → p ≢ q → nat_eq q p ≡ false
  deals_apart q p ne = ne_eqb q p (λ e. ne (sym e))

  -- a kept wire stays with its party, and all else goes to another one
  pub stays : (z : Slot) (i q p : ℕ) → i < length plan.groups → Goes plan s z i q p → nat_eq q p ≡ keeps z
  stays (Input v) i q p li goes = deals_apart q p goes.1.0
  stays (At_gate t) i q p li goes = deals_apart q p goes.2.0
  stays (Output o) i q p li goes = opens_apart i q p li goes.1.0 goes.1.1
  stays (Mask t side) i q p li goes = deals_apart q p goes.1.0
  stays (Mask_product t) i q p li goes = deals_apart q p goes.2.0
  stays (Masked t side) i q p li goes = opens_apart i q p li goes.0 goes.1
  stays (Kept j) i q p li goes = eq-eqb q p goes.1

-- ---- the messages of a slot

-- the message is of this session and slot, from a party, and of a summand that there is
abbrev pub Of : Plan → ℕ → ℕ → Key → Type 0
Of plan s k y = (y.slot ≡ k) × (y.sender < plan.parties) × (y.session ≡ s) × (y.share < length plan.groups)

pub each : (plan : Plan) → IsPlan plan → (s k : ℕ) → s < length plan.sessions → Owned plan s → k < slots plan s
    → AllByRecursion (λ n. (n < length (messages plan)) × Of plan s k (message plan n)) (numbers plan s k)
each plan h s k ls owned lk =
    let inside : Inside (session plan s) (slot plan s k) = (slots_are_numbered (session plan s)).inside k lk in
    each_number plan s k ls lk (Of plan s k) (every_going (Of plan s k) plan s k (slot plan s k) (λ i q p li lp goes. (refl, sender_within plan h s owned (slot plan s k) i q p inside li goes, refl, li)))
